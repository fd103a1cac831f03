use Rattle.std.proofs.Common.{rules, ◌≡◌, ℕ, ◌+◌, ◌^◌, ◌<◌, arith, List, [], ◌∷◌, ◌++◌, length, map, subst, sym, ap, ◌∙◌, append_assoc}
use Rattle.std.proofs.lemmas.List.{length-append, map-append}
use Rattle.odb_chain.specs.Chains.{Chains, Mark}
use Rattle.odb_request.specs.Request.{Request}
use Rattle.odb_sessions.specs.Composed.{AreTheirs}
use Rattle.odb_sessions.specs.Marked.{Watched, table_marks}
use Rattle.odb_sessions.specs.Started.{AreOfTables}
use Rattle.odb_sessions.specs.Tied.{Adds, counted_in}
use Rattle.odb_sessions.proofs.Adds.{adds_none, adds_on, adds_one}
use Rattle.odb_sessions.proofs.Theirs.{theirs_joined}
use Rattle.odb_sessions.proofs.Watches.{few_left, first_few, first_inside, inside_left, lives_on, one_more_counted}
use Rattle.odb_sessions.proofs.monitor.watch_all.Goals as goal

pub loop-request-init : goal.loop-request-init
loop-request-init c =
    let all : c.into_iter-request-iterator.result.rest.items ≡ c.args.requests.items = search rules in
    let none : c.in_ok-tables.tables.items ≡ [] = search rules in
    record {
      inside = subst (AreOfTables c.args.chains.now.db) (sym all) c.requires.tables;
      few =
          let low : counted_in c.args.chains.now.live + length c.args.requests.items < 2 ^ 64 = c.requires.few in
          let long : length c.into_iter-request-iterator.result.rest.items ≡ length c.args.requests.items = ap length all in
          omega (arith, low, long);
      counted = let long : length c.in_ok-tables.tables.items ≡ 0 = ap length none in omega (arith, long);
      lives = c.requires.lives;
      adds = subst (λ (ws : List Watched). Adds c.args.chains.now c.args.chains.now (table_marks ws)) (sym none) (adds_none c.args.chains.now c.requires.now);
      asked = ap (λ (ws : List Watched). map (λ w. w.request) ws ++ c.into_iter-request-iterator.result.rest.items) none;
      theirs = subst AreTheirs (sym none) tt;
      room = search rules;
    }

pub mark_now-mark-requires-clause-inside : goal.mark_now-mark-requires-clause-inside
mark_now-mark-requires-clause-inside c =
    let old = c.loop-request in
    let q : Request = c.in-Some.request in
    let step : old.request-iterator.rest.items ≡ q ∷ c.next.new.self.rest.items = search rules in
    let at : c.table.result ≡ q.place = search rules in
    first_inside old.chains.db old.request-iterator.rest.items q c.next.new.self.rest.items c.table.result step at old.invariant.inside

pub mark_now-mark-requires-clause-few : goal.mark_now-mark-requires-clause-few
mark_now-mark-requires-clause-few c =
    let old = c.loop-request in
    let step : old.request-iterator.rest.items ≡ c.in-Some.request ∷ c.next.new.self.rest.items = search rules in
    first_few old.chains old.request-iterator.rest.items c.in-Some.request c.next.new.self.rest.items step old.invariant.few c.table.result

pub loop-request-preserved : goal.loop-request-preserved
loop-request-preserved c =
    let old = c.loop-request in
    let q : Request = c.in-Some.request in
    let rest : List Request = c.next.new.self.rest.items in
    let m : Mark = c.mark_now-mark.result in
    let t : ℕ = c.table.result in
    let new : Chains = c.mark_now-mark.new.self in
    let step : old.request-iterator.rest.items ≡ q ∷ rest = search rules in
    let at : t ≡ q.place = search rules in
    let low : t < length old.chains.db = first_inside old.chains.db old.request-iterator.rest.items q rest t step at old.invariant.inside in
    let one : Adds old.chains new (m ∷ []) = adds_one old.chains new t m (subst (λ n. t < n) (sym old.invariant.lives) low) old.invariant.adds.6 c.mark_now-mark.ensures.mark c.mark_now-mark.ensures.chains c.mark_now-mark.ensures.now in
    let more : counted_in new.live ≡ counted_in old.chains.live + 1 = one_more_counted old.chains new t (subst (λ n. t < n) (sym old.invariant.lives) low) c.mark_now-mark.ensures.chains in
    let w : Watched = record { request = q; told = q.filter; mark = m } in
    let last : c.push_reserved.new.self.items ≡ old.tables.items ++ c.new.result ∷ [] = search rules in
    let pushed : c.push_reserved.new.self.items ≡ old.tables.items ++ w ∷ [] = last ∙ ap (λ (x : Watched). old.tables.items ++ x ∷ []) c.new.ensures in
    let marks : table_marks c.push_reserved.new.self.items ≡ table_marks old.tables.items ++ m ∷ [] = ap table_marks pushed ∙ map-append (λ (x : Watched). x.mark) old.tables.items (w ∷ []) in
    let requests : map (λ (x : Watched). x.request) c.push_reserved.new.self.items ≡ map (λ (x : Watched). x.request) old.tables.items ++ q ∷ [] = ap (map (λ (x : Watched). x.request)) pushed ∙ map-append (λ (x : Watched). x.request) old.tables.items (w ∷ []) in
    record {
      inside = inside_left old.chains new old.request-iterator.rest.items q rest (m ∷ []) step one old.invariant.inside;
      few = few_left old.chains new old.request-iterator.rest.items q rest step more old.invariant.few;
      counted =
          let sum : counted_in old.chains.live ≡ counted_in c.args.chains.now.live + length old.tables.items = old.invariant.counted in
          let long : length c.push_reserved.new.self.items ≡ length old.tables.items + 1 = ap length pushed ∙ length-append old.tables.items (w ∷ []) in
          omega (arith, sum, more, long);
      lives = lives_on old.chains new (m ∷ []) one old.invariant.lives;
      adds = subst (Adds c.args.chains.now new) (sym marks) (adds_on c.args.chains.now old.chains new (table_marks old.tables.items) (m ∷ []) old.invariant.adds one);
      asked = ap (λ qs. qs ++ rest) requests ∙ append_assoc (map (λ w. w.request) old.tables.items) (q ∷ []) rest ∙ ap (λ qs. map (λ w. w.request) old.tables.items ++ qs) (sym step) ∙ old.invariant.asked;
      theirs = subst AreTheirs (sym pushed) (theirs_joined old.tables.items w old.invariant.theirs (ap (λ (x : Mark). x.table) c.mark_now-mark.ensures.mark ∙ at));
      room = search rules;
    }
