use Rattle.std.proofs.Common.{rules, ◌≡◌, ◌^◌, ◌<◌, ◌≤◌, arith, [], ◌∷◌, nat_eq, subst, sym, true, ap, ◌∙◌}
use Rattle.std.proofs.lemmas.Bool.Decides.{nat_tests}
use Rattle.odb_chain.specs.Chains.{Chains, IsLive, IsNow, Mark, count, version}
use Rattle.odb_tables.specs.Database.{table_at}
use Rattle.odb_sessions.specs.Moved.{Moves, now_of}
use Rattle.odb_sessions.specs.Tied.{HasAll, counted_in}
use Rattle.odb_sessions.proofs.Counted.{few_counted, room_kept}
use Rattle.odb_sessions.proofs.KeptTexts.{same_firsts}
use Rattle.odb_sessions.proofs.Moves.{moves_one, moves_still, stays_now}
use Rattle.odb_sessions.proofs.Room.{room_moved}
use Rattle.odb_sessions.proofs.past.Past.advance.Goals as goal

pub is_now-requires : goal.is_now-requires
is_now-requires c = subst (λ (x : Chains). IsLive x c.args.mark.now) (sym c.self.view_is) c.requires.has.0.0

pub advance-requires-clause-live : goal.advance-requires-clause-live
advance-requires-clause-live c = subst (λ (x : Chains). IsLive x c.args.mark.now) (sym c.self.view_is) c.requires.has.0.0

pub advance-requires-clause-few : goal.advance-requires-clause-few
advance-requires-clause-few c =
    let k : Chains = c.self.inside.chains in
    let t = c.args.mark.now.table in
    let low : counted_in k.live < c.self.inside.made = c.self.invariant.0.1 in
    let fits : c.self.inside.made < 2 ^ 64 = search rules in
    let here : count k t (version k t) ≤ counted_in k.live = few_counted k t (version k t) in
    omega (arith, low, fits, here)

pub invariant_of-self : goal.invariant_of-self
invariant_of-self c =
    let k : Chains = c.self.inside.chains in
    let m : Mark = c.args.mark.now in
    let has : HasAll k (m ∷ []) = subst (λ (x : Chains). HasAll x (m ∷ [])) (sym c.self.view_is) c.requires.has in
    let moved : Moves k c.advance.new.self (m ∷ []) = moves_one k c.advance.new.self m has (subst IsNow (sym c.self.view_is) c.requires.now) c.advance.ensures.chains c.advance.ensures.now in (
      room_moved k c.advance.new.self c.self.inside.made (m ∷ []) c.self.invariant.0 moved (room_kept k c.advance.new.self m has c.advance.ensures.chains),
      same_firsts k c.advance.new.self c.self.inside.firsts moved.0 c.self.invariant.1,
    )

pub returns-then-is_now-clause-mark : goal.returns-then-is_now-clause-mark
returns-then-is_now-clause-mark c =
    let k : Chains = c.self.inside.chains in
    let m : Mark = c.args.mark.now in
    let is : nat_eq m.version (version k m.table) ≡ true = search rules in
    let same : m.version ≡ version k m.table = grind (arith, nat_tests) in
    let content : m.content ≡ table_at k.db m.table = search rules in
    sym (stays_now k m same content) ∙ ap (λ (x : Chains). now_of x m) c.self.view_is

pub returns-then-is_now-clause-moved : goal.returns-then-is_now-clause-moved
returns-then-is_now-clause-moved c =
    let k : Chains = c.self.inside.chains in
    let m : Mark = c.args.mark.now in
    let is : nat_eq m.version (version k m.table) ≡ true = search rules in
    let same : m.version ≡ version k m.table = grind (arith, nat_tests) in
    let content : m.content ≡ table_at k.db m.table = search rules in
    subst (λ (x : Chains). Moves x x (m ∷ [])) c.self.view_is (moves_still k m (stays_now k m same content))

pub returns-clause-mark : goal.returns-clause-mark
returns-clause-mark c = c.advance.ensures.mark ∙ ap (λ (x : Chains). now_of x c.args.mark.now) c.self.view_is

pub returns-clause-moved : goal.returns-clause-moved
returns-clause-moved c =
    let k : Chains = c.self.inside.chains in
    let m : Mark = c.args.mark.now in
    let has : HasAll k (m ∷ []) = subst (λ (x : Chains). HasAll x (m ∷ [])) (sym c.self.view_is) c.requires.has in
    subst (λ (x : Chains). Moves x c.advance.new.self (m ∷ [])) c.self.view_is
    (moves_one k c.advance.new.self m has (subst IsNow (sym c.self.view_is) c.requires.now) c.advance.ensures.chains c.advance.ensures.now)
