use Rattle.std.proofs.Common.{rules, ◌≡◌, ◌<◌, ◌/◌, ◌++◌, List, [], ◌∷◌, Option, None, Some, Ok, ℕ, length, map, slice_get, slice_index_or, sym, subst, ◌∙◌}
use Rattle.std.specs.Prelude.{vec_len}
use Rattle.std.proofs.lemmas.List.{length-map}
use Rattle.odb_sessions.specs.Composed.{composition}
use Rattle.odb_sessions.specs.Represented.Composed.{bytes_in}
use Rattle.odb_par.proofs.Shares.{dealt, made_at, texts_more, within}
use Rattle.odb_par.proofs.dealing.in_order.Goals as goal

pub index-requires : goal.index-requires
index-requires c =
    let all : List (Option (List ℕ)) = map composition c.args.jobs.now in
    let place = c.loop-place.place in
    let own = c.in-Ok.own in
    let low : place < length all = subst (λ n. place < n) (sym (length-map c.args.jobs.now composition)) (search rules) in
    let share : c.index-shares-place.result ≡ Ok own = search rules in
    let many : vec_len own ≡ length own.items = search rules in
    subst (λ n. place / c.args.workers < n) (sym many) (within bytes_in all place own.items (place / c.args.workers) None low (dealt c.args.workers place all c.args.shares.now c.index-shares-place.result own c.requires.workers low c.requires.shares c.index-shares-place.is share))

pub loop-place-preserved : goal.loop-place-preserved
loop-place-preserved c =
    let all : List (Option (List ℕ)) = map composition c.args.jobs.now in
    let place = c.loop-place.place in
    let own = c.in-Ok.own in
    let body = c.in_ok-shared.field-0 in
    let low : place < length all = subst (λ n. place < n) (sym (length-map c.args.jobs.now composition)) (search rules) in
    let share : c.index-shares-place.result ≡ Ok own = search rules in
    let mine : slice_get (map bytes_in own.items) (place / c.args.workers) ≡ slice_get all place = dealt c.args.workers place all c.args.shares.now c.index-shares-place.result own c.requires.workers low c.requires.shares c.index-shares-place.is share in
    let found : c.index.result.now ≡ slice_index_or own.items (place / c.args.workers) c.index.result.now = search rules in
    let at : slice_get all place ≡ Some (bytes_in body) = sym mine ∙ made_at bytes_in own.items (place / c.args.workers) c.index.result.now (bytes_in body) (within bytes_in all place own.items (place / c.args.workers) None low mine) found c.in_ok-shared.ensures in
    let items : c.push_reserved.new.self.items ≡ c.loop-place.bodies.items ++ body ∷ [] = search rules in (
      texts_more bytes_in all place c.loop-place.bodies.items body c.push_reserved.new.self.items items c.loop-place.invariant.0 at,
      search rules,
      search rules,
    )
