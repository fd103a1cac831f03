use Rattle.std.proofs.Common.{rules, ◌≡◌, ◌≤◌, ◌<◌, ◌++◌, List, [], ◌∷◌, Some, Option, ℕ, length, map, slice_get, slice_index_or, subst, sym}
use Rattle.std.proofs.lemmas.List.{append-nil, length-map}
use Rattle.odb_par.specs.Shares.{IsShare}
use Rattle.odb_sessions.specs.Composed.{composition}
use Rattle.odb_sessions.specs.Represented.Composed.{bytes_in}
use Rattle.odb_par.proofs.Shares.{ends, goes_on, made_at, pushed}
use Rattle.odb_par.proofs.worker.own_bodies.Goals as goal

pub loop-place-preserved : goal.loop-place-preserved
loop-place-preserved g c =
    let jobs = c.args.jobs.now in
    let all : List (Option (List ℕ)) = map composition jobs in
    let place = c.loop-place.place in
    let job = c.index-jobs-place.result in
    let body = c.in_ok-body.body in
    let low : place < length jobs = search rules in
    let job_at : job ≡ slice_index_or jobs place job = search rules in
    let items : c.push.new.self.items ≡ c.loop-place.bodies.items ++ body ∷ [] = search rules in
    let text_at : slice_get all place ≡ Some (bytes_in body) = made_at composition jobs place job (bytes_in body) low job_at c.in_ok-body.ensures in
    λ rest more. subst (IsShare c.args.first c.args.workers all) (pushed bytes_in c.loop-place.bodies.items body c.push.new.self.items rest items)
    (c.loop-place.invariant (bytes_in body ∷ rest) (goes_on place c.args.workers all (bytes_in body) rest text_at more))

pub returns : goal.returns
returns g c =
    let jobs = c.args.jobs.now in
    let all : List (Option (List ℕ)) = map composition jobs in
    let past : length jobs ≤ c.loop-place.place = search rules in
    let all_past : length all ≤ c.loop-place.place = subst (λ n. n ≤ c.loop-place.place) (sym (length-map jobs composition)) past in
    subst (IsShare c.args.first c.args.workers all) (append-nil (map bytes_in c.loop-place.bodies.items)) (c.loop-place.invariant [] (ends c.loop-place.place c.args.workers all all_past))
