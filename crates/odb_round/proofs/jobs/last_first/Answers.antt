use Rattle.std.proofs.Common.{rules, ◌≡◌, ◌-◌, ◌<◌, arith, length, slice_index_or, sym, ap, ◌∙◌}
use Rattle.std.specs.Prelude.{option_and_then}
use Rattle.odb_sessions.specs.Composed.{composition}
use Rattle.odb_sessions.specs.Represented.Composed.{bytes_in}
use Rattle.odb_round.proofs.Places.{body_composed, found_at, same_length}
use Rattle.odb_round.proofs.jobs.last_first.Goals as goal

pub first_text-requires : goal.first_text-requires
first_text-requires c =
    let n = c.loop-place.place - 1 in
    let body = c.index-bodies-at.result in
    let job = c.index-jobs-at.result in
    let jobs : n < length c.args.jobs.now = search rules in
    let many : length c.args.bodies.now ≡ length c.args.jobs.now = same_length bytes_in composition c.args.bodies.now c.args.jobs.now c.requires in
    let bodies : n < length c.args.bodies.now = omega (arith, jobs, many) in
    let body_at : body ≡ slice_index_or c.args.bodies.now n body = search rules in
    let job_at : job ≡ slice_index_or c.args.jobs.now n job = search rules in
    sym (ap (option_and_then bytes_in) (found_at c.args.bodies.now n body bodies body_at))
    ∙ body_composed bytes_in c.args.bodies.now c.args.jobs.now n c.requires
    ∙ ap (option_and_then composition) (found_at c.args.jobs.now n job jobs job_at)
