use Rattle.std.proofs.Common.{rules, ◌≡◌, ◌++◌, ◌<◌, List, [], ◌∷◌, length, map, slice_index_or, sym, ap, ◌∙◌}
use Rattle.std.proofs.lemmas.List.{map-append}
use Rattle.odb_monitor.specs.Job.{Job}
use Rattle.odb_sessions.specs.Composed.{composition}
use Rattle.odb_sessions.specs.Represented.Composed.{bytes_in}
use Rattle.odb_sessions.proofs.Loops.{mapped_more}
use Rattle.odb_round.proofs.jobs.compose_all.Goals as goal

pub loop-job-preserved : goal.loop-job-preserved
loop-job-preserved c =
    let js : List Job = c.args.jobs.now in
    let i = c.loop-job.job-index in
    let j : Job = c.job-item.result in
    let body = c.in_ok-compose.field-0 in
    let inside : i < length js = search rules in
    let is : j ≡ slice_index_or js i j = search rules in
    let items : c.push_reserved.new.self.items ≡ c.loop-job.bodies.items ++ body ∷ [] = search rules in
    let composed : bytes_in body ≡ composition j = c.in_ok-compose.ensures in (
      ap (map bytes_in) items ∙ map-append bytes_in c.loop-job.bodies.items (body ∷ [])
          ∙ (λ k. c.loop-job.invariant.0 k ++ composed k ∷ []) ∙ sym (mapped_more composition js i j inside is),
      search rules,
      search rules,
    )
