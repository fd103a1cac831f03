use Rattle.std.proofs.Common.{rules, ◌≡◌, map, ap, ◌∙◌}
use Rattle.std.proofs.lemmas.Result.{IfOk-weaker}
use Rattle.odb_round.specs.Jobs.{Round}
use Rattle.odb_sessions.specs.Composed.{composition}
use Rattle.odb_round.proofs.jobs.Jobs.compose.Goals as goal

pub returns : goal.returns
returns c =
    let slice : c.as_slice.result.now ≡ c.self.inside.jobs.items = search rules in
    IfOk-weaker c.compose_all.result _ _ (λ bodies e. e ∙ ap (map composition) slice ∙ ap (λ (r : Round). map composition r.jobs) c.self.view_is) c.compose_all.ensures
