use Rattle.std.proofs.Common.{◌≡◌, ◌∙◌}
use Rattle.odb_sessions.specs.Marked.{Watched}
use Rattle.odb_sessions.specs.Represented.Told.{told_under}
use Rattle.odb_sessions.proofs.monitor.Watching.owed.Goals as goal

pub returns : goal.returns
returns c = (λ j. let x : Watched = record { request = c.self.inside.request; told = told_under c.self.inside.request (c.other_filter-told.ensures j); mark = c.self.inside.mark } in x) ∙ c.self.view_is
