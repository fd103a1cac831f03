use Rattle.std.proofs.Common.{ap, ◌∙◌}
use Rattle.odb_atoms.specs.FinMap as finite
use Rattle.odb_sessions.specs.Book.{Book}
use Rattle.odb_sessions.proofs.Ties.{len-seen}
use Rattle.odb_sessions.proofs.sessions.Sessions.len.Goals as goal

pub returns : goal.returns
returns c = c.len.ensures ∙ len-seen c.self.inside.sessions ∙ ap (λ (b : Book). finite.len b.sessions) c.self.view_is
