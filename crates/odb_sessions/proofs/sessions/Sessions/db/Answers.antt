use Rattle.std.proofs.Common.{ap, ◌∙◌}
use Rattle.odb_chain.specs.Chains.{Chains}
use Rattle.odb_sessions.specs.Book.{Book}
use Rattle.odb_sessions.proofs.sessions.Sessions.db.Goals as goal

pub returns : goal.returns
returns c = c.db.ensures.db ∙ ap (λ (k : Chains). k.db) c.chains.ensures ∙ ap (λ (b : Book). b.db) c.self.view_is
