use Rattle.std.proofs.Common.{subst}
use Rattle.odb_sessions.specs.Book.{Book}
use Rattle.odb_sessions.specs.FirstTexts.{AreFirstTexts}
use Rattle.odb_sessions.proofs.sessions.Sessions.firsts.Goals as goal

pub returns : goal.returns
returns c = subst (λ (b : Book). AreFirstTexts b.db c.firsts.result.now) c.self.view_is c.firsts.ensures
