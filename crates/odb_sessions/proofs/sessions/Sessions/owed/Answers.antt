use Rattle.std.proofs.Common.{subst}
use Rattle.odb_sessions.specs.Owed.{AreOwed, book_seen}
use Rattle.odb_sessions.proofs.OwedSessions.{rest_owed}
use Rattle.odb_sessions.proofs.sessions.Sessions.owed.Goals as goal

pub returns : goal.returns
returns c =
    let old = c.self.inside in
    subst (AreOwed old.owed) c.self.view_is (rest_owed old.owed old.interest (book_seen old.past old.sessions) c.self.invariant.1)
