use Rattle.std.proofs.Common.{◌≡◌, ◌++◌, drop}
use Rattle.odb_service.specs.Run.{once}
use Rattle.odb_core.proofs.ListedSessions.{left_over}
use Rattle.odb_core.proofs.server.once.Given as goal

abbrev pub invariant-loop-session : goal.invariant-loop-session
invariant-loop-session l = l.listed.items ++ left_over l.seen (drop l.session-index l.ready) ≡ once l.ready
