use Rattle.std.proofs.Common.{subst}
use Rattle.odb_sessions.specs.Composed.{AreTheirs}
use Rattle.odb_sessions.specs.Marked.{MarkedMonitor}
use Rattle.odb_sessions.proofs.monitor.Monitor.since.Goals as goal

pub returns-clause-theirs : goal.returns-clause-theirs
returns-clause-theirs c = subst (λ (x : MarkedMonitor). AreTheirs x.tables) c.self.view_is c.self.invariant.0
