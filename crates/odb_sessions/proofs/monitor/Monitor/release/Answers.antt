use Rattle.std.proofs.Common.{subst, sym}
use Rattle.odb_sessions.specs.Marked.{MarkedMonitor, marks_in}
use Rattle.odb_sessions.specs.Tied.{Frees, HasAll}
use Rattle.odb_sessions.proofs.monitor.Monitor.release.Goals as goal

pub release_all-requires : goal.release_all-requires
release_all-requires c = subst (λ (x : MarkedMonitor). HasAll c.args.past.now (marks_in x)) (sym c.self.view_is) c.requires

pub returns : goal.returns
returns c = subst (λ (x : MarkedMonitor). Frees c.args.past.now c.release_all.new.past (marks_in x)) c.self.view_is c.release_all.ensures
