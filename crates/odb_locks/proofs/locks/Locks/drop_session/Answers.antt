use Rattle.std.proofs.Common.{List, sym}
use Rattle.odb_locks.specs.Locks as model
use Rattle.odb_locks.specs.Locks.{Locks}
use Rattle.odb_locks.proofs.locks.Locks.drop_session.Goals as goal

pub returns-clause-ok : goal.returns-clause-ok
returns-clause-ok c = λ i. let r : Locks × List model.Notice = (sym c.forget_session.ensures i, c.in_ok-notices.ensures i) in r
