use Rattle.std.proofs.Common.{sym, ap, ◌∙◌}
use Rattle.odb_atoms.specs.FinMap as map
use Rattle.odb_locks.specs.Locks.{Locks}
use Rattle.odb_locks.proofs.Tables.{get-locks_in}
use Rattle.odb_locks.proofs.lock_table.LockTable.get.Goals as goal

pub returns : goal.returns
returns c = c.get.ensures.value ∙ sym (get-locks_in c.self.inside.locks c.args.name.now) ∙ ap (λ (l : Locks). map.get l c.args.name.now) c.self.view_is
