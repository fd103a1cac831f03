use Rattle.std.proofs.Common.{sym, ap, ◌∙◌}
use Rattle.odb_atoms.specs.FinMap as map
use Rattle.odb_locks.proofs.Tables.{len-locks_in}
use Rattle.odb_locks.proofs.lock_table.LockTable.len.Goals as goal

pub returns : goal.returns
returns c = c.len.ensures.len ∙ sym (len-locks_in c.self.inside.locks c.len.ensures.ordered) ∙ ap map.len c.self.view_is
