use Rattle.std.proofs.Common.{rules, ◌≡◌, true, IfSome, subst}
use Rattle.odb_atoms.specs.Row.{Row, cell, own_uuid}
use Rattle.odb_atoms.specs.Uuid.{Uuid}
use Rattle.odb_cond.specs.Condition.{holds}
use Rattle.odb_tables.specs.Indexed.{mentions}
use Rattle.odb_tables.proofs.Conditions.{named}
use Rattle.odb_tables.proofs.Facets.{if_some}
use Rattle.odb_tables.proofs.row_test.named_by.Goals as goal

pub returns-in-Uuid : goal.returns-in-Uuid
returns-in-Uuid c =
    let condition = c.args.condition.now in
    let own : condition.column ≡ own_uuid = search rules in
    if_some c.asked.result (λ tag here u r h.
    let some : (v : Uuid) (s : Row) → holds condition v s ≡ true → mentions tag (cell v s condition.column) ≡ true = subst (λ o. IfSome o (λ (t : Uuid). (v : Uuid) (s : Row) → holds condition v s ≡ true → mentions t (cell v s condition.column) ≡ true)) here c.asked.ensures in
    named condition tag u r own (some u r h))
