use Rattle.std.proofs.Common.{rules, ◌≡◌, subst, sym}
use Rattle.odb_atoms.specs.FinMap as finite
use Rattle.odb_tables.specs.Represented.Keyed.{keyed}
use Rattle.odb_chain.specs.OldRows.{History, Rows}
use Rattle.odb_chain.specs.Represented.Log.{AreRecorded}
use Rattle.odb_chain.proofs.Recorded.{none_noted}
use Rattle.odb_chain.proofs.old_rows.OldRows.new.Goals as goal

pub invariant_of-result : goal.invariant_of-result
invariant_of-result c =
    let rows : Rows = keyed (λ (h : History). h) c.with_hasher.result in
    let none : rows ≡ finite.empty = search rules in
    subst (λ (x : Rows). AreRecorded x c.new.result) (sym none) (none_noted c.new.result)
