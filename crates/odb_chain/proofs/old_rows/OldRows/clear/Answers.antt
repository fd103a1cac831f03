use Rattle.std.proofs.Common.{rules, ◌≡◌, subst, sym}
use Rattle.odb_atoms.specs.FinMap as finite
use Rattle.odb_tables.specs.Represented.Keyed.{keyed}
use Rattle.odb_chain.specs.OldRows.{History, Rows}
use Rattle.odb_chain.specs.Represented.Log.{AreRecorded}
use Rattle.odb_chain.proofs.Recorded.{none_noted}
use Rattle.odb_chain.proofs.old_rows.OldRows.clear.Goals as goal

pub invariant_of-self : goal.invariant_of-self
invariant_of-self c =
    let rows : Rows = keyed (λ (h : History). h) c.clear.new.self in
    let none : rows ≡ finite.empty = search rules in
    subst (λ (x : Rows). AreRecorded x c.clear-2.new.self) (sym none) (none_noted c.clear-2.new.self)
