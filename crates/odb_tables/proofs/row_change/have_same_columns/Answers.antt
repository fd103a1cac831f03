use Rattle.std.proofs.Common.{◌≡◌, not, is_some, option_copied, option_map, Option, Some, sym, ap, ◌∙◌}
use Rattle.std.specs.Arc.{arc_value}
use Rattle.odb_atoms.specs.Row.{Row}
use Rattle.odb_atoms.specs.Value.{same_values}
use Rattle.odb_tables.specs.Change.{changed_row}
use Rattle.odb_tables.specs.Represented.Overlay.{row_of}
use Rattle.odb_tables.specs.Stamped.{stamped_row}
use Rattle.odb_tables.proofs.Stamps.{same_columns}
use Rattle.odb_tables.proofs.row_change.have_same_columns.Goals as goal

pub returns-in-Some-Some : goal.returns-in-Some-Some
returns-in-Some-Some c = λ number.
    let p : Row = arc_value c.in-Some-Some.old.now in
    let q : Row = arc_value c.in-Some-Some.new.now in
    let old : row_of (option_copied c.args.old) ≡ Some p = ap (λ o. row_of (option_copied o)) c.in-Some-Some.is-0 in
    let new : row_of (option_copied c.args.new) ≡ Some q = ap (λ o. row_of (option_copied o)) c.in-Some-Some.is-1 in
    let first : c.deref.result.now ≡ p = c.deref.ensures in
    let second : c.deref-in-Some-Some.result.now ≡ q = c.deref-in-Some-Some.ensures in
    c.are_equal_from.ensures ∙ (λ i. let a : Row = first i in let b : Row = second i in same_values a.columns b.columns) ∙ same_columns number p q ∙ (λ i. let o : Option Row = sym old i in let n : Option Row = sym new i in not (is_some (changed_row o (option_map (stamped_row number o) n))))
