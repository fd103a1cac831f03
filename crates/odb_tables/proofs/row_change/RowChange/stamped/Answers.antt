use Rattle.std.proofs.Common.{rules, ◌≡◌, not, is_some, option_copied, option_map, Option, Some, sym, ap, ◌∙◌}
use Rattle.odb_atoms.specs.Row.{Row}
use Rattle.odb_atoms.specs.Represented.Atom.{uuid_of}
use Rattle.odb_atoms.specs.Uuid.{Uuid}
use Rattle.odb_tables.specs.Change.{changed_row}
use Rattle.odb_tables.specs.Represented.Overlay.{row_of}
use Rattle.odb_tables.specs.Stamped.{stamped_row, with_number}
use Rattle.odb_tables.proofs.Stamps.{changed-stamped, not-changed}
use Rattle.odb_tables.proofs.row_change.RowChange.stamped.Goals as goal

abbrev Pair : Type 0
Pair = Option Row × Option Row

pub returns-then-have_same_columns : goal.returns-then-have_same_columns
returns-then-have_same_columns c =
    let v = uuid_of c.args.stamp.now.version in
    let o : Option Row = row_of (option_copied c.args.old) in
    let n : Option Row = row_of c.args.new in
    let told : c.have_same_columns.result ≡ not (is_some (changed_row o (option_map (stamped_row v o) n))) = c.have_same_columns.ensures v ∙ ap (λ x. not (is_some (changed_row o (option_map (stamped_row v o) (row_of x))))) c.as_ref.ensures.value in
    ap (option_map (λ (d : Pair). let e : Uuid × Pair = (c.args.key, d) in e)) (not-changed (changed_row o (option_map (stamped_row v o) n)) (sym told ∙ c.if-have_same_columns.true))

pub returns : goal.returns
returns c =
    let v = uuid_of c.args.stamp.now.version in
    let o : Option Row = row_of (option_copied c.args.old) in
    let n : Option Row = row_of c.args.new in
    let told : c.have_same_columns.result ≡ not (is_some (changed_row o (option_map (stamped_row v o) n))) = c.have_same_columns.ensures v ∙ ap (λ x. not (is_some (changed_row o (option_map (stamped_row v o) (row_of x))))) c.as_ref.ensures.value in
    let old : row_of c.in_ok-old.old ≡ o = search rules in
    let new : row_of c.in_ok-new.new ≡ option_map (with_number v) n = search rules in
    (λ i. let d : Pair = (old i, new i) in let e : Uuid × Pair = (c.args.key, d) in Some e)
    ∙ ap (option_map (λ (d : Pair). let e : Uuid × Pair = (c.args.key, d) in e)) (sym (changed-stamped v o n (sym told ∙ c.if-have_same_columns.false)))
