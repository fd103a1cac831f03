use Rattle.std.proofs.Common.{rules, ◌≡◌, false, Some, sym, ap, subst, ◌∙◌}
use Rattle.odb_atoms.specs.Represented.ColType.{type_of}
use Rattle.odb_tables.specs.Draft.{KeepsColumn}
use Rattle.odb_integrity.specs.Gained.{cell_of, gains_stale_at}
use Rattle.odb_integrity.proofs.KeptCells.{gains_no_stale, kept_cells}
use Rattle.odb_integrity.proofs.suspects.gains_stale_at.Goals as goal

pub returns-then-keeps : goal.returns-then-keeps
returns-then-keeps c =
    let old = c.args.draft.now.old in
    let now = c.args.draft.now.now in
    let x = c.args.at.0 in
    let p = c.args.at.1 in
    let b = c.in-Some-value_at.before.now in
    let n = c.in-Some.now.now in
    let there : cell_of old x p ≡ Some b = search rules in
    let here : cell_of now x p ≡ Some n = search rules in
    let table : c.table-in-Some-value_at.result ≡ x.0 = search rules in
    let kept : KeepsColumn old now x.0 p = subst (λ t. KeepsColumn old now t p) table (c.keeps.ensures c.if-keeps.true) in
    sym (ap (λ y. gains_stale_at c.args.schema.now now (type_of c.args.column.now) y (cell_of now x p)) there ∙ ap (gains_stale_at c.args.schema.now now (type_of c.args.column.now) (Some b)) here ∙ gains_no_stale c.args.schema.now now (type_of c.args.column.now) b n (kept_cells old now x p kept b n there here))
