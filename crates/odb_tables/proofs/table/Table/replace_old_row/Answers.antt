use Rattle.std.proofs.Common.{rules, ◌≡◌, not, is_some, true, false, None, sym, ap, ◌∙◌}
use Rattle.std.specs.Arc.{arc_value}
use Rattle.std.specs.Ordering.{eq_by_cmp}
use Rattle.indexmap.specs.IndexMap.{Updates}
use Rattle.odb_atoms.specs.FinMap as finite
use Rattle.odb_atoms.specs.Uuid.{uuid_cmp}
use Rattle.odb_tables.specs.Database.{Table}
use Rattle.odb_tables.specs.Represented.Installed.{one_row, replaced}
use Rattle.odb_tables.specs.Represented.Overlay.{row_of}
use Rattle.odb_tables.proofs.Installs.{not-settled, settled-removed}
use Rattle.odb_tables.proofs.KeyedMaps.{removed}
use Rattle.odb_tables.proofs.table.Table.replace_old_row.Goals as goal

pub returns-then-is_none : goal.returns-then-is_none
returns-then-is_none c =
    let parts = c.into_parts-key.result in
    let absent : is_some parts.1 ≡ false = c.is_none.ensures ∙ ap not c.if-is_none.true in
    not-settled c.args.self.now parts.0 parts.1 (row_of parts.2) absent ∙ ap (one_row replaced c.args.self.now) c.into_parts-key.ensures

pub returns : goal.returns
returns c =
    let parts = c.into_parts-key.result in
    let m = c.self.inside.rows in
    let there : is_some parts.1 ≡ true = c.is_none.ensures ∙ ap not c.if-is_none.false in
    let changed : Updates (eq_by_cmp uuid_cmp) m c.swap_remove.new.self parts.0 None = search rules in
    removed arc_value m c.swap_remove.new.self parts.0 changed ∙ ap (λ (t : Table). finite.remove t parts.0) c.self.view_is ∙ settled-removed c.args.self.now parts.0 parts.1 there
    ∙ (λ i. one_row replaced c.args.self.now (parts.0, (row_of parts.1, row_of (sym c.in-None.is i)))) ∙ ap (one_row replaced c.args.self.now) c.into_parts-key.ensures
