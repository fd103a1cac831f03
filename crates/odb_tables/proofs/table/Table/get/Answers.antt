use Rattle.std.proofs.Common.{rules, ◌≡◌, Some, None, option_map, option_copied, sym, ap, ◌∙◌}
use Rattle.std.specs.Arc.{arc_value}
use Rattle.std.specs.Ordering.{eq_by_cmp}
use Rattle.indexmap.specs.IndexMap.{get_by}
use Rattle.odb_atoms.specs.FinMap as finite
use Rattle.odb_atoms.specs.Uuid.{uuid_cmp}
use Rattle.odb_tables.proofs.KeyedMaps.{get-keyed}
use Rattle.odb_tables.proofs.table.Table.get.Goals as goal

pub returns-in_err-row : goal.returns-in_err-row
returns-in_err-row c =
    let none : None ≡ get_by (eq_by_cmp uuid_cmp c.of.result) c.self.inside.rows = search rules in
    ap option_copied c.from_residual.ensures ∙ ap (option_map arc_value) none ∙ sym (get-keyed arc_value c.self.inside.rows c.of.result) ∙ (λ i. finite.get (c.self.view_is i) (c.of.ensures i))

pub returns : goal.returns
returns c =
    let there : Some c.in_ok-row.row.now ≡ get_by (eq_by_cmp uuid_cmp c.of.result) c.self.inside.rows = search rules in
    ap Some c.deref.ensures ∙ ap (option_map arc_value) there ∙ sym (get-keyed arc_value c.self.inside.rows c.of.result) ∙ (λ i. finite.get (c.self.view_is i) (c.of.ensures i))
