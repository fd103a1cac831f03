use Rattle.std.proofs.Common.{rules, ◌≡◌, None, option_map, sym, ap, ◌∙◌}
use Rattle.std.specs.Arc.{arc_value}
use Rattle.std.specs.Ordering.{eq_by_cmp}
use Rattle.indexmap.specs.IndexMap.{Updates, get_by}
use Rattle.odb_atoms.specs.FinMap as finite
use Rattle.odb_atoms.specs.Uuid.{uuid_cmp}
use Rattle.odb_tables.proofs.KeyedMaps.{get-keyed, removed}
use Rattle.odb_tables.proofs.table.Table.remove.Goals as goal

pub returns-clause-row : goal.returns-clause-row
returns-clause-row c =
    let got : c.swap_remove.result ≡ get_by (eq_by_cmp uuid_cmp c.of.result) c.self.inside.rows = search rules in
    ap (option_map arc_value) got ∙ sym (get-keyed arc_value c.self.inside.rows c.of.result) ∙ (λ i. finite.get (c.self.view_is i) (c.of.ensures i))

pub returns-clause-others : goal.returns-clause-others
returns-clause-others c =
    let changed : Updates (eq_by_cmp uuid_cmp) c.self.inside.rows c.swap_remove.new.self c.of.result None = search rules in
    removed arc_value c.self.inside.rows c.swap_remove.new.self c.of.result changed ∙ (λ i. finite.remove (c.self.view_is i) (c.of.ensures i))
