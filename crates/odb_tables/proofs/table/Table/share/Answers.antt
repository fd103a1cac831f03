use Rattle.std.proofs.Common.{rules, ◌≡◌, option_copied, sym, ap, ◌∙◌}
use Rattle.std.specs.Arc.{arc_value}
use Rattle.std.specs.Ordering.{eq_by_cmp}
use Rattle.indexmap.specs.IndexMap.{get_by}
use Rattle.odb_atoms.specs.FinMap as finite
use Rattle.odb_atoms.specs.Uuid.{uuid_cmp}
use Rattle.odb_tables.specs.Represented.Overlay.{row_of}
use Rattle.odb_tables.proofs.KeyedMaps.{get-keyed}
use Rattle.odb_tables.proofs.table.Table.share.Goals as goal

pub returns : goal.returns
returns c =
    let got : option_copied c.get.result ≡ get_by (eq_by_cmp uuid_cmp c.args.key) c.self.inside.rows = search rules in
    ap row_of got ∙ sym (get-keyed arc_value c.self.inside.rows c.args.key) ∙ ap (λ t. finite.get t c.args.key) c.self.view_is
