use Rattle.std.proofs.Common.{rules, ◌≡◌, Some, None, option_map, option_copied, sym, ap, ◌∙◌}
use Rattle.std.specs.Ordering.{eq_by_cmp}
use Rattle.indexmap.specs.IndexMap.{get_by}
use Rattle.odb_atoms.specs.FinMap as finite
use Rattle.odb_atoms.specs.Uuid.{uuid_cmp}
use Rattle.odb_tables.specs.Represented.Overlay.{row_of}
use Rattle.odb_tables.proofs.KeyedMaps.{get-keyed}
use Rattle.odb_tables.proofs.overlay.Overlay.share.Goals as goal

pub returns-in-None : goal.returns-in-None
returns-in-None c =
    let got : None ≡ get_by (eq_by_cmp uuid_cmp c.args.key) c.self.inside.rows = search rules in
    ap (option_map row_of) got ∙ sym (get-keyed row_of c.self.inside.rows c.args.key) ∙ ap (λ o. finite.get o c.args.key) c.self.view_is

pub returns-in-Some : goal.returns-in-Some
returns-in-Some c =
    let got : Some c.in-Some.row.now ≡ get_by (eq_by_cmp uuid_cmp c.args.key) c.self.inside.rows = search rules in
    let lent : option_copied c.as_ref.result ≡ c.in-Some.row.now = search rules in
    ap (λ r. Some (row_of r)) lent ∙ ap (option_map row_of) got ∙ sym (get-keyed row_of c.self.inside.rows c.args.key) ∙ ap (λ o. finite.get o c.args.key) c.self.view_is
