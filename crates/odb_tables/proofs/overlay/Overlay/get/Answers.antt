use Rattle.std.proofs.Common.{rules, ◌≡◌, Some, None, option_map, sym, ap, ◌∙◌}
use Rattle.std.specs.Ordering.{eq_by_cmp}
use Rattle.indexmap.specs.IndexMap.{get_by}
use Rattle.odb_atoms.specs.FinMap as finite
use Rattle.odb_atoms.specs.Uuid.{uuid_cmp}
use Rattle.odb_tables.specs.Represented.Overlay.{row_of}
use Rattle.odb_tables.proofs.KeyedMaps.{get-keyed}
use Rattle.odb_tables.proofs.overlay.Overlay.get.Goals as goal

pub returns-in-None : goal.returns-in-None
returns-in-None c =
    let got : None ≡ get_by (eq_by_cmp uuid_cmp c.of.result) c.self.inside.rows = search rules in
    ap (option_map row_of) got ∙ sym (get-keyed row_of c.self.inside.rows c.of.result) ∙ (λ i. finite.get (c.self.view_is i) (c.of.ensures i))

pub returns-in-Some-None : goal.returns-in-Some-None
returns-in-Some-None c =
    let got : Some None ≡ get_by (eq_by_cmp uuid_cmp c.of.result) c.self.inside.rows = search rules in
    ap (option_map row_of) got ∙ sym (get-keyed row_of c.self.inside.rows c.of.result) ∙ (λ i. finite.get (c.self.view_is i) (c.of.ensures i))

pub returns-in-Some-Some : goal.returns-in-Some-Some
returns-in-Some-Some c =
    let got : Some (Some c.in-Some-Some.row) ≡ get_by (eq_by_cmp uuid_cmp c.of.result) c.self.inside.rows = search rules in
    let shown : Some (Some c.deref.result.now) ≡ option_map row_of (Some (Some c.in-Some-Some.row)) = ap (λ r. Some (Some r)) c.deref.ensures in
    shown ∙ ap (option_map row_of) got ∙ sym (get-keyed row_of c.self.inside.rows c.of.result) ∙ (λ i. finite.get (c.self.view_is i) (c.of.ensures i))
