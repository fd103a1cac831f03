use Rattle.std.proofs.Common.{rules, ◌≡◌, true, false, cond, is_some, sym, ap, ◌∙◌}
use Rattle.std.proofs.lemmas.Result.{on_ok_weaker}
use Rattle.std.specs.Ordering.{eq_by_cmp}
use Rattle.indexmap.specs.IndexMap.{get_by}
use Rattle.odb_atoms.specs.FinMap as finite
use Rattle.odb_atoms.specs.Uuid.{uuid_cmp}
use Rattle.odb_tables.specs.Represented.Overlay.{row_of}
use Rattle.odb_tables.proofs.KeyedMaps.{contains-keyed}
use Rattle.odb_recent.specs.Undo.{Olds}
use Rattle.odb_recent.proofs.Changing.{OldEntry}
use Rattle.odb_recent.proofs.merged.Merged.add.Goals as goal

pub returns-then-contains_key : goal.returns-then-contains_key
returns-then-contains_key c =
    let m : Olds = c.args.self.now in
    let e : OldEntry = c.args.row.now in
    let is : c.key.result ≡ e.0 = search rules in
    let has : is_some (get_by (eq_by_cmp uuid_cmp c.key.result) c.self.inside.rows) ≡ true = search rules in
    let there : finite.contains_key m e.0 ≡ true = (λ i. finite.contains_key (sym c.self.view_is i) (sym is i)) ∙ sym (contains-keyed row_of c.self.inside.rows c.key.result) ∙ has in
    sym (ap (λ b. cond b m (finite.insert m e.0 e.1)) there)

pub returns : goal.returns
returns c =
    let m : Olds = c.args.self.now in
    let e : OldEntry = c.args.row.now in
    let is : c.key.result ≡ e.0 = search rules in
    let is-2 : c.key-2.result ≡ e.0 = search rules in
    let has : is_some (get_by (eq_by_cmp uuid_cmp c.key.result) c.self.inside.rows) ≡ false = search rules in
    let none : finite.contains_key m e.0 ≡ false = (λ i. finite.contains_key (sym c.self.view_is i) (sym is i)) ∙ sym (contains-keyed row_of c.self.inside.rows c.key.result) ∙ has in
    let row : row_of c.in_ok-share.field-0 ≡ e.1 = search rules in
    on_ok_weaker c.put.result
    (λ put. put ∙ (λ i. finite.insert (c.self.view_is i) (is-2 i) (row i)) ∙ sym (ap (λ b. cond b m (finite.insert m e.0 e.1)) none))
    c.put.ensures.ok
