use Rattle.std.proofs.Common.{rules, ◌≡◌, ◌++◌, false, filter, flat_map, not, ap, ◌∙◌}
use Rattle.std.specs.BTreeSet.{contains}
use Rattle.std.specs.List.{list_any}
use Rattle.std.proofs.lemmas.Result.{IfOk-weaker}
use Rattle.odb_integrity.specs.Gained.{gaining}
use Rattle.odb_integrity.specs.Represented.RowId.{row_id_cmp, supports}
use Rattle.odb_integrity.specs.Settlement.{RowId, same_row}
use Rattle.odb_integrity.specs.Touched.{hanging, is_newly_referred}
use Rattle.odb_integrity.proofs.Concerned.{gain_missing}
use Rattle.odb_integrity.proofs.Held.{supported_but_each}
use Rattle.odb_integrity.proofs.garbage.first_waiting.Goals as goal

pub returns-clause-waiting : goal.returns-clause-waiting
returns-clause-waiting c =
    let s = c.args.schema.now in
    let old = c.args.draft.now.old in
    let now = c.args.draft.now.now in
    let touched = c.in_ok-touched.touched.items in
    let rows = c.note_all.new.lost.items in
    let referred = c.note_all.new.referred in
    let none : (x : RowId) → contains row_id_cmp c.new-referred.result x ≡ false = search rules in
    let all : rows ≡ flat_map (hanging s old now) touched = search rules in
    let newly : (x : RowId) → contains row_id_cmp referred x ≡ is_newly_referred s old now touched x = search rules in
    IfOk-weaker c.once_each.result _ _ (λ each alike plain. supported_but_each s old now touched rows c.in_ok-waiting.waiting.items referred c.in_ok-touched.ensures (c.requires.kept plain) all newly
    (c.in_ok-waiting.ensures ∙ ap (filter (λ x. not (supports s referred x))) c.deref-2.ensures.value)
    each.items (λ x. alike x ∙ ap (list_any (same_row x)) c.deref-3.ensures.value)) c.once_each.ensures

pub returns-clause-gaining : goal.returns-clause-gaining
returns-clause-gaining c =
    let s = c.args.schema.now in
    let old = c.args.draft.now.old in
    let now = c.args.draft.now.now in
    let touched = c.in_ok-touched.touched.items in
    let is : c.note_all.new.gaining.items ≡ c.args.gaining.now.items ++ flat_map (gaining s old now) touched = search rules in
    IfOk-weaker c.once_each.result _ _ (λ each alike. gain_missing s old now touched c.in_ok-touched.ensures c.args.gaining.now.items c.note_all.new.gaining.items is) c.once_each.ensures
