use Rattle.std.proofs.Common.{rules, ◌≡◌, OnOk, Option, Some, None, map, slice_get, option_and_then, false, sym, ap, ◌∙◌}
use Rattle.std.specs.Prelude.{nat_eq}
use Rattle.std.specs.List.{list_any}
use Rattle.std.proofs.lemmas.Result.{on_ok_weaker}
use Rattle.odb_atoms.specs.FinMap as finite
use Rattle.odb_atoms.specs.FinSet as set
use Rattle.odb_atoms.specs.Represented.Atom.{uuid_of}
use Rattle.odb_atoms.specs.Row.{Row}
use Rattle.odb_ops.specs.Execution.{replaced}
use Rattle.odb_ops.proofs.KeptPlaces.{replaced_keeps}
use Rattle.odb_ops.proofs.Rewrites.{none_rewritten, there_rewritten}
use Rattle.odb_tables.specs.Database.{table_at}
use Rattle.odb_tables.specs.Draft.{removed_at, with_row}
use Rattle.odb_ops.proofs.update.rewrite.Goals as goal

pub returns-in_default-clause-row : goal.returns-in_default-clause-row
returns-in_default-clause-row c =
    let d = c.args.draft.now in
    let t = c.args.table in
    let u = uuid_of c.args.uuid in
    let absent : None ≡ finite.get (table_at d.now t) u = search rules in
    none_rewritten (λ r. Some (replaced c.args.given.now r)) t u d (sym (ap (option_and_then (λ r. Some (replaced c.args.given.now r))) absent))

pub returns-clause-row : goal.returns-clause-row
returns-clause-row c =
    let d = c.args.draft.now in
    let t = c.args.table in
    let u = uuid_of c.args.uuid in
    let old : Row = c.in-Some.row.now in
    let new : Row = c.write.new.row in
    let there : Some old ≡ finite.get (table_at d.now t) u = search rules in
    let kept : set.contains (removed_at d t) u ≡ false = search rules in
    let written : new ≡ replaced c.args.given.now old = search rules in
    let put : OnOk c.put_over.result (c.put_over.new.self ≡ with_row t u new d) = search rules in
    on_ok_weaker c.put_over.result (λ e. e ∙ there_rewritten (λ r. Some (replaced c.args.given.now r)) t u d old new there kept (ap (λ r. Some r) (sym written))) put

pub put_over-requires-clause-others : goal.put_over-requires-clause-others
put_over-requires-clause-others c = λ before got p off.
    let es = c.args.given.now in
    let old : Row = c.in-Some.row.now in
    let there : Some old ≡ finite.get (table_at c.args.draft.now.now c.args.table) (uuid_of c.args.uuid) = search rules in
    let written : c.write.new.row ≡ replaced es old = search rules in
    let listed : c.as_slice.result.now ≡ map (λ e. e.0) es = search rules in
    ap (λ (o : Option Row). option_and_then (λ (y : Row). slice_get y.columns p) o) (sym got ∙ sym there) ∙ replaced_keeps es old p (ap (λ ps. list_any (nat_eq p) ps) (sym listed) ∙ off) ∙ ap (λ (y : Row). slice_get y.columns p) (sym written)
