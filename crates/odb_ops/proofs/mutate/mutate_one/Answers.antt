use Rattle.std.proofs.Common.{rules, ◌≡◌, Some, None, Ok, Err, Option, false, map, slice_get, option_and_then, sym, ap, ◌∙◌}
use Rattle.std.specs.Prelude.{nat_eq}
use Rattle.std.specs.List.{list_any}
use Rattle.std.specs.Result.{result_ok}
use Rattle.odb_atoms.specs.FinMap as finite
use Rattle.odb_atoms.specs.FinSet as set
use Rattle.odb_atoms.specs.Represented.Atom.{uuid_of}
use Rattle.odb_atoms.specs.Row.{Row}
use Rattle.odb_mutate.specs.Represented.Mutation.{error_of}
use Rattle.odb_ops.specs.Execution.{mutated}
use Rattle.odb_ops.specs.Represented.Merged.{all_of}
use Rattle.odb_ops.proofs.KeptPlaces.{mutated_keeps}
use Rattle.odb_ops.proofs.Rewrites.{none_rewritten, there_rewritten}
use Rattle.odb_tables.specs.Database.{table_at}
use Rattle.odb_tables.specs.Draft.{removed_at, with_row}
use Rattle.odb_ops.proofs.mutate.mutate_one.Goals as goal

pub returns-in_default-clause-row : goal.returns-in_default-clause-row
returns-in_default-clause-row c =
    let d = c.args.draft.now in
    let t = c.args.target.now.table in
    let u = uuid_of c.args.uuid in
    let f = λ (r : Row). result_ok (mutated c.args.target.now.columns.now (all_of c.args.runs.now) r) in
    let absent : None ≡ finite.get (table_at d.now t) u = search rules in
    none_rewritten f t u d (sym (ap (option_and_then f) absent))

pub returns-in_ok-put_over-in-Ok-clause-row : goal.returns-in_ok-put_over-in-Ok-clause-row
returns-in_ok-put_over-in-Ok-clause-row c =
    let d = c.args.draft.now in
    let t = c.args.target.now.table in
    let u = uuid_of c.args.uuid in
    let f = λ (r : Row). result_ok (mutated c.args.target.now.columns.now (all_of c.args.runs.now) r) in
    let old : Row = c.in-Some.row.now in
    let new : Row = c.in-Ok.row in
    let there : Some old ≡ finite.get (table_at d.now t) u = search rules in
    let kept : set.contains (removed_at d t) u ≡ false = search rules in
    let made : mutated c.args.target.now.columns.now (all_of c.args.runs.now) old ≡ Ok new = search rules in
    let put : c.put_over.new.self ≡ with_row t u new d = search rules in
    put ∙ there_rewritten f t u d old new there kept (ap result_ok made)

pub returns-in-Err-clause-row : goal.returns-in-Err-clause-row
returns-in-Err-clause-row c =
    let d = c.args.draft.now in
    let t = c.args.target.now.table in
    let u = uuid_of c.args.uuid in
    let f = λ (r : Row). result_ok (mutated c.args.target.now.columns.now (all_of c.args.runs.now) r) in
    let old : Row = c.in-Some.row.now in
    let there : Some old ≡ finite.get (table_at d.now t) u = search rules in
    let made : mutated c.args.target.now.columns.now (all_of c.args.runs.now) old ≡ Err (error_of c.in-Err.fault) = search rules in
    none_rewritten f t u d (sym (ap (option_and_then f) there) ∙ ap result_ok made)

pub put_over-requires-clause-others : goal.put_over-requires-clause-others
put_over-requires-clause-others c = λ before got p off.
    let cs = c.args.target.now.columns.now in
    let ms = all_of c.args.runs.now in
    let d = c.args.draft.now in
    let t = c.args.target.now.table in
    let u = uuid_of c.args.uuid in
    let old : Row = c.in-Some.row.now in
    let new : Row = c.in-Ok.row in
    let there : Some old ≡ finite.get (table_at d.now t) u = search rules in
    let made : mutated cs ms old ≡ Ok new = search rules in
    ap (λ (o : Option Row). option_and_then (λ (y : Row). slice_get y.columns p) o) (sym got ∙ sym there) ∙ mutated_keeps cs ms old new made p (ap (λ ps. list_any (nat_eq p) ps) (sym c.requires.places) ∙ off)
