use Rattle.std.proofs.Common.{arith, rules, ◌≡◌, ◌++◌, Ok, Err, length, List, sym, ap, ◌∙◌}
use Rattle.std.proofs.lemmas.List.{length-append}
use Rattle.std.proofs.lemmas.Result.{IfOk-weaker}
use Rattle.odb_json.specs.Suited.{are_taken}
use Rattle.odb_atoms.specs.Row.{Row}
use Rattle.odb_mutate.specs.Mutation.{Mutation}
use Rattle.odb_mutate.specs.Represented.Mutation.{error_of}
use Rattle.odb_ops.specs.Execution.{mutated}
use Rattle.odb_ops.proofs.Fits.{mutated_fit}
use Rattle.odb_ops.proofs.Insertions.{mutated-++, mutated_fault-++, taken_parts}
use Rattle.odb_ops.proofs.mutate.+mutate_by_halves.Goals as goal

pub mutate_by_halves-requires-in-Ok : goal.mutate_by_halves-requires-in-Ok
mutate_by_halves-requires-in-Ok t c = (
  let long = length-append c.halves.result.0.now c.halves.result.1.now in
      let whole = ap length c.halves.ensures.whole in
      let some = c.halves.ensures.front in
      let all = c.decreases in
      omega (arith, long, whole, some, all),
  let cs = c.args.columns.now in
      let r : Row = c.args.row.now in
      let new : Row = c.mutate_by_halves.new.row in
      let front : List Mutation = c.halves.result.0.now in
      let back : List Mutation = c.halves.result.1.now in
      let whole : front ++ back ≡ c.args.mutations.now = c.halves.ensures.whole in
      let same : c.merge_and_mutate.new.row ≡ r = c.in_ok-merge_and_mutate.ensures.kept c.if-branch.false in
      let one : mutated cs front r ≡ Ok new = search rules in
      (mutated_fit cs front r new c.requires.fits one, (taken_parts cs front back (ap (are_taken cs) whole ∙ c.requires.suit)).1),
)

pub returns-in-Ok : goal.returns-in-Ok
returns-in-Ok t c =
    let cs = c.args.columns.now in
    let r : Row = c.args.row.now in
    let new : Row = c.mutate_by_halves.new.row in
    let front : List Mutation = c.halves.result.0.now in
    let back : List Mutation = c.halves.result.1.now in
    let whole : front ++ back ≡ c.args.mutations.now = c.halves.ensures.whole in
    let same : c.merge_and_mutate.new.row ≡ r = c.in_ok-merge_and_mutate.ensures.kept c.if-branch.false in
    let one : mutated cs front r ≡ Ok new = search rules in
    let both : mutated cs back new ≡ mutated cs c.args.mutations.now r = sym (mutated-++ cs front back r new one) ∙ ap (λ ms. mutated cs ms r) whole in
    IfOk-weaker c.mutate_by_halves-in-Ok.result _ _ (λ done h. h ∙ both) c.mutate_by_halves-in-Ok.ensures

pub returns-in-Err : goal.returns-in-Err
returns-in-Err t c =
    let cs = c.args.columns.now in
    let r : Row = c.args.row.now in
    let front : List Mutation = c.halves.result.0.now in
    let back : List Mutation = c.halves.result.1.now in
    let whole : front ++ back ≡ c.args.mutations.now = c.halves.ensures.whole in
    let same : c.merge_and_mutate.new.row ≡ r = c.in_ok-merge_and_mutate.ensures.kept c.if-branch.false in
    let one : mutated cs front r ≡ Err (error_of c.in-Err.fault) = search rules in
    sym (mutated_fault-++ cs front back r (error_of c.in-Err.fault) one) ∙ ap (λ ms. mutated cs ms r) whole
