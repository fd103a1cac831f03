use Rattle.std.proofs.Common.{rules, ◌≡◌, ◌+◌, List, [], ◌∷◌, drop, Ok, Err, sym, ap, ◌∙◌}
use Rattle.std.proofs.lemmas.List.{drop_all, drop_more}
use Rattle.odb_json.specs.Suited.{are_taken}
use Rattle.odb_mutate.specs.Mutation.{Mutation}
use Rattle.odb_mutate.specs.Represented.Mutation.{answered, error_of}
use Rattle.odb_ops.specs.Execution.{mutated}
use Rattle.odb_ops.specs.Represented.Merged.{all_of}
use Rattle.odb_ops.proofs.Fits.{mutated_fit}
use Rattle.odb_ops.proofs.Insertions.{mutated-++, mutated_fault-++, taken_parts}
use Rattle.odb_ops.proofs.mutate.mutated_row.Goals as goal

pub mutate_run-requires-clause-suit : goal.mutate_run-requires-clause-suit
mutate_run-requires-clause-suit c =
    let cs = c.args.columns.now in
    let runs : List (List Mutation) = c.args.runs.now in
    let i = c.loop-run.run-index in
    let ms : List Mutation = c.run-item.result in
    let rest : drop i runs ≡ ms ∷ drop (i + 1) runs = drop_more runs i ms c.loop-run-test.true ∙ ap (λ x. x ∷ drop (i + 1) runs) (sym c.run-item.is) in
    (taken_parts cs ms (all_of (drop (i + 1) runs)) (ap (λ rs. are_taken cs (all_of rs)) (sym rest) ∙ c.loop-run.invariant.suit)).0

pub loop-run-preserved : goal.loop-run-preserved
loop-run-preserved c =
    let cs = c.args.columns.now in
    let runs : List (List Mutation) = c.args.runs.now in
    let i = c.loop-run.run-index in
    let ms : List Mutation = c.run-item.result in
    let r = c.loop-run.row in
    let new = c.mutate_run.new.row in
    let rest : drop i runs ≡ ms ∷ drop (i + 1) runs = drop_more runs i ms c.loop-run-test.true ∙ ap (λ x. x ∷ drop (i + 1) runs) (sym c.run-item.is) in
    let one : mutated cs ms r ≡ Ok new = search rules in
    record {
      fit = mutated_fit cs ms r new c.loop-run.invariant.fit one;
      suit = (taken_parts cs ms (all_of (drop (i + 1) runs)) (ap (λ rs. are_taken cs (all_of rs)) (sym rest) ∙ c.loop-run.invariant.suit)).1;
      row = sym (mutated-++ cs ms (all_of (drop (i + 1) runs)) r new one) ∙ ap (λ rs. mutated cs (all_of rs) r) (sym rest) ∙ c.loop-run.invariant.row;
    }

pub returns-in-Err : goal.returns-in-Err
returns-in-Err c =
    let cs = c.args.columns.now in
    let runs : List (List Mutation) = c.args.runs.now in
    let i = c.loop-run.run-index in
    let ms : List Mutation = c.run-item.result in
    let r = c.loop-run.row in
    let rest : drop i runs ≡ ms ∷ drop (i + 1) runs = drop_more runs i ms c.loop-run-test.true ∙ ap (λ x. x ∷ drop (i + 1) runs) (sym c.run-item.is) in
    let one : mutated cs ms r ≡ Err (error_of c.in-Err.fault) = sym c.in_ok-fault.ensures ∙ ap (answered (λ _. c.mutate_run.new.row)) c.in-Err.is in
    sym (mutated_fault-++ cs ms (all_of (drop (i + 1) runs)) r (error_of c.in-Err.fault) one) ∙ ap (λ rs. mutated cs (all_of rs) r) (sym rest) ∙ c.loop-run.invariant.row

pub returns : goal.returns
returns c =
    let none : drop c.loop-run.run-index c.args.runs.now ≡ [] = drop_all c.loop-run.run-index c.args.runs.now c.loop-run-test.false in
    ap (λ rs. mutated c.args.columns.now (all_of rs) c.loop-run.row) (sym none) ∙ c.loop-run.invariant.row
