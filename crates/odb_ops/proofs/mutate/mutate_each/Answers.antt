use Rattle.std.proofs.Common.{rules, ◌≡◌, ◌+◌, List, [], ◌∷◌, drop, Ok, Err, sym, ap, ◌∙◌}
use Rattle.std.proofs.lemmas.List.{drop_all, drop_more}
use Rattle.odb_mutate.specs.Mutation.{Mutation}
use Rattle.odb_mutate.specs.Represented.Mutation.{answered, error_of}
use Rattle.odb_ops.specs.Execution.{mutated}
use Rattle.odb_ops.proofs.Fits.{mutated_fault, mutated_fit, mutated_more}
use Rattle.odb_ops.proofs.mutate.mutate_each.Goals as goal

pub loop-mutation-preserved : goal.loop-mutation-preserved
loop-mutation-preserved c =
    let cs = c.args.columns.now in
    let ms : List Mutation = c.args.mutations.now in
    let i = c.loop-mutation.mutation-index in
    let m : Mutation = c.mutation-item.result in
    let r = c.loop-mutation.row in
    let new = c.mutate_column.new.row in
    let rest : drop i ms ≡ m ∷ drop (i + 1) ms = drop_more ms i m c.loop-mutation-test.true ∙ ap (λ x. x ∷ drop (i + 1) ms) (sym c.mutation-item.is) in
    let one : mutated cs (m ∷ []) r ≡ Ok new = search rules in
    (mutated_fit cs (m ∷ []) r new c.loop-mutation.invariant.0 one, sym (mutated_more cs m (drop (i + 1) ms) r new one) ∙ ap (λ ns. mutated cs ns r) (sym rest) ∙ c.loop-mutation.invariant.1)

pub returns-in-Err : goal.returns-in-Err
returns-in-Err c =
    let cs = c.args.columns.now in
    let ms : List Mutation = c.args.mutations.now in
    let i = c.loop-mutation.mutation-index in
    let m : Mutation = c.mutation-item.result in
    let r = c.loop-mutation.row in
    let rest : drop i ms ≡ m ∷ drop (i + 1) ms = drop_more ms i m c.loop-mutation-test.true ∙ ap (λ x. x ∷ drop (i + 1) ms) (sym c.mutation-item.is) in
    let one : mutated cs (m ∷ []) r ≡ Err (error_of c.in-Err.fault) = sym c.in_ok-fault.ensures.done ∙ ap (answered (λ _. c.mutate_column.new.row)) c.in-Err.is in
    sym (mutated_fault cs m (drop (i + 1) ms) r (error_of c.in-Err.fault) one) ∙ ap (λ ns. mutated cs ns r) (sym rest) ∙ c.loop-mutation.invariant.1

pub returns : goal.returns
returns c =
    let none : drop c.loop-mutation.mutation-index c.args.mutations.now ≡ [] = drop_all c.loop-mutation.mutation-index c.args.mutations.now c.loop-mutation-test.false in
    ap (λ ms. mutated c.args.columns.now ms c.loop-mutation.row) (sym none) ∙ c.loop-mutation.invariant.1
