use Rattle.std.proofs.Common.{◌≡◌, ◌++◌, IfSome, List, subst, ap, ◌∙◌}
use Rattle.odb_mutate.specs.Mutation.{Mutation}
use Rattle.odb_ops.specs.Represented.Merged.{all_of}
use Rattle.odb_ops.proofs.Insertions.{all_of-push}
use Rattle.odb_ops.proofs.merging.+add_runs.Goals as goal

pub returns-in_ok-push-in-Some : goal.returns-in_ok-push-in-Some
returns-in_ok-push-in-Some t c =
    let runs : List (List Mutation) = c.args.runs.now.items in
    let ms : List Mutation = c.args.mutations.now in
    let run : List Mutation = c.in-Some.run' in
    let same : run ≡ ms = subst (λ o. IfSome o (λ (r : List Mutation). r ≡ ms)) c.in-Some.is c.in_ok-run.ensures.run in
    ap all_of c.in_ok-push-in-Some.ensures.items ∙ all_of-push runs run ∙ ap (λ ns. all_of runs ++ ns) same
