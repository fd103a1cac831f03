use Rattle.std.proofs.Common.{rules, ◌<◌, ◌++◌, [], drop, length, subst, List, ℕ}
use Rattle.std.specs.Prelude.{◌≢◌}
use Rattle.odb_hub.specs.Represented.Mailbox.{body_of}
use Rattle.odb_hub.proofs.Writing.{longer, longer_after, on_err, some_left}
use Rattle.odb_hub.proofs.left.MessageLeft.move_to.Goals as goal

pub returns-in_err-self-inside-clause-err : goal.returns-in_err-self-inside-clause-err
returns-in_err-self-inside-clause-err c =
    let before : List ℕ = c.self.inside.out.before.items in
    let body : List ℕ = drop c.self.inside.body (body_of c.self.inside.out) in
    let after : List ℕ = drop c.self.inside.after c.self.inside.out.after.items in
    let less : c.self.inside.before < length before = search rules in
    on_err c.from_residual.result _ (subst (λ l. l ≢ []) c.self.view_is (longer (drop c.self.inside.before before ++ body) after (longer (drop c.self.inside.before before) body (some_left before c.self.inside.before less))))

pub returns-in_err-self-inside-2-clause-err : goal.returns-in_err-self-inside-2-clause-err
returns-in_err-self-inside-2-clause-err c =
    let before : List ℕ = drop c.self.inside.before c.self.inside.out.before.items in
    let body : List ℕ = body_of c.self.inside.out in
    let after : List ℕ = drop c.self.inside.after c.self.inside.out.after.items in
    let less : c.self.inside.body < length body = search rules in
    on_err c.from_residual-in_err-self-inside-2.result _ (subst (λ l. l ≢ []) c.self.view_is (longer (before ++ drop c.self.inside.body body) after (longer_after before (drop c.self.inside.body body) (some_left body c.self.inside.body less))))

pub returns-in_err-self-inside-3-clause-err : goal.returns-in_err-self-inside-3-clause-err
returns-in_err-self-inside-3-clause-err c =
    let before : List ℕ = drop c.self.inside.before c.self.inside.out.before.items in
    let body : List ℕ = drop c.self.inside.body (body_of c.self.inside.out) in
    let after : List ℕ = c.self.inside.out.after.items in
    let less : c.self.inside.after < length after = search rules in
    on_err c.from_residual-in_err-self-inside-3.result _ (subst (λ l. l ≢ []) c.self.view_is (longer_after (before ++ body) (drop c.self.inside.after after) (some_left after c.self.inside.after less)))
