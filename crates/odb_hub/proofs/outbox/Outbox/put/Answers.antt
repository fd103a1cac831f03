use Rattle.std.proofs.Common.{rules, ◌≡◌, ◌==◌, [], length, false, refl, subst}
use Rattle.std.specs.Prelude.{◌≢◌}
use Rattle.odb_hub.specs.Outbox.{bytes_of}
use Rattle.odb_hub.proofs.Writing.{longer_after, something}
use Rattle.odb_hub.proofs.outbox.Outbox.put.Goals as goal

pub returns-then-not-is_between-clause-err : goal.returns-then-not-is_between-clause-err
returns-then-not-is_between-clause-err c =
    let some : (length (bytes_of c.self.inside.message) == 0) ≡ false = search rules in
    (subst (λ o. o.left ≢ []) c.self.view_is (longer_after c.self.inside.buffer (bytes_of c.self.inside.message) (something (bytes_of c.self.inside.message) some)), refl)
