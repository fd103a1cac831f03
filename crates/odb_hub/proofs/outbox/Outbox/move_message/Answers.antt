use Rattle.std.proofs.Common.{[], sym, subst}
use Rattle.std.proofs.lemmas.Result.{on_err_weaker}
use Rattle.std.specs.Prelude.{◌≢◌}
use Rattle.odb_hub.specs.Outbox.{bytes_of}
use Rattle.odb_hub.proofs.Writing.{longer_after}
use Rattle.odb_hub.proofs.outbox.Outbox.move_message.Goals as goal

pub returns-clause-err : goal.returns-clause-err
returns-clause-err c = on_err_weaker c.move_to-moved.result (λ some. longer_after c.move_to-moved.new.buffer (bytes_of c.unless_empty.result) (subst (λ l. l ≢ []) (sym c.unless_empty.ensures) some)) c.move_to-moved.ensures.err
