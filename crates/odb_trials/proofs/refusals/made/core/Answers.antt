use Rattle.odb_hub.proofs.Keeping.{new_is}
use Rattle.odb_trials.proofs.refusals.made.core.Goals as goal

pub returns-in-Ok : goal.returns-in-Ok
returns-in-Ok c = new_is c.in-Ok.core 0 100 c.in_ok-schema.field-0 c.in-Ok.ensures.ok

pub returns-in-Ok-new : goal.returns-in-Ok-new
returns-in-Ok-new c = new_is c.in-Ok-new.core 0 100 c.in-Err.schema c.in-Ok-new.ensures.ok
