use Rattle.odb_hub.proofs.Keeping.{new_is}
use Rattle.odb_trials.proofs.requests.core.Goals as goal

pub returns-in-Ok-new : goal.returns-in-Ok-new
returns-in-Ok-new c = new_is c.in-Ok-new.core 0 100 c.in-Ok.schema c.in-Ok-new.ensures.ok
