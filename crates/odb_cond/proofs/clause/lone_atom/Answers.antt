use Rattle.odb_cond.proofs.Searches.{lone_listed}
use Rattle.odb_cond.proofs.clause.lone_atom.Goals as goal

pub returns-in-Set : goal.returns-in-Set
returns-in-Set c = lone_listed c.lone.result c.in-Set.elements c.args.value.now c.lone.ensures c.in-Set.ensures.value
