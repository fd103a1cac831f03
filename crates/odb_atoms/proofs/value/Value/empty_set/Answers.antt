use Rattle.odb_atoms.proofs.Represented.Values.{none_in_set}
use Rattle.odb_atoms.proofs.value.Value.empty_set.Goals as goal

pub returns : goal.returns
returns c = rw c.new.ensures.items none_in_set
