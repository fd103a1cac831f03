use Rattle.odb_wire.proofs.Rests.{no_fault}
use Rattle.odb_wire.proofs.split.StreamState.fault.Goals as goal

pub returns-in-Going : goal.returns-in-Going
returns-in-Going c = λ most stands. no_fault most _ _ stands c.in-Going.is
