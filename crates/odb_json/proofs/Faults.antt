-- Faults that are passed on.
use Rattle.std.specs.Prelude.{◌≡◌}
use Rattle.odb_atoms.specs.Error.{Error}
use Rattle.odb_atoms.specs.First.{Err, Result}
use Rattle.odb_atoms.specs.Represented.Error.{error_of}
use Rattle.odb_json.specs.Represented.Fault.{IsFault, IsFaultOf}
use Rattle.odb_json.specs.declared.fault.OpFault.{OpFault}
use Rattle.odb_json.specs.declared.fault.OpFault.TheVariants.{Memory, Failed}

-- a fault of a part is the fault of the whole, where the whole has the part's fault
pub passed_on : {A B : Type 0} (e : OpFault) (r : Result A Error) (q : Result B Error) → ((f : Error) → r ≡ Err f → q ≡ Err f) → IsFaultOf e r → IsFaultOf e q
passed_on Memory r q h is = tt
passed_on (Failed e) r q h is = h (error_of e) is

-- the same where no memory is taken
pub given_on : {A B : Type 0} (e : OpFault) (r : Result A Error) (q : Result B Error) → ((f : Error) → r ≡ Err f → q ≡ Err f) → IsFault e r → IsFaultOf e q
given_on Memory r q h is = absurd is
given_on (Failed e) r q h is = h (error_of e) is
