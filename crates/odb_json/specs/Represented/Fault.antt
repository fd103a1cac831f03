-- What the faults of the code stand for, and when the code's reading is the one of the definitions.
use Rattle.std.specs.Prelude.{◌≡◌}
use Rattle.odb_atoms.specs.Error.{Error}
use Rattle.odb_atoms.specs.First.{Err, Ok, Result}
use Rattle.odb_atoms.specs.Represented.Error.{error_of}
use Rattle.odb_json.specs.declared.fault.OpFault.{OpFault}
use Rattle.odb_json.specs.declared.fault.OpFault.TheVariants.{Memory, Failed}

-- the fault is the error of the text; where memory was refused nothing is said of the text
abbrev pub IsFaultOf : {A : Type 0} → OpFault → Result A Error → Type 0
IsFaultOf Memory r = Unit {0}
IsFaultOf (Failed e) r = r ≡ Err (error_of e)

-- the same where no memory is taken, so that none can be refused
abbrev pub IsFault : {A : Type 0} → OpFault → Result A Error → Type 0
IsFault Memory r = ⊥
IsFault (Failed e) r = r ≡ Err (error_of e)

-- what the code read stands for what the definitions read, and its fault for theirs
abbrev pub Gives : {A B : Type 0} → (A → B) → Result A OpFault → Result B Error → Type 0
Gives view (Ok a) r = r ≡ Ok (view a)
Gives view (Err e) r = IsFault e r

-- the same, or memory was refused
abbrev pub Reads : {A B : Type 0} → (A → B) → Result A OpFault → Result B Error → Type 0
Reads view (Ok a) r = r ≡ Ok (view a)
Reads view (Err e) r = IsFaultOf e r
