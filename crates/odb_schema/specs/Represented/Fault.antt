-- What the faults of the code stand for, and when the code's reading is the one of the definitions. [P 1.4]
use Rattle.std.specs.Prelude.{◌≡◌, ℕ, Result, Ok, Err}
use Rattle.odb_schema.specs.SchemaText as model
use Rattle.odb_schema.specs.declared.fault.SchemaFault.{SchemaFault}
use Rattle.odb_schema.specs.declared.fault.SchemaFault.TheVariants.{Memory, Syntax, BadId, BadType, UnknownRefTable, BadIndex, TooLarge}

-- the numbers by which faults are reported
abbrev pub number_of : SchemaFault → ℕ
number_of Memory = 1
number_of Syntax = 2
number_of BadId = 3
number_of BadType = 4
number_of UnknownRefTable = 5
number_of BadIndex = 6
number_of TooLarge = 7

-- the fault is the first of the text; where memory was refused nothing is said of the text
abbrev pub IsFaultOf : {A : Type 0} → SchemaFault → Result A model.SchemaFault → Type 0
IsFaultOf Memory r = Unit {0}
IsFaultOf Syntax r = r ≡ Err model.syntax
IsFaultOf BadId r = r ≡ Err model.bad_id
IsFaultOf BadType r = r ≡ Err model.bad_type
IsFaultOf UnknownRefTable r = r ≡ Err model.unknown_ref_table
IsFaultOf BadIndex r = r ≡ Err model.bad_index
IsFaultOf TooLarge r = r ≡ Err model.too_large

-- the same where no memory is taken, so that none can be refused
abbrev pub IsFault : {A : Type 0} → SchemaFault → Result A model.SchemaFault → Type 0
IsFault Memory r = ⊥
IsFault Syntax r = r ≡ Err model.syntax
IsFault BadId r = r ≡ Err model.bad_id
IsFault BadType r = r ≡ Err model.bad_type
IsFault UnknownRefTable r = r ≡ Err model.unknown_ref_table
IsFault BadIndex r = r ≡ Err model.bad_index
IsFault TooLarge r = r ≡ Err model.too_large

-- what the code read stands for what the definitions read, and its fault for theirs
abbrev pub Gives : {A B : Type 0} → (A → B) → Result A SchemaFault → Result B model.SchemaFault → Type 0
Gives view (Ok a) r = r ≡ Ok (view a)
Gives view (Err e) r = IsFault e r

-- the same, or memory was refused
abbrev pub Reads : {A B : Type 0} → (A → B) → Result A SchemaFault → Result B model.SchemaFault → Type 0
Reads view (Ok a) r = r ≡ Ok (view a)
Reads view (Err e) r = IsFaultOf e r
