-- Why an operation of the code doesn't go through, and when what it did is what the definition says.
use Rattle.std.specs.Prelude.{◌≡◌, ℕ, ⊤, List, ◌++◌, Option, Some, None}
use Rattle.odb_atoms.specs.First.{Err, Ok, Result}
use Rattle.odb_atoms.specs.Represented.Error.{error_of}
use Rattle.odb_json.specs.Operation.{Op, insert}
use Rattle.odb_json.specs.declared.fault.OpFault.{OpFault}
use Rattle.odb_json.specs.declared.fault.OpFault.TheVariants as fault
use Rattle.odb_ops.specs.Execution as model
use Rattle.odb_ops.specs.Execution.{name_list}
use Rattle.odb_ops.specs.Represented.Draft.{naming}
use Rattle.odb_ops.specs.Represented.Parts.{AreTaken}
use Rattle.odb_ops.specs.declared.stop.Stop.{Stop}
use Rattle.odb_ops.specs.declared.stop.Stop.TheVariants as stop
use Rattle.odb_schema.specs.Json.{Data}
use Rattle.odb_schema.specs.Notation.{Names}
use Rattle.odb_schema.specs.Schema.{Schema}
use Rattle.odb_tables.specs.Draft.{Draft}
use Rattle.odb_tables.specs.Typed.{IsTyped}

-- a fault of a part of an operation stops the operation
abbrev pub IsOfFault : OpFault → Stop → Type 0
IsOfFault fault.Memory s = s ≡ stop.Memory
IsOfFault (fault.Failed e) s = s ≡ stop.Fails e

-- where memory was refused nothing is said
abbrev pub stop_of : Stop → Option model.Stop
stop_of stop.Memory = None
stop_of (stop.Fails e) = Some (model.fails (error_of e))
stop_of (stop.MustWait moment) = Some (model.must_wait moment)

abbrev pub IsStopped : {A : Type 0} → Option model.Stop → Result A model.Stop → Type 0
IsStopped None r = ⊤
IsStopped (Some s) r = r ≡ Err s

-- the same result, or memory was refused
abbrev pub Performs : {A B : Type 0} → (A → B) → Result A Stop → Result B model.Stop → Type 0
Performs view (Ok a) r = r ≡ Ok (view a)
Performs view (Err s) r = IsStopped (stop_of s) r

-- the names that inserts have had after the operation
abbrev pub named_after : Op → List (List ℕ) → List (List ℕ)
named_after (insert t given name own) named = name_list name ++ named
named_after op named = named

-- an operation that went through: its result, and the draft, of the schema, with some names that inserts have had
abbrev pub Carried : Schema → Result Data Stop → Names → Draft → Result (model.Draft × Data) model.Stop → Type 0
Carried s (Ok v) taken d r = IsTyped s d.now × ((named : List (List ℕ)) × AreTaken taken named × (r ≡ Ok (naming named d, v)))
Carried s (Err e) taken d r = IsStopped (stop_of e) r
