-- What the refusal of a list stands for.
use Rattle.std.specs.Prelude.{Option, Some, None, Result, Ok, Err}
use Rattle.odb_atoms.specs.Members as model
use Rattle.odb_atoms.specs.declared.value.ListFault.{ListFault}
use Rattle.odb_atoms.specs.declared.value.Refused.{Refused}
use Rattle.odb_atoms.specs.declared.value.ListFault.TheVariants.{MixedKinds, Repeated}

abbrev pub list_fault_of : ListFault → model.ListFault
list_fault_of MixedKinds = model.mixed_kinds
list_fault_of Repeated = model.repeated

-- why the list was refused, if it was
abbrev pub refusal_of : {A B : Type 0} → Result A (Refused B) → Option model.ListFault
refusal_of (Ok a) = None
refusal_of (Err r) = Some (list_fault_of r.fault)
