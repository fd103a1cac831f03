-- What a column type of the code stands for, and the answer of a test whether it admits a value.
use Rattle.std.specs.Prelude.{option_map, string_bytes, Option, Some, None, Result, Ok, Err}
use Rattle.odb_atoms.specs.ColType as model
use Rattle.odb_atoms.specs.Represented.Atom.{kind_in}
use Rattle.odb_atoms.specs.declared.column_type.Admit.{Admit}
use Rattle.odb_atoms.specs.declared.column_type.Admit.TheVariants as admit
use Rattle.odb_atoms.specs.declared.column_type.Base.{Base}
use Rattle.odb_atoms.specs.declared.column_type.ColType.{ColType}
use Rattle.odb_atoms.specs.declared.column_type.Reference.{Reference}

abbrev pub reference_of : Reference → model.Reference
reference_of r = record { table = string_bytes r.table; weak = r.weak }

abbrev pub base_of : Base → model.Base
base_of b = record { kind = kind_in b.kind; enum = b.allowed; min_integer = b.min_integer; max_integer = b.max_integer; min_length = b.min_length; max_length = b.max_length; reference = option_map reference_of b.reference }

abbrev pub type_of : ColType → model.ColType
type_of t = record { key = base_of t.key; value = option_map base_of t.value; min = t.min; max = t.max }

abbrev pub fault_of : Admit → model.AdmitFault
fault_of admit.Kind = model.wrong_kind
fault_of admit.TooFew = model.too_few
fault_of admit.TooMany = model.too_many
fault_of admit.Constraint = model.broken_constraint

-- why the value was not admitted, if it was not
abbrev pub refused_for : {A : Type 0} → Result A Admit → Option model.AdmitFault
refused_for (Ok a) = None
refused_for (Err e) = Some (fault_of e)
