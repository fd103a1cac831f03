-- What is written of a value is read back as that value.
use Rattle.std.specs.Prelude.{◌≡◌, true, not, ◌||◌, ◌==◌, Option}
use Rattle.odb_atoms.specs.ColType.{ColType, admits, has_kind, is_scalar}
use Rattle.odb_atoms.specs.First.{Ok}
use Rattle.odb_atoms.specs.Value.{Value, each_atom, size, within_limit}
use Rattle.odb_json.specs.ColumnValue.{read_by_kind, read_value}
use Rattle.odb_schema.specs.Json.{Data}
use Rattle.odb_schema.specs.Notation.{Names, has_notation, write_value}

-- its atoms have a notation, and there are no more of them than a value may have
abbrev pub IsWritable : Value → Type 0
IsWritable v = (each_atom has_notation has_notation v ≡ true) × (within_limit v ≡ true)

-- the JSON is read as the value, for each type of its kind and for each type that admits it, whatever the names
abbrev pub ReadsBack : Value → Data → Type 0
ReadsBack v d =
    (names : Option Names) (t : ColType) → IsWritable v
    → (has_kind t v ≡ true → (not (is_scalar t) || (size v == 1)) ≡ true → read_by_kind names t d ≡ Ok v)
    × (admits t v ≡ true → read_value names t d ≡ Ok v)

-- What is written of a value is read back.
abbrev pub NotationIsReadBack : Type 0
NotationIsReadBack = (v : Value) → ReadsBack v (write_value v)
