-- The notation of mutations, `[column, mutator, value]` (RFC 7047, <mutation>). [P 3.2]
use Rattle.std.specs.Prelude.{ℕ, Bool, true, false, cond, not, ◌&&◌, List, codes, is_some, Option, Some, None}
use Rattle.odb_atoms.specs.Atom.{integers, same_kind}
use Rattle.odb_atoms.specs.ColType.{ColType, is_scalar, scalar}
use Rattle.odb_atoms.specs.Error.{Error, constraint_violation, syntax_error, unknown_column}
use Rattle.odb_atoms.specs.First.{Ok, Result, demand, ok_or, ◌>>=◌, ◌>>◌}
use Rattle.odb_atoms.specs.Row.{place_of}
use Rattle.odb_atoms.specs.Text.{same_text}
use Rattle.odb_atoms.specs.Value.{Value}
use Rattle.odb_json.specs.ColumnValue.{read_by_kind}
use Rattle.odb_json.specs.ConditionNotation.{read_text, triple}
use Rattle.odb_mutate.specs.Mutation.{Mutation, Mutator, add, delete, divide, insert, multiply, remainder, subtract}
use Rattle.odb_schema.specs.Json.{Data}
use Rattle.odb_schema.specs.Notation.{Names, is_map_notation}
use Rattle.odb_schema.specs.Schema.{Column, column_type, is_mutable, selector}

abbrev pub mutator_named : List ℕ → Option Mutator
mutator_named s =
    cond (same_text s (codes "+=")) (Some add)
    (cond (same_text s (codes "-=")) (Some subtract)
    (cond (same_text s (codes "*=")) (Some multiply)
    (cond (same_text s (codes "/=")) (Some divide)
    (cond (same_text s (codes "%=")) (Some remainder)
    (cond (same_text s (codes "insert")) (Some insert)
    (cond (same_text s (codes "delete")) (Some delete) None))))))

abbrev pub is_arithmetic : Mutator → Bool
is_arithmetic add = true
is_arithmetic subtract = true
is_arithmetic multiply = true
is_arithmetic divide = true
is_arithmetic remainder = true
is_arithmetic insert = false
is_arithmetic delete = false

-- arithmetic wants integers that are no map, `insert` and `delete` a set or a map that is no scalar
abbrev pub takes_mutator : ColType → Mutator → Bool
takes_mutator t m = cond (is_arithmetic m) (same_kind t.key.kind integers && not (is_some t.value)) (not (is_scalar t))

-- a set of keys of the map type
abbrev pub key_set : ColType → ColType
key_set t = record t { value = None; min = 0; max = None }

-- one integer for arithmetic; for `delete` on a map a map, or a set of keys; else a value of the column's kind
abbrev pub operand_type : ColType → Mutator → Bool → ColType
operand_type t delete false = key_set t
operand_type t m is_map = cond (is_arithmetic m) (scalar integers) t

-- the place of a column that an operation may change: a name that no column has is a fault, and so are `_uuid`, `_version` and an immutable column
abbrev pub changeable : List Column → List ℕ → Result ℕ Error
changeable cs name = do
  column ← ok_or (selector cs name) unknown_column
  i ← ok_or (place_of column) constraint_violation
  demand (is_mutable cs i) constraint_violation
  Ok i

abbrev pub read_changeable : List Column → Data → Result ℕ Error
read_changeable cs d = do
  name ← read_text d
  changeable cs name

-- a mutator that a column of the type takes
abbrev pub read_mutator : ColType → Data → Result Mutator Error
read_mutator t d = do
  name ← read_text d
  mutator ← ok_or (mutator_named name) syntax_error
  demand (takes_mutator t mutator) syntax_error
  Ok mutator

-- the value of a mutation by the mutator of a column of the type
abbrev pub read_operand : Option Names → ColType → Mutator → Data → Result Value Error
read_operand names t mutator d = read_by_kind names (operand_type t mutator (is_map_notation d)) d

-- three members, then from the front the column, the mutator and the value
abbrev pub read_mutation : Option Names → List Column → Data → Result Mutation Error
read_mutation names cs d = do
  parts ← ok_or (triple d) syntax_error
  column ← read_changeable cs parts.0
  mutator ← read_mutator (column_type cs column) parts.1
  value ← read_operand names (column_type cs column) mutator parts.2
  Ok (record { column = column; mutator = mutator; value = value })
