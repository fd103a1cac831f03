-- Values of columns in operations: of a row that is written, and of conditions, mutations and rows of `wait`. [P 2.4]
use Rattle.std.specs.Prelude.{not, ◌||◌, ◌==◌, Option}
use Rattle.odb_atoms.specs.ColType.{ColType, admits, is_scalar}
use Rattle.odb_atoms.specs.Error.{Error, constraint_violation, resources_exhausted, syntax_error}
use Rattle.odb_atoms.specs.First.{Ok, Result, demand, ◌>>=◌, ◌>>◌}
use Rattle.odb_atoms.specs.Value.{Value, size, within_limit}
use Rattle.odb_schema.specs.Json.{Data}
use Rattle.odb_schema.specs.Notation.{Names, read_any}

-- A value of a condition, of a mutation or of a row of `wait`: of the type's kind, and on a scalar of exactly one element.
abbrev pub read_by_kind : Option Names → ColType → Data → Result Value Error
read_by_kind names t d = do
  v ← read_any names t d
  demand (not (is_scalar t) || (size v == 1)) syntax_error
  demand (within_limit v) resources_exhausted
  Ok v

-- A value of a column in the row of `insert` or `update`: one that the type admits.
abbrev pub read_value : Option Names → ColType → Data → Result Value Error
read_value names t d = do
  v ← read_any names t d
  demand (within_limit v) resources_exhausted
  demand (admits t v) constraint_violation
  Ok v
