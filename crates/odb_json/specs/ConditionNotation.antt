-- The notation of conditions, `[column, function, value]` (RFC 7047, <condition>). [P 3.1]
use Rattle.std.specs.Prelude.{ℕ, Bool, true, false, cond, not, ◌&&◌, ◌||◌, List, codes, is_some, Option, Some, None}
use Rattle.odb_atoms.specs.Atom.{integers, same_kind}
use Rattle.odb_atoms.specs.ColType.{ColType, is_single, scalar}
use Rattle.odb_atoms.specs.Error.{Error, syntax_error, unknown_column}
use Rattle.odb_atoms.specs.First.{Ok, Result, demand, ok_or, ◌>>=◌, ◌>>◌}
use Rattle.odb_atoms.specs.Row.{Selector}
use Rattle.odb_atoms.specs.Text.{same_text}
use Rattle.odb_atoms.specs.Value.{Value}
use Rattle.odb_cond.specs.Condition.{Clause, Function, equal, excludes, greater, greater_or_equal, includes, less, less_or_equal, not_equal}
use Rattle.odb_json.specs.ColumnValue.{read_by_kind}
use Rattle.odb_schema.specs.Json.{Data, array, as_str, item, no_items}
use Rattle.odb_schema.specs.Notation.{Names}
use Rattle.odb_schema.specs.Schema.{Column, selector, selector_type}

abbrev pub function_named : List ℕ → Option Function
function_named s =
    cond (same_text s (codes "<")) (Some less)
    (cond (same_text s (codes "<=")) (Some less_or_equal)
    (cond (same_text s (codes "==")) (Some equal)
    (cond (same_text s (codes "!=")) (Some not_equal)
    (cond (same_text s (codes ">=")) (Some greater_or_equal)
    (cond (same_text s (codes ">")) (Some greater)
    (cond (same_text s (codes "includes")) (Some includes)
    (cond (same_text s (codes "excludes")) (Some excludes) None)))))))

abbrev pub is_ordered : Function → Bool
is_ordered less = true
is_ordered less_or_equal = true
is_ordered equal = false
is_ordered not_equal = false
is_ordered greater_or_equal = true
is_ordered greater = true
is_ordered includes = false
is_ordered excludes = false

-- one integer, or one at most: a scalar, or a set with `max` 1
abbrev pub is_comparable : ColType → Bool
is_comparable t = is_single t && not (is_some t.value) && same_kind t.key.kind integers

-- the ordered functions want integers of which there is no second
abbrev pub takes_function : ColType → Function → Bool
takes_function t f = not (is_ordered f) || is_comparable t

-- what a column of the type is compared with: by the ordered functions one integer
abbrev pub operand : ColType → Function → ColType
operand t f = cond (is_ordered f) (scalar integers) t

-- `[a, b, c]`
abbrev pub triple : Data → Option (Data × Data × Data)
triple (array (item a (item b (item c no_items)))) = Some (a, b, c)
triple d = None

abbrev pub read_text : Data → Result (List ℕ) Error
read_text d = ok_or (as_str d) syntax_error

abbrev pub read_selector : List Column → Data → Result Selector Error
read_selector cs d = do
  name ← read_text d
  ok_or (selector cs name) unknown_column

-- a function that a column of the type takes
abbrev pub read_function : ColType → Data → Result Function Error
read_function t d = do
  name ← read_text d
  function ← ok_or (function_named name) syntax_error
  demand (takes_function t function) syntax_error
  Ok function

-- the value of a condition by the function of a column of the type
abbrev pub read_operand : Option Names → ColType → Function → Data → Result Value Error
read_operand names t f = read_by_kind names (operand t f)

-- three members, then from the front the column, the function and the value
abbrev pub read_clause : Option Names → List Column → Data → Result Clause Error
read_clause names cs d = do
  parts ← ok_or (triple d) syntax_error
  column ← read_selector cs parts.0
  function ← read_function (selector_type cs column) parts.1
  value ← read_operand names (selector_type cs column) function parts.2
  Ok (record { column = column; function = function; value = value })
