-- What a row's columns are named with, column by column.
use Rattle.std.specs.Prelude.{if◌then◌else◌, List, Option, Some, None, option_map}
use Rattle.json.specs.Token.{Token}
use Rattle.odb_atoms.specs.ColType.{default_of}
use Rattle.odb_atoms.specs.Difference.{difference}
use Rattle.odb_atoms.specs.Row.{Row, cell}
use Rattle.odb_atoms.specs.Uuid.{Uuid}
use Rattle.odb_atoms.specs.Value.{Value, same_value}
use Rattle.odb_print.specs.Tokens.{member_tokens}
use Rattle.odb_monitor.specs.declared.form.Form.{Form}
use Rattle.odb_monitor.specs.declared.form.Form.TheVariants.{All, Differences, Old, Set}
use Rattle.odb_request.specs.Request.{Column}
use Rattle.odb_schema.specs.Notation.{write_value}

abbrev pub cell_in : Uuid × Row → Column → Value
cell_in r c = cell r.0 r.1 c.source

abbrev pub all_in : Uuid × Row → Column → Option Value
all_in new c = Some (cell_in new c)

-- unless it is equal to the column's default
abbrev pub set_in : Uuid × Row → Column → Option Value
set_in new c = if same_value (cell_in new c) (default_of c.type) then None else Some (cell_in new c)

-- the old value, where it differs
abbrev pub old_in : Uuid × Row → Uuid × Row → Column → Option Value
old_in old new c = if same_value (cell_in old c) (cell_in new c) then None else Some (cell_in old c)

-- the difference, where there is one
abbrev pub difference_in : Uuid × Row → Uuid × Row → Column → Option Value
difference_in old new c = if same_value (cell_in old c) (cell_in new c) then None else Some (difference (cell_in old c) (cell_in new c) c.type)

abbrev pub named_by : Form → Column → Option Value
named_by (All new) = all_in new.now
named_by (Set new) = set_in new.now
named_by (Old old new) = old_in old.now new.now
named_by (Differences old new) = difference_in old.now new.now

abbrev pub column_tokens : (Column → Option Value) → Column → List Token
column_tokens f c = member_tokens c.name (option_map write_value (f c))
