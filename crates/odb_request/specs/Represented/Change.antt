-- What a change of the code stands for: the table's name, and its new filter.
use Rattle.std.specs.Prelude.{ℕ, List}
use Rattle.std.specs.Arc.{arc_value}
use Rattle.odb_cond.specs.Filter.{Filter}
use Rattle.odb_request.specs.Represented.Shape.{table_name}
use Rattle.odb_request.specs.declared.change.Change.{Change}
use Rattle.odb_schema.specs.Schema.{Schema}

abbrev pub change_of : Schema → Change → List ℕ × Filter
change_of s c = (table_name s c.table, arc_value c.filter)
