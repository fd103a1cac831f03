-- What a row that is read stands for, and its cells.
use Rattle.std.specs.Prelude.{ℕ, List, map, Vec}
use Rattle.std.specs.declared.alloc.Global.{Global}
use Rattle.odb_atoms.specs.Error.{Error}
use Rattle.odb_atoms.specs.First.{Result}
use Rattle.odb_atoms.specs.Row as row
use Rattle.odb_atoms.specs.Value.{Value}
use Rattle.odb_cond.specs.Represented.Clause.{selector_of}
use Rattle.odb_cond.specs.declared.clause.Selector.{Selector}
use Rattle.odb_json.specs.MutationNotation.{changeable}
use Rattle.odb_json.specs.Operation.{insertable}
use Rattle.odb_json.specs.declared.row.WrittenBy.{WrittenBy}
use Rattle.odb_json.specs.declared.row.WrittenBy.TheVariants.{Insert, Update}
use Rattle.odb_schema.specs.Schema.{Column}

-- the place of a column that a row may name
abbrev pub written : WrittenBy → List Column → List ℕ → Result ℕ Error
written Insert = insertable
written Update = changeable

abbrev pub cell_of : Selector × Value → row.Selector × Value
cell_of c = (selector_of c.0, c.1)

abbrev pub cells_of : Vec (Selector × Value) Global → List (row.Selector × Value)
cells_of v = map cell_of v.items
