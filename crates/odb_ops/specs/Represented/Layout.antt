-- The tokens of which the rows of a `select` are printed.
use Rattle.std.specs.Prelude.{List, [], ◌∷◌}
use Rattle.std.specs.Ordering.{match_ordering}
use Rattle.json.specs.Token.{Token, key}
use Rattle.odb_atoms.specs.Row.{Row, Selector, cell}
use Rattle.odb_atoms.specs.Text.{text_cmp}
use Rattle.odb_atoms.specs.Uuid.{Uuid}
use Rattle.odb_atoms.specs.Value.{Value}
use Rattle.odb_ops.specs.Execution.{project, write_cells}
use Rattle.odb_print.specs.Tokens.{tokens_of}
use Rattle.odb_schema.specs.Notation.{write_value}
use Rattle.odb_schema.specs.Schema.{Column, selector_name}

-- the column before those whose names come after its own, in the place of one of its name
abbrev pub placed : List Column → Selector → List Selector → List Selector
placed cs c [] = c ∷ []
placed cs c (d ∷ ds) = match_ordering (text_cmp (selector_name cs c) (selector_name cs d)) (c ∷ d ∷ ds) (c ∷ ds) (d ∷ placed cs c ds)

-- the columns in the order of their names
abbrev pub by_name : List Column → List Selector → List Selector
by_name cs [] = []
by_name cs (c ∷ columns) = placed cs c (by_name cs columns)

-- the values of the columns of a row
abbrev pub content : List Selector → Uuid × Row → List Value
content columns e = project columns e.0 e.1

abbrev pub cell_tokens : List Column → Uuid × Row → Selector → List Token
cell_tokens cs e c = key (selector_name cs c) ∷ tokens_of (write_value (cell e.0 e.1 c))

-- a row of these values
abbrev pub row_tokens : List Column → List Selector → List Value → List Token
row_tokens cs columns vs = tokens_of (write_cells cs columns vs)

-- a row with these columns
abbrev pub entry_tokens : List Column → List Selector → Uuid × Row → List Token
entry_tokens cs columns e = row_tokens cs columns (content columns e)
