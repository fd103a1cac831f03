-- What a table of the code stands for.
use Rattle.std.specs.Prelude.{ℕ, List, Option, filter_map, option_map}
use Rattle.std.specs.Arc.{arc_value}
use Rattle.std.specs.Borrow.{Bor}
use Rattle.std.specs.declared.sync.Arc.{Arc}
use Rattle.indexmap.specs.IndexMap.{IndexMap}
use Rattle.odb_atoms.specs.FinMap as finite
use Rattle.odb_atoms.specs.Represented.Atom.{uuid_of}
use Rattle.odb_atoms.specs.Row.{Row}
use Rattle.odb_atoms.specs.Uuid.{Uuid}
use Rattle.odb_tables.specs.Database as model
use Rattle.odb_tables.specs.Represented.Keyed.{keyed}

-- the rows by their identifiers
abbrev pub rows_in : {Z S : Type 0} → IndexMap Uuid (Arc Row Z) S → model.Table
rows_in m = keyed arc_value m

-- a row of a list of them, by its identifier
abbrev pub listed : List ℕ × Bor Row → Uuid × Row
listed e = (uuid_of e.0, e.1.now)

-- the row under the identifier, with it, if there is one
abbrev pub entry_at : model.Table → Uuid → Option (Uuid × Row)
entry_at t u = option_map (λ r. let e : Uuid × Row = (u, r) in e) (finite.get t u)

-- the rows under the identifiers
abbrev pub entries_at : model.Table → List Uuid → List (Uuid × Row)
entries_at t us = filter_map (entry_at t) us
