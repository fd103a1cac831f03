-- The rows of a table of which conditions hold (RFC 7047, `where` of an operation).
use Rattle.std.specs.Prelude.{cond, List, Some, None}
use Rattle.odb_atoms.specs.FinMap as map
use Rattle.odb_cond.specs.Condition.{Clause, holds_all}
use Rattle.odb_cond.specs.Filter.{Filter, selects}
use Rattle.odb_tables.specs.Database.{Table}

-- the rows of which every condition holds
abbrev pub matching : List Clause → Table → Table
matching clauses table = map.map_entries (λ u r. cond (holds_all clauses u r) (Some r) None) table

-- the rows that the filter selects
abbrev pub selected : Filter → Table → Table
selected f t = map.map_entries (λ u r. cond (selects f u r) (Some r) None) t
