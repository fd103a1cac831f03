-- What a monitor asks for (RFC 7047, section 4.1.5; ovsdb-server(7), monitor_cond): of each table the columns, the kinds of change and the filter. [P 9.1]
use Rattle.std.specs.Prelude.{ℕ, Bool, true, false, ◌&&◌, List, map, codes}
use Rattle.std.specs.List.{list_all}
use Rattle.odb_atoms.specs.ColType.{ColType}
use Rattle.odb_atoms.specs.Row.{Selector}
use Rattle.odb_cond.specs.Filter.{Filter}

-- a monitored column: its name, its place in a row, and its type
pub record Column : Type 0 where
  pub name : List ℕ
  pub source : Selector
  pub type : ColType

-- a monitored table: its name, and its monitored columns by ascending name
pub record Shape : Type 0 where
  pub name : List ℕ
  pub columns : List Column

-- which kinds of change are sent
pub record Select : Type 0 where
  pub initial : Bool
  pub insert : Bool
  pub delete : Bool
  pub modify : Bool

abbrev pub all_on : Select → Bool
all_on s = s.initial && (s.insert && (s.delete && s.modify))

-- what is asked of one table; `place` is the table's in the schema
pub record Request : Type 0 where
  pub shape : Shape
  pub place : ℕ
  pub select : Select
  pub filter : Filter

-- no kind of change of any table is switched off
abbrev pub are_all_on : List Request → Bool
are_all_on qs = list_all (λ q. all_on q.select) qs

abbrev pub shapes : List Request → List Shape
shapes qs = map (λ q. q.shape) qs

abbrev pub column_names : List Column → List (List ℕ)
column_names cs = map (λ c. c.name) cs

abbrev pub table_names : List Shape → List (List ℕ)
table_names ss = map (λ s. s.name) ss

-- `monitor` with its `update`, or `monitor_cond` with its `update2`
pub data Notation : Type 0 where
  update update2 : Notation

-- its requests may have conditions
abbrev pub is_conditional : Notation → Bool
is_conditional update = false
is_conditional update2 = true

-- the method of its notifications
abbrev pub update_method : Notation → List ℕ
update_method update = codes "update"
update_method update2 = codes "update2"
