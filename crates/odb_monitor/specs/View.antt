-- What a monitor sees: the rows and columns that its filters select, and how two views differ. [P 9.2, 9.4]
use Rattle.std.specs.Prelude.{Bool, true, false, if◌then◌else◌, List, [], ◌∷◌, map, Option, Some, None}
use Rattle.std.specs.List.{list_all}
use Rattle.odb_atoms.specs.FinMap as finmap
use Rattle.odb_atoms.specs.FinMap.{FinMap, combine, map_entries}
use Rattle.odb_atoms.specs.Uuid.{Uuid, uuid_cmp}
use Rattle.odb_atoms.specs.Value.{Value, same_values}
use Rattle.odb_atoms.specs.Row.{Row, cell}
use Rattle.odb_cond.specs.Filter.{selects}
use Rattle.odb_tables.specs.Database.{Table, Db, table_at}
use Rattle.odb_request.specs.Request.{Column, Select, Request}

-- a row cut to the monitored columns
abbrev pub Cells : Type 0
Cells = List Value

abbrev pub Contents : Type 0
Contents = FinMap uuid_cmp Cells

-- for each requested table, in the order of the requests, its selected rows
abbrev pub View : Type 0
View = List Contents

abbrev pub cut : List Column → Uuid → Row → Cells
cut cs u row = map (λ c. cell u row c.source) cs

abbrev pub selected : Request → Table → Contents
selected q t = map_entries (λ u row. if selects q.filter u row then Some (cut q.shape.columns u row) else None) t

abbrev pub query : Db → List Request → View
query db qs = map (λ q. selected q (table_at db q.place)) qs

-- what becomes of one row
pub data Change : Type 0 where
  comes_in : Cells → Change
  goes_out : Cells → Change
  differs : Cells → Cells → Change

abbrev pub Delta : Type 0
Delta = List (FinMap uuid_cmp Change)

abbrev pub change : Option Cells → Option Cells → Option Change
change None None = None
change None (Some new) = Some (comes_in new)
change (Some old) None = Some (goes_out old)
change (Some old) (Some new) = if same_values old new then None else Some (differs old new)

-- table by table, the rows that come in, go out or differ
abbrev pub delta : View → View → Delta
delta [] W = []
delta (t ∷ V) [] = []
delta (t ∷ V) (u ∷ W) = combine change t u ∷ delta V W

abbrev pub is_shown : Bool → Select → Change → Bool
is_shown first s (comes_in new) = if first then s.initial else s.insert
is_shown first s (goes_out old) = s.delete
is_shown first s (differs old new) = s.modify

abbrev pub is_empty : {A : Type 0} → List A → Bool
is_empty [] = true
is_empty (x ∷ xs) = false

-- without the kinds of change that are switched off
abbrev pub shown : Bool → List Request → Delta → Delta
shown first [] D = []
shown first (q ∷ qs) [] = []
shown first (q ∷ qs) (t ∷ D) = map_entries (λ u c. if is_shown first q.select c then Some c else None) t ∷ shown first qs D

abbrev pub is_none : Delta → Bool
is_none D = list_all (λ t. is_empty t.entries) D

-- the view of a client that was told nothing
abbrev pub nothing : {A : Type 0} → List A → View
nothing qs = map (λ q. finmap.empty) qs
