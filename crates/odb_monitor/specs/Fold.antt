-- The client's own step: table updates folded into a view, strictly. It is None at a message that isn't minimal or doesn't fit the view. [P 9.7]
use Rattle.std.specs.Prelude.{ℕ, Bool, true, false, not, ◌&&◌, if◌then◌else◌, List, [], ◌∷◌, Option, Some, None, option_map, option_and_then, codes, bytes_eq, is_some}
use Rattle.std.specs.List.{list_any}
use Rattle.std.specs.Ordering.{is_lt}
use Rattle.serde_json.specs.Data.{Data, null, boolean, number, string, array, object, Members, no_members, member}
use Rattle.odb_atoms.specs.FinMap.{get, insert, remove}
use Rattle.odb_atoms.specs.ColType.{default_of}
use Rattle.odb_atoms.specs.Difference.{apply}
use Rattle.odb_atoms.specs.Uuid.{Uuid, uuid_cmp}
use Rattle.odb_atoms.specs.Value.{Value, same_value, same_values}
use Rattle.odb_request.specs.Request.{Column, Shape, Notation, update, update2, column_names, table_names}
use Rattle.odb_monitor.specs.View.{Cells, Contents, View}
use Rattle.odb_monitor.specs.Reading.{value_read, uuid_read}

abbrev pub as_object : Data → Option Members
as_object (object ms) = Some ms
as_object null = None
as_object (boolean b) = None
as_object (number n) = None
as_object (string s) = None
as_object (array ds) = None

abbrev pub is_null : Data → Bool
is_null null = true
is_null (boolean b) = false
is_null (number n) = false
is_null (string s) = false
is_null (array ds) = false
is_null (object ms) = false

abbrev pub pairs : Members → List (List ℕ × Data)
pairs no_members = []
pairs (member k d ms) = (k, d) ∷ pairs ms

-- what an object has at each of the names, which ascend as its keys do; None where it has another member
abbrev pub named : List (List ℕ) → List (List ℕ × Data) → Option (List (Option Data))
named [] [] = Some []
named [] (e ∷ es) = None
named (n ∷ ns) [] = option_map (λ ds. None ∷ ds) (named ns [])
named (n ∷ ns) (e ∷ es) = if bytes_eq n e.0 then option_map (λ ds. Some e.1 ∷ ds) (named ns es) else option_map (λ ds. None ∷ ds) (named ns (e ∷ es))

-- the row's new cells, or none where it is gone
abbrev pub put : Contents → Uuid → Option Cells → Contents
put t u None = remove t u
put t u (Some c) = insert t u c

-- a new row's value where its column is named or not: a value that is equal to the default isn't named
abbrev pub filled : Column → Option Value → Option Value
filled c None = Some (default_of c.type)
filled c (Some v) = if same_value v (default_of c.type) then None else Some v

-- a difference that is named changes the value
abbrev pub modified : Column → Value → Option Value → Option Value
modified c v None = Some v
modified c v (Some d) = if same_value v (apply v d c.type) then None else Some (apply v d c.type)

-- an old value that is named is the view's, and the new one another; with none the value stays
abbrev pub replaced : Value → Value → Option Value → Option Value
replaced v new None = if same_value v new then Some new else None
replaced v new (Some old) = if same_value v old && not (same_value v new) then Some new else None

abbrev pub read_cells : List (Option Data) → Option (List (Option Value))
read_cells [] = Some []
read_cells (None ∷ ds) = option_map (λ vs. None ∷ vs) (read_cells ds)
read_cells (Some d ∷ ds) = option_and_then (λ v. option_map (λ vs. Some v ∷ vs) (read_cells ds)) (value_read d)

-- what the object has for each column
abbrev pub cells_of : List Column → Data → Option (List (Option Value))
cells_of cs d = option_and_then read_cells (option_and_then (λ ms. named (column_names cs) (pairs ms)) (as_object d))

abbrev pub all_given : List (Option Value) → Option Cells
all_given [] = Some []
all_given (None ∷ vs) = None
all_given (Some v ∷ vs) = option_map (λ ws. v ∷ ws) (all_given vs)

abbrev pub all_filled : List Column → List (Option Value) → Option Cells
all_filled [] vs = Some []
all_filled (c ∷ cs) [] = None
all_filled (c ∷ cs) (v ∷ vs) = option_and_then (λ w. option_map (λ ws. w ∷ ws) (all_filled cs vs)) (filled c v)

abbrev pub all_modified : List Column → Cells → List (Option Value) → Option Cells
all_modified [] vs ds = Some []
all_modified (c ∷ cs) [] ds = None
all_modified (c ∷ cs) (v ∷ vs) [] = None
all_modified (c ∷ cs) (v ∷ vs) (d ∷ ds) = option_and_then (λ w. option_map (λ ws. w ∷ ws) (all_modified cs vs ds)) (modified c v d)

abbrev pub all_replaced : Cells → Cells → List (Option Value) → Option Cells
all_replaced [] news olds = Some []
all_replaced (v ∷ vs) [] olds = None
all_replaced (v ∷ vs) (n ∷ news) [] = None
all_replaced (v ∷ vs) (n ∷ news) (o ∷ olds) = option_and_then (λ w. option_map (λ ws. w ∷ ws) (all_replaced vs news olds)) (replaced v n o)

abbrev pub names_some : List (Option Value) → Bool
names_some vs = list_any is_some vs

-- a row that comes in, and wasn't there
abbrev pub comes : Option Cells → Option Cells → Option (Option Cells)
comes None new = option_map Some new
comes (Some old) new = None

-- a row that goes out, and was there as it is told
abbrev pub goes : Option Cells → Option Cells → Option (Option Cells)
goes None told = None
goes (Some old) None = None
goes (Some old) (Some told) = if same_values old told then Some None else None

abbrev pub deleted : Option Cells → Bool → Option (Option Cells)
deleted None b = None
deleted (Some old) b = if b then Some None else None

abbrev pub modifies : List Column → Option Cells → List (Option Value) → Option (Option Cells)
modifies cs None ds = None
modifies cs (Some old) ds = if names_some ds then option_map Some (all_modified cs old ds) else None

abbrev pub replaces : Option Cells → Cells → List (Option Value) → Option (Option Cells)
replaces None news olds = None
replaces (Some held) news olds = if names_some olds then option_map Some (all_replaced held news olds) else None

-- one member of a row's update
abbrev pub step_one : Notation → Bool → List Column → Option Cells → List ℕ → Data → Option (Option Cells)
step_one update first cs held k d =
    if bytes_eq k (codes "new") then comes held (option_and_then all_given (cells_of cs d))
    else (if bytes_eq k (codes "old") && not first then goes held (option_and_then all_given (cells_of cs d)) else None)
step_one update2 first cs held k d =
    if bytes_eq k (if first then codes "initial" else codes "insert") then comes held (option_and_then (all_filled cs) (cells_of cs d))
    else (if first then None
    else (if bytes_eq k (codes "delete") then deleted held (is_null d)
    else (if bytes_eq k (codes "modify") then option_and_then (modifies cs held) (cells_of cs d) else None)))

-- `new` and `old` side by side
abbrev pub step_two : Notation → Bool → List Column → Option Cells → Data → Data → Option (Option Cells)
step_two update first cs held new old =
    if first then None else option_and_then (λ news. option_and_then (replaces held news) (cells_of cs old)) (option_and_then all_given (cells_of cs new))
step_two update2 first cs held new old = None

abbrev pub step_row : Notation → Bool → List Column → Option Cells → List (List ℕ × Data) → Option (Option Cells)
step_row n first cs held [] = None
step_row n first cs held (e ∷ []) = step_one n first cs held e.0 e.1
step_row n first cs held (e ∷ f ∷ []) = if bytes_eq e.0 (codes "new") && bytes_eq f.0 (codes "old") then step_two n first cs held e.1 f.1 else None
step_row n first cs held (e ∷ f ∷ g ∷ es) = None

-- a row's name stands after the one in front of it
abbrev pub is_after : Option Uuid → Uuid → Bool
is_after None u = true
is_after (Some last) u = is_lt (uuid_cmp last u)

-- the rows by ascending name; `last` is the name in front of them
abbrev pub fold_rows : Notation → Bool → List Column → Option Uuid → Contents → List (List ℕ × Data) → Option Contents
fold_rows n first cs last t [] = Some t
fold_rows n first cs last t (e ∷ es) =
    option_and_then (λ u.
    if is_after last u
    then option_and_then (λ c. fold_rows n first cs (Some u) (put t u c) es) (option_and_then (λ ms. step_row n first cs (get t u) (pairs ms)) (as_object e.1))
    else None)
    (uuid_read e.0)

-- a table that is named has a row
abbrev pub fold_named : Notation → Bool → List Column → Contents → List (List ℕ × Data) → Option Contents
fold_named n first cs t [] = None
fold_named n first cs t (e ∷ es) = fold_rows n first cs None t (e ∷ es)

abbrev pub fold_table : Notation → Bool → List Column → Contents → Option Data → Option Contents
fold_table n first cs t None = Some t
fold_table n first cs t (Some d) = option_and_then (λ ms. fold_named n first cs t (pairs ms)) (as_object d)

abbrev pub fold_tables : Notation → Bool → List Shape → View → List (Option Data) → Option View
fold_tables n first [] V ds = Some []
fold_tables n first (s ∷ ss) [] ds = None
fold_tables n first (s ∷ ss) (t ∷ V) [] = None
fold_tables n first (s ∷ ss) (t ∷ V) (d ∷ ds) = option_and_then (λ u. option_map (λ W. u ∷ W) (fold_tables n first ss V ds)) (fold_table n first s.columns t d)

-- a notification names some table; a first reply may be empty
abbrev pub fold : Notation → Bool → List Shape → View → Data → Option View
fold n first ss V d =
    option_and_then (λ ds. if first then fold_tables n first ss V ds else (if list_any is_some ds then fold_tables n first ss V ds else None))
    (option_and_then (λ ms. named (table_names ss) (pairs ms)) (as_object d))
