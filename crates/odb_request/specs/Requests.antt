-- Monitor requests, read in the order in which their faults count: by ascending table name, in each `columns`, `where`, `select`, and last a member not named. [P 9.1, 9.5]
use Rattle.std.specs.Prelude.{ℕ, Bool, true, not, ◌&&◌, cond, List, [], ◌∷◌, map, codes, Option, Some, None, Result, Ok, Err, ⊤}
use Rattle.std.specs.Ordering.{is_lt}
use Rattle.std.specs.List.{list_all, list_any}
use Rattle.odb_atoms.specs.First.{ok_or, ◌>>=◌, ◌>>◌, demand, each}
use Rattle.odb_atoms.specs.Error.{Error, syntax_error, unknown_table}
use Rattle.odb_atoms.specs.Text.{text_cmp, same_text}
use Rattle.odb_schema.specs.Json.{Data, boolean, array, object, no_items, item, Members, get_member, as_bool, as_array, as_object, items_list, members_list, given_or}
use Rattle.odb_schema.specs.Schema as schema
use Rattle.odb_schema.specs.Schema.{Schema, table_place, columns_at}
use Rattle.odb_atoms.specs.Row.{Selector, own_uuid, same_selector}
use Rattle.odb_schema.specs.Schema.{selector_name, selector_type}
use Rattle.odb_json.specs.ConditionNotation.{read_clause}
use Rattle.odb_json.specs.Operation.{read_columns}
use Rattle.odb_cond.specs.Filter.{Filter, Member, always, when}
use Rattle.odb_request.specs.Request.{Column, Select, Request, Notation, update, update2, column_names}

-- no member beside these
abbrev pub no_other : List (List ℕ) → Members → Result ⊤ Error
no_other names ms = demand (list_all (λ m. list_any (same_text m.0) names) (members_list ms)) syntax_error

-- Texts that stand once. Names of a schema's columns, and keys of JSON that was read, do.
abbrev pub are_distinct : List (List ℕ) → Bool
are_distinct [] = true
are_distinct (n ∷ ns) = list_all (λ m. not (same_text n m)) ns && are_distinct ns

-- an object, or an array of exactly one
abbrev pub request_object : Data → Result Members Error
request_object (object ms) = Ok ms
request_object (array (item (object ms) no_items)) = Ok ms
request_object d = Err syntax_error

-- the columns in the order of their names
abbrev pub place_column : Column → List Column → List Column
place_column c [] = c ∷ []
place_column c (d ∷ ds) = cond (is_lt (text_cmp c.name d.name)) (c ∷ d ∷ ds) (d ∷ place_column c ds)

abbrev pub in_order : List Column → List Column
in_order [] = []
in_order (c ∷ cs) = place_column c (in_order cs)

abbrev pub monitored : List schema.Column → Selector → Column
monitored cs s = record { name = selector_name cs s; source = s; type = selector_type cs s }

-- without `columns`, all but `_uuid`
abbrev pub all_but_uuid : List Selector → List Selector
all_but_uuid [] = []
all_but_uuid (s ∷ ss) = cond (same_selector s own_uuid) ss (s ∷ all_but_uuid ss)

abbrev pub read_monitored : List schema.Column → Option Data → Result (List Column) Error
read_monitored cs None = do
  all ← read_columns cs None
  Ok (in_order (map (monitored cs) (all_but_uuid all)))
read_monitored cs (Some d) = do
  some ← read_columns cs (Some d)
  Ok (in_order (map (monitored cs) some))

abbrev pub read_member : List schema.Column → Data → Result Member Error
read_member cs (boolean b) = Ok (always b)
read_member cs d = do
  clause ← read_clause None cs d
  Ok (when clause)

abbrev pub read_filter : List schema.Column → Option Data → Result Filter Error
read_filter cs None = Ok []
read_filter cs (Some d) = do
  items ← ok_or (as_array d) syntax_error
  each (read_member cs) (items_list items)

abbrev pub read_switch : Data → Result Bool Error
read_switch d = ok_or (as_bool d) syntax_error

abbrev pub read_select : Option Data → Result Select Error
read_select None = Ok (record { initial = true; insert = true; delete = true; modify = true })
read_select (Some d) = do
  ms ← ok_or (as_object d) syntax_error
  initial ← given_or true read_switch (get_member (codes "initial") ms)
  insert ← given_or true read_switch (get_member (codes "insert") ms)
  delete ← given_or true read_switch (get_member (codes "delete") ms)
  modify ← given_or true read_switch (get_member (codes "modify") ms)
  no_other (codes "initial" ∷ codes "insert" ∷ codes "delete" ∷ codes "modify" ∷ []) ms
  Ok (record { initial = initial; insert = insert; delete = delete; modify = modify })

-- `where` is of `monitor_cond` alone
abbrev pub read_where_of : Notation → List schema.Column → Members → Result Filter Error
read_where_of update cs ms = Ok []
read_where_of update2 cs ms = read_filter cs (get_member (codes "where") ms)

abbrev pub known_members : Notation → List (List ℕ)
known_members update = codes "columns" ∷ codes "select" ∷ []
known_members update2 = codes "columns" ∷ codes "where" ∷ codes "select" ∷ []

abbrev pub read_request : Schema → Notation → List ℕ × Data → Result Request Error
read_request s n e = do
  place ← ok_or (table_place s e.0) unknown_table
  ms ← request_object e.1
  columns ← read_monitored (columns_at s place) (get_member (codes "columns") ms)
  filter ← read_where_of n (columns_at s place) ms
  select ← read_select (get_member (codes "select") ms)
  no_other (known_members n) ms
  Ok (record { shape = record { name = e.0; columns = columns }; place = place; select = select; filter = filter })

-- each table once, and in each its columns once: so it is where the schema and the JSON have each name once
abbrev pub are_named : List Request → Bool
are_named qs = are_distinct (map (λ q. q.shape.name) qs) && list_all (λ q. are_distinct (column_names q.shape.columns)) qs

abbrev pub if_named : List Request → Result (List Request) Error
if_named qs = cond (are_named qs) (Ok qs) (Err syntax_error)

abbrev pub requests_in : Schema → Notation → Data → Result (List Request) Error
requests_in s n d = do
  ms ← ok_or (as_object d) syntax_error
  each (read_request s n) (members_list ms)

abbrev pub read_requests : Schema → Notation → Data → Result (List Request) Error
read_requests s n d = do
  qs ← requests_in s n d
  if_named qs

abbrev pub read_change : Schema → List ℕ × Data → Result (List ℕ × Filter) Error
read_change s e = do
  place ← ok_or (table_place s e.0) unknown_table
  ms ← request_object e.1
  filter ← read_filter (columns_at s place) (get_member (codes "where") ms)
  no_other (codes "where" ∷ []) ms
  Ok (e.0, filter)

abbrev pub read_changes : Schema → Data → Result (List (List ℕ × Filter)) Error
read_changes s d = do
  ms ← ok_or (as_object d) syntax_error
  each (read_change s) (members_list ms)
