-- Operations (RFC 7047, <operation>) and their reading. [P 4.1, 6.2, 16]
use Rattle.std.specs.Prelude.{ℕ, ℤ, pos, negsuc, Bool, false, cond, not, List, [], ◌∷◌, map as map_list, length, ⊤, codes, Option, Some, None, option_map, unwrap_or}
use Rattle.std.specs.List.{list_any, list_all, range_with_len}
use Rattle.odb_schema.specs.Json as json
use Rattle.odb_atoms.specs.Error.{Error, constraint_violation, syntax_error, unknown_column, unknown_operation, unknown_table}
use Rattle.odb_atoms.specs.First.{Err, Ok, Result, demand, each, ok_or, ◌>>=◌, ◌>>◌}
use Rattle.odb_atoms.specs.Row.{Selector, declared, own_uuid, own_version, place_of, same_selector}
use Rattle.odb_atoms.specs.Text.{is_id, same_text}
use Rattle.odb_atoms.specs.Uuid.{Uuid, uuid_of_text}
use Rattle.odb_atoms.specs.Value.{Value}
use Rattle.odb_cond.specs.Condition.{Clause}
use Rattle.odb_json.specs.ColumnValue.{read_by_kind, read_value}
use Rattle.odb_json.specs.ConditionNotation.{read_clause, read_selector, read_text}
use Rattle.odb_json.specs.MutationNotation.{changeable, read_mutation}
use Rattle.odb_mutate.specs.Mutation.{Mutation}
use Rattle.odb_schema.specs.Json.{Data, Members, get_member, if_given, items_list, members_list, needed, string, string_member}
use Rattle.odb_schema.specs.Notation.{Names, read_uuid}
use Rattle.odb_schema.specs.Schema.{Column, Schema, column_type, columns_at, selector, selector_type, table_place}

pub data Until : Type 0 where
  until_equal until_not_equal : Until

-- Tables and columns stand for their places. A row is the values that it names. An `insert` may have a name, and an identifier of its own.
pub data Op : Type 0 where
  insert : ℕ → List (ℕ × Value) → Option (List ℕ) → Option Uuid → Op
  select : ℕ → List Clause → List Selector → Op
  update : ℕ → List Clause → List (ℕ × Value) → Op
  mutate : ℕ → List Clause → List Mutation → Op
  delete : ℕ → List Clause → Op
  wait : ℕ → List Clause → List Selector → Until → List (List (Selector × Value)) → Option ℕ → Op
  commit : Bool → Op
  abort : Op
  comment : Op
  assert : List ℕ → Op

-- ---- members

abbrev pub read_bool : Data → Result Bool Error
read_bool d = ok_or (json.as_bool d) syntax_error

abbrev pub read_id : Data → Result (List ℕ) Error
read_id d = do
  s ← read_text d
  demand (is_id s) syntax_error
  Ok s

-- the identifier that an insert has of its own: its text, or `["uuid", text]`
abbrev pub read_own_uuid : Data → Result Uuid Error
read_own_uuid (string s) = ok_or (uuid_of_text s) syntax_error
read_own_uuid d = read_uuid None d

abbrev pub read_list : {A : Type 0} → (Data → Result A Error) → Data → Result (List A) Error
read_list read d = do
  items ← ok_or (json.as_array d) syntax_error
  each read (items_list items)

-- each member, by ascending name
abbrev pub each_member : {A : Type 0} → (List ℕ → Data → Result A Error) → Members → Result (List A) Error
each_member read ms = each (λ m. read m.0 m.1) (members_list ms)

abbrev pub read_object : {A : Type 0} → (List ℕ → Data → Result A Error) → Data → Result (List A) Error
read_object read d = do
  ms ← ok_or (json.as_object d) syntax_error
  each_member read ms

-- `op`, or one of these
abbrev pub is_known : List (List ℕ) → List ℕ → Bool
is_known ks name = list_any (same_text name) (codes "op" ∷ ks)

abbrev pub are_known : List (List ℕ) → Members → Bool
are_known ks ms = list_all (λ m. is_known ks m.0) (members_list ms)

-- `op` and these are all the members that it has
abbrev pub refuse_other_members : List (List ℕ) → Members → Result ⊤ Error
refuse_other_members ks ms = demand (are_known ks ms) syntax_error

-- the member at the key, which has to be there
abbrev pub read_needed : {A : Type 0} → List ℕ → (Data → Result A Error) → Members → Result A Error
read_needed k read ms = do
  d ← needed syntax_error k ms
  read d

abbrev pub read_table : Schema → Members → Result ℕ Error
read_table s ms = do
  name ← read_needed (codes "table") read_text ms
  ok_or (table_place s name) unknown_table

abbrev pub read_where : Names → List Column → Members → Result (List Clause) Error
read_where names cs = read_needed (codes "where") (read_list (read_clause (Some names) cs))

abbrev pub read_mutations : Names → List Column → Members → Result (List Mutation) Error
read_mutations names cs = read_needed (codes "mutations") (read_list (read_mutation (Some names) cs))

-- the columns that `insert` may name: all that are declared
abbrev pub insertable : List Column → List ℕ → Result ℕ Error
insertable cs name = do
  column ← ok_or (selector cs name) unknown_column
  ok_or (place_of column) constraint_violation

-- a column and its value, which it admits
abbrev pub read_cell : Names → List Column → (List ℕ → Result ℕ Error) → List ℕ → Data → Result (ℕ × Value) Error
read_cell names cs place name d = do
  i ← place name
  v ← read_value (Some names) (column_type cs i) d
  Ok (i, v)

abbrev pub read_cells : Names → List Column → (List ℕ → Result ℕ Error) → Members → Result (List (ℕ × Value)) Error
read_cells names cs place = each_member (read_cell names cs place)

-- a row whose values its columns admit
abbrev pub read_row : Names → List Column → (List ℕ → Result ℕ Error) → Data → Result (List (ℕ × Value)) Error
read_row names cs place = read_object (read_cell names cs place)

-- a column and a value of its kind
abbrev pub read_expected_cell : Names → List Column → List ℕ → Data → Result (Selector × Value) Error
read_expected_cell names cs name d = do
  column ← ok_or (selector cs name) unknown_column
  v ← read_by_kind (Some names) (selector_type cs column) d
  Ok (column, v)

abbrev pub read_expected_cells : Names → List Column → Members → Result (List (Selector × Value)) Error
read_expected_cells names cs = each_member (read_expected_cell names cs)

-- a row of `wait`, whose values are of the columns' kinds
abbrev pub read_expected : Names → List Column → Data → Result (List (Selector × Value)) Error
read_expected names cs = read_object (read_expected_cell names cs)

abbrev pub read_expected_rows : Names → List Column → Members → Result (List (List (Selector × Value))) Error
read_expected_rows names cs = read_needed (codes "rows") (read_list (read_expected names cs))

-- `_uuid`, `_version` and each declared column
abbrev pub all_columns : List Column → List Selector
all_columns cs = own_uuid ∷ own_version ∷ map_list declared (range_with_len 0 (length cs))

-- the named columns from the front, none twice; `seen` are those in front of these
abbrev pub distinct_columns : List Column → List Selector → List Data → Result (List Selector) Error
distinct_columns cs seen [] = Ok []
distinct_columns cs seen (d ∷ ds) = do
  column ← read_selector cs d
  demand (not (list_any (same_selector column) seen)) syntax_error
  columns ← distinct_columns cs (column ∷ seen) ds
  Ok (column ∷ columns)

abbrev pub read_columns : List Column → Option Data → Result (List Selector) Error
read_columns cs None = Ok (all_columns cs)
read_columns cs (Some d) = do
  items ← ok_or (json.as_array d) syntax_error
  distinct_columns cs [] (items_list items)

abbrev pub until_named : List ℕ → Option Until
until_named s = cond (same_text s (codes "==")) (Some until_equal) (cond (same_text s (codes "!=")) (Some until_not_equal) None)

abbrev pub read_until : Data → Result Until Error
read_until d = do
  s ← read_text d
  ok_or (until_named s) syntax_error

abbrev pub natural : ℤ → Result ℕ Error
natural (pos n) = Ok n
natural (negsuc n) = Err syntax_error

-- an integer of at least 0
abbrev pub read_natural : Data → Result ℕ Error
read_natural d = do
  z ← ok_or (json.as_integer d) syntax_error
  natural z

-- ---- the ten operations

-- the six on a table, by its place and its columns: their other members in reading order
module _ (names : Names) (table : ℕ) (cs : List Column) (ms : Members) where
  abbrev pub read_insert : Result Op Error
  read_insert = do
    row ← read_needed (codes "row") (read_row names cs (insertable cs)) ms
    name ← if_given read_id (get_member (codes "uuid-name") ms)
    own ← if_given read_own_uuid (get_member (codes "uuid") ms)
    refuse_other_members (codes "table" ∷ codes "row" ∷ codes "uuid-name" ∷ codes "uuid" ∷ []) ms
    Ok (Op.insert table row name own)

  abbrev pub read_select : Result Op Error
  read_select = do
    clauses ← read_where names cs ms
    columns ← read_columns cs (get_member (codes "columns") ms)
    refuse_other_members (codes "table" ∷ codes "where" ∷ codes "columns" ∷ []) ms
    Ok (Op.select table clauses columns)

  abbrev pub read_update : Result Op Error
  read_update = do
    clauses ← read_where names cs ms
    row ← read_needed (codes "row") (read_row names cs (changeable cs)) ms
    refuse_other_members (codes "table" ∷ codes "where" ∷ codes "row" ∷ []) ms
    Ok (Op.update table clauses row)

  abbrev pub read_mutate : Result Op Error
  read_mutate = do
    clauses ← read_where names cs ms
    mutations ← read_mutations names cs ms
    refuse_other_members (codes "table" ∷ codes "where" ∷ codes "mutations" ∷ []) ms
    Ok (Op.mutate table clauses mutations)

  abbrev pub read_delete : Result Op Error
  read_delete = do
    clauses ← read_where names cs ms
    refuse_other_members (codes "table" ∷ codes "where" ∷ []) ms
    Ok (Op.delete table clauses)

  abbrev pub read_wait : Result Op Error
  read_wait = do
    clauses ← read_where names cs ms
    columns ← read_columns cs (get_member (codes "columns") ms)
    until ← read_needed (codes "until") read_until ms
    rows ← read_expected_rows names cs ms
    timeout ← if_given read_natural (get_member (codes "timeout") ms)
    refuse_other_members (codes "table" ∷ codes "where" ∷ codes "columns" ∷ codes "until" ∷ codes "rows" ∷ codes "timeout" ∷ []) ms
    Ok (Op.wait table clauses columns until rows timeout)

abbrev pub read_commit : Members → Result Op Error
read_commit ms = do
  durable ← read_needed (codes "durable") read_bool ms
  refuse_other_members (codes "durable" ∷ []) ms
  Ok (Op.commit durable)

abbrev pub read_abort : Members → Result Op Error
read_abort ms = do
  refuse_other_members [] ms
  Ok Op.abort

abbrev pub read_comment : Members → Result Op Error
read_comment ms = do
  text ← read_needed (codes "comment") read_text ms
  refuse_other_members (codes "comment" ∷ []) ms
  Ok Op.comment

abbrev pub read_assert : Members → Result Op Error
read_assert ms = do
  lock ← read_needed (codes "lock") read_id ms
  refuse_other_members (codes "lock" ∷ []) ms
  Ok (Op.assert lock)

pub data Verb : Type 0 where
  insert select update mutate delete wait commit abort comment assert : Verb

abbrev pub verb_named : List ℕ → Option Verb
verb_named s =
    cond (same_text s (codes "insert")) (Some insert)
    (cond (same_text s (codes "select")) (Some select)
    (cond (same_text s (codes "update")) (Some update)
    (cond (same_text s (codes "mutate")) (Some mutate)
    (cond (same_text s (codes "delete")) (Some delete)
    (cond (same_text s (codes "wait")) (Some wait)
    (cond (same_text s (codes "commit")) (Some commit)
    (cond (same_text s (codes "abort")) (Some abort)
    (cond (same_text s (codes "comment")) (Some comment)
    (cond (same_text s (codes "assert")) (Some assert) None)))))))))

-- the table, then the other members
abbrev pub on_table : (Names → ℕ → List Column → Members → Result Op Error) → Schema → Names → Members → Result Op Error
on_table read s names ms = do
  table ← read_table s ms
  read names table (columns_at s table) ms

-- what stands after `op`
abbrev pub read_members : Schema → Names → Members → Verb → Result Op Error
read_members s names ms insert = on_table read_insert s names ms
read_members s names ms select = on_table read_select s names ms
read_members s names ms update = on_table read_update s names ms
read_members s names ms mutate = on_table read_mutate s names ms
read_members s names ms delete = on_table read_delete s names ms
read_members s names ms wait = on_table read_wait s names ms
read_members s names ms commit = read_commit ms
read_members s names ms abort = read_abort ms
read_members s names ms comment = read_comment ms
read_members s names ms assert = read_assert ms

-- an object with a string `op`, then that operation's members in order, and no others
unfoldable pub read_op : Schema → Names → Data → Result Op Error
read_op s names d = do
  ms ← ok_or (json.as_object d) syntax_error
  name ← read_needed (codes "op") read_text ms
  verb ← ok_or (verb_named name) unknown_operation
  read_members s names ms verb

-- an insert, whatever else it is
abbrev pub is_insert : Data → Bool
is_insert d = unwrap_or (option_map (same_text (codes "insert")) (string_member (codes "op") d)) false
