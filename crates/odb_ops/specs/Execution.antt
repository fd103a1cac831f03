-- What each operation makes of the database, and its result (RFC 7047, Database Operations). [P 4.2, 6.1, 6.2, 12.1]
use Rattle.std.specs.Prelude.{ℕ, ◌+◌, ◌^◌, pos, Bool, true, false, cond, not, ◌&&◌, ◌||◌, ◌==◌, List, [], ◌∷◌, ◌++◌, map as map_list, length, codes, find, filter, filter_map, zip, drop, replicate, slice_get, slice_set, nat_lt, nat_le, unwrap_or, Option, Some, None, option_and_then, option_map}
use Rattle.std.specs.List.{list_any, list_all, enumerate_from}
use Rattle.std.specs.Result.{result_ok, result_err}
use Rattle.odb_atoms.specs.FinMap as map
use Rattle.odb_atoms.specs.FinSet as set
use Rattle.odb_schema.specs.Json as json
use Rattle.odb_atoms.specs.ColType.{admits, default_of}
use Rattle.odb_atoms.specs.Error.{Error, aborted, constraint_violation, domain_error, duplicate_uuid, duplicate_uuid_name, error_name, not_owner, not_supported, range_error, resources_exhausted, timed_out}
use Rattle.odb_atoms.specs.First.{Err, Ok, Result, demand, ◌>>=◌, ◌>>◌}
use Rattle.odb_atoms.specs.Row.{Row, Selector, cell, same_selector}
use Rattle.odb_atoms.specs.Text.{same_text}
use Rattle.odb_atoms.specs.Uuid.{Uuid, uuid_cmp, zero_uuid}
use Rattle.odb_atoms.specs.Value.{Value, same_values}
use Rattle.odb_cond.specs.Condition.{Clause, holds_all}
use Rattle.odb_json.specs.Operation.{Op, Until, is_insert, read_op, read_own_uuid, until_equal, until_not_equal}
use Rattle.odb_mutate.specs.Mutation.{Mutation, mutate}
use Rattle.odb_schema.specs.Json.{Data, array_of, get_member, null, object_of, string, string_member}
use Rattle.odb_schema.specs.Notation.{Names, write_uuid, write_value}
use Rattle.odb_schema.specs.Schema.{Column, Schema, column_type, columns_at, selector_name, selector_type}
use Rattle.odb_tables.specs.Database.{Db, Table, table_at}
use Rattle.odb_tables.specs.Matching.{matching}

-- identifiers for the inserts in their order, the moment of the request's arrival, the moment now, and whether the session owns a lock
pub record Context : Type 0 where
  pub fresh : List Uuid
  pub arrival : ℕ
  pub now : ℕ
  pub owns : List ℕ → Bool

-- a database under a transaction: the UUIDs deleted from each table, and the uuid-names of the inserts so far
pub record Draft : Type 0 where
  pub db : Db
  pub deleted : List (set.FinSet uuid_cmp)
  pub named : List (List ℕ)

-- why a transaction doesn't go on: an error, or a `wait` that has time until its deadline, if it has one
pub data Stop : Type 0 where
  fails : Error → Stop
  must_wait : Option ℕ → Stop

abbrev pub or_stop : {A : Type 0} → Result A Error → Result A Stop
or_stop (Ok x) = Ok x
or_stop (Err e) = Err (fails e)

abbrev pub table_of : Draft → ℕ → Table
table_of d t = table_at d.db t

abbrev pub with_table : Draft → ℕ → Table → Draft
with_table d t table = record d { db = slice_set d.db t table }

abbrev pub deleted_at : Draft → ℕ → set.FinSet uuid_cmp
deleted_at d t = unwrap_or (slice_get d.deleted t) set.empty

abbrev pub found : Draft → ℕ → List Clause → Table
found d t clauses = matching clauses (table_of d t)

-- f of the rows of which every condition holds, and the others as they are
abbrev pub on_matching : List Clause → (Row → Row) → Table → Table
on_matching clauses f table = map.map_entries (λ u r. Some (cond (holds_all clauses u r) (f r) r)) table

-- the number of these rows
abbrev pub count : Table → Data
count table = object_of ((codes "count", json.of_integer (pos (map.len table))) ∷ [])

-- ---- insert

abbrev pub value_for : List (ℕ × Value) → ℕ × Column → Value
value_for given c = unwrap_or (option_map (λ e. e.1) (find (λ e. e.0 == c.0) given)) (default_of c.1.type)

-- the values given, and the default for each other column
abbrev pub new_row : List Column → List (ℕ × Value) → Row
new_row cs given = record { version = zero_uuid; columns = map_list (value_for given) (enumerate_from 0 cs) }

abbrev pub all_admit : List Column → List Value → Bool
all_admit cs vs = list_all (λ e. admits e.0.type e.1) (zip cs vs)

abbrev pub takes_name : Draft → Option (List ℕ) → Bool
takes_name d None = false
takes_name d (Some name) = list_any (same_text name) d.named

abbrev pub has_used : Draft → ℕ → Uuid → Bool
has_used d t u = map.contains_key (table_of d t) u || set.contains (deleted_at d t) u

abbrev pub name_list : Option (List ℕ) → List (List ℕ)
name_list None = []
name_list (Some name) = name ∷ []

abbrev pub inserted : Schema → Draft → Uuid → ℕ → List (ℕ × Value) → Option (List ℕ) → Result (Draft × Data) Error
inserted s d u t given name =
    let row = new_row (columns_at s t) given in
    do
      demand (not (takes_name d name)) duplicate_uuid_name
      demand (not (has_used d t u)) duplicate_uuid
      demand (all_admit (columns_at s t) row.columns) constraint_violation
      Ok (record (with_table d t (map.insert (table_of d t) u row)) { named = name_list name ++ d.named }, object_of ((codes "uuid", write_uuid u) ∷ []))

-- ---- select and wait

abbrev pub project : List Selector → Uuid → Row → List Value
project columns u r = map_list (cell u r) columns

-- the first of each that are the same
abbrev pub distinct : List (List Value) → List (List Value)
distinct [] = []
distinct (r ∷ rs) = r ∷ filter (λ q. not (same_values r q)) (distinct rs)

-- the selected columns of the rows, in the order of their UUIDs
abbrev pub selected : List Selector → Table → List (List Value)
selected columns table = map_list (λ e. project columns e.0 e.1) (map.entries_of table)

abbrev pub write_cells : List Column → List Selector → List Value → Data
write_cells cs columns vs = object_of (map_list (λ e. (selector_name cs e.0, write_value e.1)) (zip columns vs))

abbrev pub rows_result : List Column → List Selector → List (List Value) → Data
rows_result cs columns rows = object_of ((codes "rows", array_of (map_list (write_cells cs columns) rows)) ∷ [])

-- the selected columns of a row of `rows`, with defaults for those that it doesn't name
abbrev pub expected : List Column → List Selector → List (Selector × Value) → List Value
expected cs columns given = map_list (λ c. unwrap_or (option_map (λ e. e.1) (find (λ e. same_selector e.0 c) given)) (default_of (selector_type cs c))) columns

abbrev pub each_in : List (List Value) → List (List Value) → Bool
each_in rows others = list_all (λ r. list_any (same_values r) others) rows

-- the same as sets of rows
abbrev pub same_rows : List (List Value) → List (List Value) → Bool
same_rows rows others = each_in rows others && each_in others rows

abbrev pub is_reached : Until → Bool → Bool
is_reached until_equal same = same
is_reached until_not_equal same = not same

-- a moment past 2^64-1 is never reached
abbrev pub deadline : Context → Option ℕ → Option ℕ
deadline c None = None
deadline c (Some timeout) = cond (nat_lt (c.arrival + timeout) (2 ^ 64)) (Some (c.arrival + timeout)) None

abbrev pub has_passed : Context → Option ℕ → Bool
has_passed c None = false
has_passed c (Some moment) = nat_le moment c.now

-- ---- update and mutate

abbrev pub replaced : List (ℕ × Value) → Row → Row
replaced [] r = r
replaced (e ∷ es) r = let q : Row = replaced es r in record q { columns = slice_set q.columns e.0 e.1 }

-- the mutations in order, or the first fault
abbrev pub mutated : List Column → List Mutation → Row → Result Row Error
mutated cs [] r = Ok r
mutated cs (m ∷ ms) r = do
  v ← mutate m.mutator m.value (column_type cs m.column) (cell zero_uuid r (Selector.declared m.column))
  mutated cs ms (record r { columns = slice_set r.columns m.column v })

abbrev pub mutated_or_same : List Column → List Mutation → Row → Row
mutated_or_same cs ms r = unwrap_or (result_ok (mutated cs ms r)) r

abbrev pub same_error : Error → Error → Bool
same_error e f = same_text (error_name e) (error_name f)

-- of the rows' faults, the first in this order
abbrev pub first_fault : List Error → Option Error
first_fault es = find (λ e. list_any (same_error e) es) (domain_error ∷ range_error ∷ resources_exhausted ∷ constraint_violation ∷ [])

abbrev pub faults : List Column → List Mutation → Table → List Error
faults cs ms table = filter_map (λ e. result_err (mutated cs ms e.1)) (map.entries_of table)

abbrev pub or_fault : {A : Type 0} → Option Error → A → Result A Stop
or_fault None x = Ok x
or_fault (Some e) x = Err (fails e)

-- ---- the ten operations

abbrev pub empty_result : Data
empty_result = object_of []

-- the draft goes on unchanged where the test holds
abbrev pub go_on : Bool → Draft → Stop → Result (Draft × Data) Stop
go_on true d stop = Ok (d, empty_result)
go_on false d stop = Err stop

-- what a `wait` that isn't met comes to
abbrev pub unmet : Context → Option ℕ → Stop
unmet c moment = cond (has_passed c moment) (fails timed_out) (must_wait moment)

abbrev pub without : Draft → ℕ → Table → Draft
without d t gone = record (with_table d t (map.retain_keys (table_of d t) (λ u. not (map.contains_key gone u)))) { deleted = slice_set d.deleted t (set.insert_all (deleted_at d t) (map.keys gone)) }

-- What the operation makes of the draft, and its result. u is the identifier of an `insert` that has none of its own.
unfoldable pub perform : Schema → Context → Uuid → Draft → Op → Result (Draft × Data) Stop
perform s c u d (Op.insert t given name own) = or_stop (inserted s d (unwrap_or own u) t given name)
perform s c u d (Op.select t clauses columns) =
    Ok (d, rows_result (columns_at s t) columns (distinct (selected columns (found d t clauses))))
perform s c u d (Op.update t clauses given) =
    Ok (with_table d t (on_matching clauses (replaced given) (table_of d t)), count (found d t clauses))
perform s c u d (Op.mutate t clauses ms) =
    or_fault (first_fault (faults (columns_at s t) ms (found d t clauses)))
    (with_table d t (on_matching clauses (mutated_or_same (columns_at s t) ms) (table_of d t)), count (found d t clauses))
perform s c u d (Op.delete t clauses) = Ok (without d t (found d t clauses), count (found d t clauses))
perform s c u d (Op.wait t clauses columns until rows timeout) =
    go_on (is_reached until (same_rows (selected columns (found d t clauses)) (map_list (expected (columns_at s t) columns) rows))) d (unmet c (deadline c timeout))
perform s c u d (Op.commit durable) = go_on (not durable) d (fails not_supported)
perform s c u d Op.abort = Err (fails aborted)
perform s c u d Op.comment = Ok (d, empty_result)
perform s c u d (Op.assert lock) = go_on (c.owns lock) d (fails not_owner)

-- ---- lists of operations

abbrev pub bind_name : Option (List ℕ) → Uuid → Names → Names
bind_name None u names = names
bind_name (Some name) u names = map.insert names name u

-- the first of the fresh identifiers, and those that are left
abbrev pub first_fresh : List Uuid → Uuid
first_fresh fresh = unwrap_or (slice_get fresh 0) zero_uuid

-- what an insert has of its own under `uuid`, where it can be read
abbrev pub own_uuid : Data → Option Uuid
own_uuid d = option_and_then (λ v. result_ok (read_own_uuid v)) (option_and_then (get_member (codes "uuid")) (json.as_object d))

-- the identifier of an insert: its own, or the first of the fresh ones
abbrev pub identifier_of : Data → List Uuid → Uuid
identifier_of d fresh = unwrap_or (own_uuid d) (first_fresh fresh)

-- an insert takes an identifier
abbrev pub fresh_after : Data → List Uuid → List Uuid
fresh_after d fresh = cond (is_insert d) (drop 1 fresh) fresh

-- each insert has its identifier, and a name stands for that of the first insert that has it
abbrev pub names_of : List Data → List Uuid → Names
names_of [] fresh = map.empty
names_of (d ∷ ds) fresh = cond (is_insert d) (bind_name (string_member (codes "uuid-name") d) (identifier_of d fresh) (names_of ds (fresh_after d fresh))) (names_of ds (fresh_after d fresh))

-- all operations went through, one failed, or a `wait` has time until its deadline
pub data Ran : Type 0 where
  finished : Draft → List Data → Ran
  failed : List Data → Ran
  waiting : Option ℕ → Ran

abbrev pub error_result : Error → Data
error_result e = object_of ((codes "error", string (error_name e)) ∷ [])

abbrev pub with_result : Data → Ran → Ran
with_result result (finished d results) = finished d (result ∷ results)
with_result result (failed results) = failed (result ∷ results)
with_result result (waiting moment) = waiting moment

-- the later operations have null for their results
abbrev pub stopped : Stop → ℕ → Ran
stopped (fails e) later = failed (error_result e ∷ replicate later null)
stopped (must_wait moment) later = waiting moment

-- an operation is read whole, then carried out
abbrev pub read_and_perform : Schema → Context → Names → Uuid → Draft → Data → Result (Draft × Data) Stop
read_and_perform s c names u d op = do
  o ← or_stop (read_op s names op)
  perform s c u d o

abbrev pub run_from : Schema → Context → Names → List Uuid → Draft → List Data → Ran
run_from s c names fresh d [] = finished d []
run_from s c names fresh d (op ∷ ops) =
    elim (read_and_perform s c names (first_fresh fresh) d op) as (λ _. Ran) [
      | Ok p ↦ with_result p.1 (run_from s c names (fresh_after op fresh) p.0 ops)
      | Err stop ↦ stopped stop (length ops)
    ]

-- a transaction's beginning
abbrev pub draft_of : Db → Draft
draft_of db = record { db = db; deleted = replicate (length db) set.empty; named = [] }

-- the operations one after another on the draft, with one fresh identifier for each insert
unfoldable pub run : Schema → Context → Draft → List Data → Ran
run s c d ops = run_from s c (names_of ops c.fresh) c.fresh d ops
