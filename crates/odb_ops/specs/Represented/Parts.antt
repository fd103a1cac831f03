-- What the code's functions make of a draft, as parts of the definitions.
use Rattle.std.specs.Prelude.{◌≡◌, ℕ, true, cond, not, List, [], ◌∷◌, ◌++◌, codes, slice_set, Option, Some, None, option_and_then, option_to_list}
use Rattle.std.specs.List.{list_any}
use Rattle.std.specs.Result.{result_err, result_ok}
use Rattle.odb_atoms.specs.FinMap as map
use Rattle.odb_atoms.specs.FinSet as set
use Rattle.odb_atoms.specs.Error.{Error, constraint_violation, duplicate_uuid, duplicate_uuid_name}
use Rattle.odb_atoms.specs.First.{Err, Ok, Result, demand, ◌>>◌}
use Rattle.odb_atoms.specs.Row.{Row}
use Rattle.odb_atoms.specs.Text.{same_text}
use Rattle.odb_atoms.specs.Uuid.{Uuid}
use Rattle.odb_atoms.specs.Value.{Value}
use Rattle.odb_cond.specs.Condition.{Clause}
use Rattle.odb_mutate.specs.Mutation.{Mutation}
use Rattle.odb_ops.specs.Execution.{all_admit, count, faults, first_fault, has_used, mutated_or_same, new_row, on_matching}
use Rattle.odb_ops.specs.Represented.Draft.{begun}
use Rattle.odb_schema.specs.Json.{Data, object_of}
use Rattle.odb_schema.specs.Notation.{Names, write_uuid}
use Rattle.odb_schema.specs.Schema.{Column}
use Rattle.odb_tables.specs.Database.{Table, table_at}
use Rattle.odb_tables.specs.Draft.{Draft, removed_at, without_row}
use Rattle.odb_tables.specs.Matching.{matching}
use Rattle.odb_tables.specs.Typed.{fits}

-- the draft with these rows for those of a table
abbrev pub with_rows : ℕ → Table → Draft → Draft
with_rows t rows d = record d { now = slice_set d.now t rows }

-- an insert after the test of its name: the draft with the row, and the result
abbrev pub insert_row : List Column → ℕ → Uuid → List (ℕ × Value) → Draft → Result (Draft × Data) Error
insert_row cs t u given d = do
  demand (not (has_used (begun d) t u)) duplicate_uuid
  demand (all_admit cs (new_row cs given).columns) constraint_violation
  Ok (with_rows t (map.insert (table_at d.now t) u (new_row cs given)) d, object_of ((codes "uuid", write_uuid u) ∷ []))

-- the row with a value in a column
abbrev pub with_value : ℕ → Value → Row → Row
with_value i v r = record r { columns = slice_set r.columns i v }

-- the draft without these rows of a table
abbrev pub without_found : ℕ → Table → Draft → Draft
without_found t gone d = record d { now = slice_set d.now t (map.retain_keys (table_at d.now t) (λ u. not (map.contains_key gone u))); removed = slice_set d.removed t (set.insert_all (removed_at d t) (map.keys gone)) }

-- the same, one after another
abbrev pub without_rows : ℕ → List Uuid → Draft → Draft
without_rows t [] d = d
without_rows t (u ∷ us) d = without_rows t us (without_row t u d)

-- the draft with what f makes of the row of an identifier, where it makes one
abbrev pub rewritten : (Row → Option Row) → ℕ → Uuid → Draft → Draft
rewritten f t u d = with_rows t (map.insert_if (option_and_then f (map.get (table_at d.now t) u)) u (table_at d.now t)) d

-- the same, one after another
abbrev pub all_rewritten : (Row → Option Row) → ℕ → List Uuid → Draft → Draft
all_rewritten f t [] d = d
all_rewritten f t (u ∷ us) d = all_rewritten f t us (rewritten f t u d)

-- ---- mutate

-- each row has for each column a value of its kind
abbrev pub AllFit : List Column → Table → Type 0
AllFit cs table = (u : Uuid) (r : Row) → map.get table u ≡ Some r → fits cs r ≡ true

abbrev pub row_fault : {A : Type 0} → (Row → Result A Error) → Option Row → Option Error
row_fault f row = option_and_then (λ r. result_err (f r)) row

-- the faults of the rows that are rewritten one after another
abbrev pub all_faults : (Row → Result Row Error) → ℕ → List Uuid → Draft → List Error
all_faults f t [] d = []
all_faults f t (u ∷ us) d = option_to_list (row_fault f (map.get (table_at d.now t) u)) ++ all_faults f t us (rewritten (λ r. result_ok (f r)) t u d)

abbrev pub or_error : {A : Type 0} → Option Error → A → Result A Error
or_error None x = Ok x
or_error (Some e) x = Err e

-- the draft with the rows mutated, and how many they are; or the first of the rows' faults
abbrev pub mutate_rows : List Column → ℕ → List Clause → List Mutation → Draft → Result (Draft × Data) Error
mutate_rows cs t clauses ms d =
    let found = matching clauses (table_at d.now t) in
    or_error (first_fault (faults cs ms found)) (with_rows t (on_matching clauses (mutated_or_same cs ms) (table_at d.now t)) d, count found)

-- ---- names

-- the name stands for the identifier, unless it stands for another
abbrev pub bound : Option (List ℕ) → Uuid → Names → Names
bound None u names = names
bound (Some name) u names = cond (map.contains_key names name) names (map.insert names name u)

-- the name of an insert is taken, unless it was taken
abbrev pub claimed : Option (List ℕ) → Uuid → Names → Result Names Error
claimed None u taken = Ok taken
claimed (Some name) u taken = do
  demand (not (map.contains_key taken name)) duplicate_uuid_name
  Ok (map.insert taken name u)

-- these are the names that inserts have had
abbrev pub AreTaken : Names → List (List ℕ) → Type 0
AreTaken taken named = (q : List ℕ) → map.contains_key taken q ≡ list_any (same_text q) named
