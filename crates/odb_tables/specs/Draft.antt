-- Drafts: a database under a transaction, as it was and as it is now.
use Rattle.std.specs.Prelude.{◌≡◌, ℕ, nat_eq, false, List, refl, length, replicate, slice_get, slice_set, unwrap_or, Some}
use Rattle.std.specs.List.{list_any}
use Rattle.std.specs.Coded.{Coded, code_by, coded×, coded_list}
use Rattle.odb_atoms.specs.FinMap as map
use Rattle.odb_atoms.specs.FinSet as set
use Rattle.odb_atoms.specs.Row.{Row}
use Rattle.odb_atoms.specs.Uuid.{Uuid, uuid_cmp, uuid_code}
use Rattle.odb_tables.specs.Database.{Db, db_code, table_at}

-- with the identifiers of the rows that were taken out of each table
pub record Draft : Type 0 where
  pub old : Db
  pub now : Db
  pub removed : List (set.FinSet uuid_cmp)

abbrev pub draft_code : Coded Draft
draft_code =
    code_by (Db × (Db × List (set.FinSet uuid_cmp))) (coded× db_code (coded× db_code (coded_list (set.code uuid_code))))
    (λ d. (d.old, (d.now, d.removed))) (λ p. record { old = p.0; now = p.1.0; removed = p.1.1 }) (λ _. refl)

-- nothing is changed yet
abbrev pub draft_of : Db → Draft
draft_of db = record { old = db; now = db; removed = replicate (length db) set.empty }

abbrev pub removed_at : Draft → ℕ → set.FinSet uuid_cmp
removed_at d t = unwrap_or (slice_get d.removed t) set.empty

-- the row is put into the table, or in the place of the one that it has under the identifier
abbrev pub with_row : ℕ → Uuid → Row → Draft → Draft
with_row t u r d = record d { now = slice_set d.now t (map.insert (table_at d.now t) u r); removed = slice_set d.removed t (set.remove (removed_at d t) u) }

-- the row is taken out of the table
abbrev pub without_row : ℕ → Uuid → Draft → Draft
without_row t u d = record d { now = slice_set d.now t (map.remove (table_at d.now t) u); removed = slice_set d.removed t (set.insert (removed_at d t) u) }

-- each row that the table had and has has the same in the column at the place
abbrev pub KeepsColumn : Db → Db → ℕ → ℕ → Type 0
KeepsColumn old now t p = (u : Uuid) (r s : Row) → map.get (table_at old t) u ≡ Some r → map.get (table_at now t) u ≡ Some s → slice_get r.columns p ≡ slice_get s.columns p

-- a row has the same as the one in whose place it comes, but in the columns at these places
abbrev pub IsSameBut : List ℕ → Row → Row → Type 0
IsSameBut ps before row = (p : ℕ) → list_any (nat_eq p) ps ≡ false → slice_get before.columns p ≡ slice_get row.columns p
