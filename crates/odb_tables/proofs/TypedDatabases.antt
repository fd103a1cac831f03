-- Databases whose rows are of their schema: what keeps them so.
use Rattle.std.specs.Prelude.{replicate, ◌≡◌, ℕ, zero, suc, true, ◌&&◌, ◌==◌, List, [], ◌∷◌, length, slice_set, zip, Some}
use Rattle.std.specs.List.{list_all}
use Rattle.std.proofs.lemmas.Option.{none-some}
use mathlib.Core.Path.{refl, sym, ap, ◌∙◌}
use Rattle.odb_atoms.specs.FinMap as map
use Rattle.odb_atoms.specs.ColType.{has_kind}
use Rattle.odb_atoms.specs.Row.{Row}
use Rattle.odb_atoms.specs.Uuid.{Uuid, uuid_cmp}
use Rattle.odb_atoms.specs.Value.{Value}
use Rattle.odb_atoms.proofs.FinMaps.{get-empty}
use Rattle.odb_atoms.proofs.Lists.{both}
use Rattle.odb_schema.specs.Schema.{Column, Schema, column_type, columns_at}
use Rattle.odb_tables.specs.Database.{Db, Table, table_at}
use Rattle.odb_tables.specs.Typed.{IsTyped, fits}

-- ---- tables

pub length-slice_set : {A : Type 0} (xs : List A) (i : ℕ) (x : A) → length (slice_set xs i x) ≡ length xs
length-slice_set [] i x = refl
length-slice_set (y ∷ ys) zero x = refl
length-slice_set (y ∷ ys) (suc i) x = ap suc (length-slice_set ys i x)

-- what holds of the new table and of each old one holds of each table
pub at_each : (P : ℕ → Table → Type 0) (db : Db) (t : ℕ) (new : Table) → P t new → ((q : ℕ) → P q (table_at db q)) → (q : ℕ) → P q (table_at (slice_set db t new) q)
at_each P [] t new here there q = there q
at_each P (old ∷ db) zero new here there zero = here
at_each P (old ∷ db) zero new here there (suc q) = there (suc q)
at_each P (old ∷ db) (suc t) new here there zero = there zero
at_each P (old ∷ db) (suc t) new here there (suc q) = at_each (λ n. P (suc n)) db t new here (λ n. there (suc n)) q

-- the rows of a table fit the columns
abbrev pub AllFit : List Column → Table → Type 0
AllFit cs table = (u : Uuid) (r : Row) → map.get table u ≡ Some r → fits cs r ≡ true

pub typed_with : (s : Schema) (db : Db) (t : ℕ) (table : Table) → IsTyped s db → AllFit (columns_at s t) table → IsTyped s (slice_set db t table)
typed_with s db t table typed h = (length-slice_set db t table ∙ typed.0, at_each (λ q rows. AllFit (columns_at s q) rows) db t table h typed.1)

-- ---- rows

abbrev pub AreOfKind : List Column → List Value → Type 0
AreOfKind cs vs = list_all (λ e. has_kind e.0.type e.1) (zip cs vs) ≡ true

kinds_with : (cs : List Column) (vs : List Value) (i : ℕ) (v : Value) → AreOfKind cs vs → has_kind (column_type cs i) v ≡ true → AreOfKind cs (slice_set vs i v)
kinds_with [] [] i v h g = refl
kinds_with [] (w ∷ ws) zero v h g = refl
kinds_with [] (w ∷ ws) (suc i) v h g = refl
kinds_with (c ∷ cs) [] i v h g = h
kinds_with (c ∷ cs) (w ∷ ws) zero v h g = λ i. g i && (both (has_kind c.type w) _ h).1 i
kinds_with (c ∷ cs) (w ∷ ws) (suc i) v h g = λ j. (both (has_kind c.type w) _ h).0 j && kinds_with cs ws i v (both (has_kind c.type w) _ h).1 g j

-- a value of the column's kind
pub fits_with : (cs : List Column) (r : Row) (i : ℕ) (v : Value) → fits cs r ≡ true → has_kind (column_type cs i) v ≡ true → fits cs (record r { columns = slice_set r.columns i v }) ≡ true
fits_with cs r i v h g =
    let parts : ((length r.columns == length cs) ≡ true) × AreOfKind cs r.columns = both (length r.columns == length cs) _ h in
    λ j. (ap (λ n. n == length cs) (length-slice_set r.columns i v) ∙ parts.0) j && kinds_with cs r.columns i v parts.1 g j

-- ---- databases without rows

no_rows : (n t : ℕ) → table_at (replicate n map.empty) t ≡ map.empty
no_rows zero t = refl
no_rows (suc n) zero = refl
no_rows (suc n) (suc t) = no_rows n t

length-tables : (n : ℕ) (table : Table) → length (replicate n table) ≡ n
length-tables zero table = refl
length-tables (suc n) table = ap suc (length-tables n table)

pub without_rows_typed : (s : Schema) → IsTyped s (replicate (length s.tables) map.empty)
without_rows_typed s = (length-tables (length s.tables) map.empty, λ t u r e. absurd (none-some r (sym (get-empty uuid_cmp u) ∙ sym (ap (λ table. map.get table u) (no_rows (length s.tables) t)) ∙ e)))
