-- Settled databases: the order of the constraints, and that settlement keeps databases of their schema.
use Rattle.std.specs.Prelude.{◌≡◌, ℕ, Bool, true, false, cond, not, nat_le, zip, Option, Some, None, option_and_then}
use Rattle.std.specs.List.{list_all, list_any}
use mathlib.Core.Path.{refl, sym, ◌∙◌}
use Rattle.odb_atoms.specs.Error.{Error, constraint_violation, resources_exhausted}
use Rattle.odb_atoms.specs.First.{Err, Ok, Result, demand, ◌>>◌}
use Rattle.odb_atoms.specs.Row.{Row}
use Rattle.odb_atoms.specs.Uuid.{Uuid}
use Rattle.odb_schema.specs.Schema.{Schema, columns_at}
use Rattle.odb_tables.specs.Database.{Db}
use Rattle.odb_tables.specs.Typed.{IsTyped, fits}
use Rattle.odb_integrity.specs.Settlement.{any_row, constrained, has_duplicates, has_too_few, is_kept, kept, row_count, row_of, within_max_rows}
use Rattle.odb_integrity.proofs.Databases.{length-each_row, row_of-each_row}

-- ---- the order of the constraints

-- where all constraints but the last are kept
pub last_test : (s : Schema) (max_rows : ℕ) (db : Db) → any_row (has_too_few s) db ≡ false → list_all within_max_rows (zip s.tables db) ≡ true → list_any has_duplicates (zip s.tables db) ≡ false → (b : Bool) → nat_le (row_count db) max_rows ≡ b → constrained s max_rows db ≡ cond b (Ok db) (Err resources_exhausted)
last_test s max_rows db few many twice b limit =
    (λ i. ◌>>◌ (demand (not (few i)) constraint_violation) (◌>>◌ (demand (many i) constraint_violation) (◌>>◌ (demand (not (twice i)) constraint_violation) (◌>>◌ (demand (limit i) resources_exhausted) (Ok db)))))
    ∙ by b
  where
    by : (b : Bool) → ◌≡◌ {A = Result Db Error} (◌>>◌ (demand b resources_exhausted) (Ok db)) (cond b (Ok db) (Err resources_exhausted))
    by true = refl
    by false = refl

-- ---- databases of their schema

pub kept_typed : (s : Schema) (db : Db) → IsTyped s db → IsTyped s (kept s db)
kept_typed s db typed = (length-each_row (λ x r. cond (is_kept s db x) (Some r) None) db ∙ typed.0, λ k u r e. by k u r (row_of db (k, u)) refl (sym (row_of-each_row (λ x r. cond (is_kept s db x) (Some r) None) db (k, u)) ∙ e))
  where
    test : (k : ℕ) (u : Uuid) (r q : Row) → row_of db (k, u) ≡ Some q → (b : Bool) → cond b (Some q) None ≡ Some r → fits (columns_at s k) r ≡ true
    test k u r q there true e = typed.1 k u r (there ∙ e)
    test k u r q there false e = cc

    by : (k : ℕ) (u : Uuid) (r : Row) (o : Option Row) → row_of db (k, u) ≡ o → option_and_then (λ q. cond (is_kept s db (k, u)) (Some q) None) o ≡ Some r → fits (columns_at s k) r ≡ true
    by k u r None there e = cc
    by k u r (Some q) there e = test k u r q there (is_kept s db (k, u)) e
