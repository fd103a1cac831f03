-- What a draft keeps in a column: nothing is gained there.
use Rattle.std.specs.Prelude.{◌≡◌, ℕ, true, false, cond, not, ◌&&◌, List, [], ◌++◌, slice_get, Option, Some, None, option_and_then}
use mathlib.Core.Path.{refl, sym, ap, ◌∙◌}
use Rattle.std.proofs.Math.Bool.{and-false}
use Rattle.std.proofs.lemmas.List.{append-nil}
use Rattle.std.proofs.lemmas.Option.{none-some}
use Rattle.odb_atoms.proofs.Equal.{same_value-itself}
use Rattle.odb_atoms.specs.ColType.{ColType}
use Rattle.odb_atoms.specs.Difference.{difference}
use Rattle.odb_atoms.specs.Row.{Row}
use Rattle.odb_atoms.specs.Value.{Value}
use Rattle.odb_schema.specs.Schema.{Schema}
use Rattle.odb_tables.specs.Database.{Db}
use Rattle.odb_tables.specs.Draft.{KeepsColumn}
use Rattle.odb_integrity.specs.Gained.{cell_of, gained_at, gains_stale_at, has_stale_change, has_weak, strong_of_change}
use Rattle.odb_integrity.specs.Settlement.{RowId, row_of}

nothing_gained : (s : Schema) (t : ColType) (x : Option Value) → gained_at s t x x ≡ []
nothing_gained s t None = refl
nothing_gained s t (Some v) = ap (λ e. cond e [] (strong_of_change s t (difference v v t) v)) (same_value-itself v)

-- so nothing is appended
pub kept_appended : (s : Schema) (t : ColType) (x y : Option Value) (rows : List RowId) → x ≡ y → rows ≡ rows ++ gained_at s t x y
kept_appended s t x y rows is = sym (append-nil rows) ∙ ap (λ more. rows ++ more) (sym (ap (gained_at s t x) (sym is) ∙ nothing_gained s t x))

module _ (old now : Db) (x : RowId) (p : ℕ) (kept : KeepsColumn old now x.0 p) where
  pub kept_cells : (b n : Value) → cell_of old x p ≡ Some b → cell_of now x p ≡ Some n → Some b ≡ Some n
  kept_cells b n at_b at_n = by_rows (row_of old x) (row_of now x) refl refl at_b at_n
    where
      by_rows : (o w : Option Row) → row_of old x ≡ o → row_of now x ≡ w → option_and_then (λ r. slice_get r.columns p) o ≡ Some b → option_and_then (λ r. slice_get r.columns p) w ≡ Some n → Some b ≡ Some n
      by_rows None w is_o is_w at_b at_n = absurd (none-some b at_b)
      by_rows (Some r) None is_o is_w at_b at_n = absurd (none-some n at_n)
      by_rows (Some r) (Some s) is_o is_w at_b at_n = sym at_b ∙ kept x.1 r s is_o is_w ∙ at_n

pub gains_no_stale : (s : Schema) (db : Db) (t : ColType) (b n : Value) → Some b ≡ Some n → gains_stale_at s db t (Some b) (Some n) ≡ false
gains_no_stale s db t b n is =
    ap (gains_stale_at s db t (Some b)) (sym is)
    ∙ ap (λ e. has_weak t && (not e && has_stale_change s db t (difference b b t) b)) (same_value-itself b) ∙ and-false (has_weak t)
