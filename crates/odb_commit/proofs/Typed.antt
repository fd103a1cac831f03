-- Versions keep databases of their schema.
use Rattle.std.specs.Prelude.{◌≡◌, ℕ, zero, suc, Bool, true, false, cond, List, [], ◌∷◌, length, Option, Some, None, option_and_then}
use Rattle.std.proofs.lemmas.Option.{none-some, same_Some}
use mathlib.Core.Path.{refl, sym, ap, subst, ◌∙◌}
use Rattle.std.proofs.Common.{arith}
use Rattle.odb_atoms.specs.FinMap as map
use Rattle.odb_atoms.specs.Row.{Row}
use Rattle.odb_atoms.specs.Uuid.{Uuid}
use Rattle.odb_atoms.specs.Value.{same_values}
use Rattle.odb_atoms.proofs.Atoms.{uuid_cmp-IsAntisymmetric}
use Rattle.odb_atoms.proofs.FinMaps.{get-map_entries}
use Rattle.odb_schema.specs.Schema.{Column, Schema, columns_at}
use Rattle.odb_tables.specs.Database.{Db, Table, table_at}
use Rattle.odb_tables.specs.Represented.Key.{uuid_cmp_total}
use Rattle.odb_tables.specs.Stamped.{stamped, stamped_row, stamped_table}
use Rattle.odb_tables.specs.Typed.{IsTyped, fits}
use Rattle.odb_tables.proofs.TypedDatabases.{AllFit}

row_fits : (cs : List Column) (number : Uuid) (o : Option Row) (r : Row) → ((p : Row) → o ≡ Some p → fits cs p ≡ true) → fits cs r ≡ true → fits cs (stamped_row number o r) ≡ true
row_fits cs number None r h g = g
row_fits cs number (Some p) r h g = by (same_values p.columns r.columns)
  where
    by : (b : Bool) → fits cs (cond b p (record r { version = number })) ≡ true
    by true = h p refl
    by false = g

table_fits : (cs : List Column) (number : Uuid) (old new : Table) → AllFit cs old → AllFit cs new → AllFit cs (stamped_table number (old, new))
table_fits cs number old new h g u p e = by (map.get new u) refl (sym (get-map_entries uuid_cmp_total uuid_cmp-IsAntisymmetric (λ u r. Some (stamped_row number (map.get old u) r)) new u) ∙ e)
  where
    by : (o : Option Row) → map.get new u ≡ o → option_and_then (λ r. Some (stamped_row number (map.get old u) r)) o ≡ Some p → fits cs p ≡ true
    by None there e = absurd (none-some p e)
    by (Some r) there e = subst (λ q. fits cs q ≡ true) (same_Some _ p e) (row_fits cs number (map.get old u) r (h u) (g u r there))

each_fits : (P : ℕ → Table → Type 0) (number : Uuid) (old new : Db) → length old ≡ length new → ((t : ℕ) (a b : Table) → P t a → P t b → P t (stamped_table number (a, b))) → ((t : ℕ) → P t (table_at old t)) → ((t : ℕ) → P t (table_at new t)) → (t : ℕ) → P t (table_at (stamped number old new) t)
each_fits P number [] [] e step h g t = g t
each_fits P number [] (b ∷ new) e step h g t = absurd (omega (arith, e))
each_fits P number (a ∷ old) [] e step h g t = absurd (omega (arith, e))
each_fits P number (a ∷ old) (b ∷ new) e step h g zero = step zero a b (h zero) (g zero)
each_fits P number (a ∷ old) (b ∷ new) e step h g (suc t) = each_fits (λ n. P (suc n)) number old new (omega (arith, e)) (λ n. step (suc n)) (λ n. h (suc n)) (λ n. g (suc n)) t

length-stamped : (number : Uuid) (old new : Db) → length old ≡ length new → length (stamped number old new) ≡ length new
length-stamped number [] [] e = refl
length-stamped number [] (b ∷ new) e = absurd (omega (arith, e))
length-stamped number (a ∷ old) [] e = refl
length-stamped number (a ∷ old) (b ∷ new) e = ap suc (length-stamped number old new (omega (arith, e)))

pub stamped_typed : (s : Schema) (number : Uuid) (old new : Db) → IsTyped s old → IsTyped s new → IsTyped s (stamped number old new)
stamped_typed s number old new h g =
    let same : length old ≡ length new = h.0 ∙ sym g.0 in (
      length-stamped number old new same ∙ g.0,
      each_fits (λ t table. AllFit (columns_at s t) table) number old new same (λ t a b. table_fits (columns_at s t) number a b) h.1 g.1,
    )
