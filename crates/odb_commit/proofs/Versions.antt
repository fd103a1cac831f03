-- Versions stand in no reference, no index and no column: a settled database stays settled with them.
use Rattle.std.specs.Prelude.{◌≡◌, ℕ, zero, suc, Bool, true, false, cond, not, ◌&&◌, ◌||◌, nat_le, T, List, [], ◌∷◌, filter_map, flat_map, length, map as map_list, slice_get, zip, is_some, unwrap_or, Option, Some, None, option_and_then, option_map}
use Rattle.std.specs.List.{list_all, list_any}
use Rattle.std.specs.declared.cmp.Ordering.{Ordering}
use Rattle.std.specs.Ordering.{eq_by_cmp, is_lt}
use Rattle.std.specs.Cmp.{IsTotalOrder}
use Rattle.std.specs.FinMap.{IsAntisymmetric}
use Rattle.std.specs.FinMap.Entries.{below_all, find, is_sorted}
use Rattle.std.proofs.lemmas.List.{length-map}
use Rattle.std.proofs.lemmas.Option.{none-some, same_Some}
use mathlib.Core.Path.{refl, sym, ap, subst, ◌∙◌}
use Rattle.std.proofs.Common.{arith}
use Rattle.odb_atoms.specs.ColType.{at_most}
use Rattle.odb_atoms.specs.FinMap as map
use Rattle.odb_atoms.specs.FinMap.{FinMap}
use Rattle.odb_atoms.specs.FinSet as set
use Rattle.odb_atoms.specs.Row.{Row}
use Rattle.odb_atoms.specs.Uuid.{Uuid, uuid_cmp}
use Rattle.odb_atoms.specs.Value.{same_values, set_of}
use Rattle.odb_atoms.proofs.Atoms.{uuid_cmp-IsAntisymmetric}
use Rattle.odb_atoms.proofs.Equal.{same_values-equal}
use Rattle.odb_atoms.proofs.FinMaps.{get-empty, get-entries, get-map_entries, same_key, same_map}
use Rattle.odb_integrity.specs.Settled.{IsSettled}
use Rattle.odb_integrity.specs.Settlement.{RowId, any_row, dangles, has_duplicates, has_too_few, has_twins, index_cells, is_kept, is_short, is_there, refers, row_of, rows_of, same_row, strong_of_row, strong_of_value, within_max_rows}
use Rattle.odb_integrity.specs.Steps.{row_has_stale}
use Rattle.odb_integrity.proofs.Databases.{any-row_ids}
use Rattle.odb_integrity.proofs.Kept.{kept_is_largest, kept_is_supported}
use Rattle.odb_integrity.proofs.Settles.{carried, has_stale_alike, nowhere_passes, passes_nowhere}
use Rattle.odb_schema.specs.Schema.{Column, Schema, TableSchema, column_place, columns_at}
use Rattle.odb_tables.specs.Database.{Db, Table, table_at}
use Rattle.odb_tables.specs.Represented.Key.{uuid_cmp_total}
use Rattle.odb_tables.specs.Stamped.{stamped, stamped_row, stamped_table}

-- ---- the entries of a map of which each value is changed

module _ {K X Y : Type 0} (R : K → K → Ordering) (f : K → X → Y) where
  abbrev each : List (K × X) → List (K × Y)
  each es = map_list (λ e. (e.0, f e.0 e.1)) es

  below-each : (k : K) (es : List (K × X)) → below_all R k (each es) ≡ below_all R k es
  below-each k [] = refl
  below-each k (e ∷ es) = ap (λ b. is_lt (R k e.0) && b) (below-each k es)

  sorted-each : (es : List (K × X)) → is_sorted R (each es) ≡ is_sorted R es
  sorted-each [] = refl
  sorted-each (e ∷ es) = λ i. below-each e.0 es i && sorted-each es i

  module _ (o : IsTotalOrder R) (same : IsAntisymmetric R) where
    find-each : (q : K) (es : List (K × X)) → find R q (each es) ≡ option_and_then (λ x. Some (f q x)) (find R q es)
    find-each q [] = refl
    find-each q (e ∷ es) = by (eq_by_cmp R q e.0) refl (find-each q es)
      where
        by : (b : Bool) → eq_by_cmp R q e.0 ≡ b → find R q (each es) ≡ option_and_then (λ x. Some (f q x)) (find R q es) → cond b (Some (f e.0 e.1)) (find R q (each es)) ≡ option_and_then (λ x. Some (f q x)) (cond b (Some e.1) (find R q es))
        by true t rest = ap (λ k. Some (f k e.1)) (sym (same_key same q e.0 t))
        by false t rest = rest

    entries-each : (m : FinMap R X) → map.entries_of (map.map_entries (λ k x. Some (f k x)) m) ≡ each m.entries
    entries-each m =
        let made : FinMap R Y = map.map_entries (λ k x. Some (f k x)) m in
        let n : FinMap R Y = record { entries = each m.entries; sorted = subst T (sym (sorted-each m.entries)) m.sorted } in
        ap (λ (m : FinMap R Y). m.entries) (same_map o same made n (λ q.
        get-map_entries o same (λ k x. Some (f k x)) m q
        ∙ ap (option_and_then (λ x. Some (f q x))) (get-entries m q)
        ∙ sym (find-each q m.entries)
        ∙ sym (get-entries n q)))

-- ---- rows and tables

stamped_columns : (number : Uuid) (o : Option Row) (r : Row) → (stamped_row number o r).columns ≡ r.columns
stamped_columns number None r = refl
stamped_columns number (Some p) r = by (same_values p.columns r.columns) refl
  where
    by : (b : Bool) → same_values p.columns r.columns ≡ b → (cond b p (record r { version = number })).columns ≡ r.columns
    by true e = same_values-equal p.columns r.columns e
    by false e = refl

module _ (number : Uuid) (old new : Table) where
  stamp : Uuid → Row → Row
  stamp u r = stamped_row number (map.get old u) r

  entries-stamped : map.entries_of (stamped_table number (old, new)) ≡ map_list (λ e. (e.0, stamp e.0 e.1)) new.entries
  unfolding stamp
  entries-stamped = entries-each uuid_cmp (λ u r. stamped_row number (map.get old u) r) uuid_cmp_total uuid_cmp-IsAntisymmetric new

  len-stamped : map.len (stamped_table number (old, new)) ≡ map.len new
  unfolding map.len
  len-stamped = ap length entries-stamped ∙ length-map new.entries (λ (e : Uuid × Row). let p : Uuid × Row = (e.0, stamp e.0 e.1) in p)

  indexed : (cs : List Column) (index : List (List ℕ)) (es : List (Uuid × Row)) → map_list (index_cells cs index) (map_list (λ e. e.1) (map_list (λ e. let p : Uuid × Row = (e.0, stamp e.0 e.1) in p) es)) ≡ map_list (index_cells cs index) (map_list (λ e. e.1) es)
  unfolding stamp
  indexed cs index [] = refl
  indexed cs index (e ∷ es) = λ j. map_list (λ i. unwrap_or (slice_get (stamped_columns number (map.get old e.0) e.1 j) i) (set_of set.empty)) (filter_map (column_place cs) index) ∷ indexed cs index es j

  indexed_stamped : (cs : List Column) (index : List (List ℕ)) → map_list (index_cells cs index) (rows_of (stamped_table number (old, new))) ≡ map_list (index_cells cs index) (rows_of new)
  indexed_stamped cs index = ap (λ (es : List (Uuid × Row)). map_list (index_cells cs index) (map_list (λ e. e.1) es)) entries-stamped ∙ indexed cs index new.entries

  within_stamped : (t : TableSchema) → within_max_rows (t, stamped_table number (old, new)) ≡ within_max_rows (t, new)
  within_stamped t = ap (at_most nat_le t.max_rows) len-stamped

  apart_stamped : (t : TableSchema) → has_duplicates (t, stamped_table number (old, new)) ≡ has_duplicates (t, new)
  apart_stamped t = λ i. list_any (λ index. has_twins same_values (indexed_stamped t.columns index i)) t.indexes

-- ---- databases

module _ (number : Uuid) where
  each_within : (ts : List TableSchema) (old new : Db) → length old ≡ length new → list_all within_max_rows (zip ts (stamped number old new)) ≡ list_all within_max_rows (zip ts new)
  each_within [] old new e = refl
  each_within (t ∷ ts) [] [] e = refl
  each_within (t ∷ ts) [] (b ∷ new) e = absurd (omega (arith, e))
  each_within (t ∷ ts) (a ∷ old) [] e = refl
  each_within (t ∷ ts) (a ∷ old) (b ∷ new) e = λ i. within_stamped number a b t i && each_within ts old new (omega (arith, e)) i

  each_apart : (ts : List TableSchema) (old new : Db) → length old ≡ length new → list_any has_duplicates (zip ts (stamped number old new)) ≡ list_any has_duplicates (zip ts new)
  each_apart [] old new e = refl
  each_apart (t ∷ ts) [] [] e = refl
  each_apart (t ∷ ts) [] (b ∷ new) e = absurd (omega (arith, e))
  each_apart (t ∷ ts) (a ∷ old) [] e = refl
  each_apart (t ∷ ts) (a ∷ old) (b ∷ new) e = λ i. apart_stamped number a b t i || each_apart ts old new (omega (arith, e)) i

  get-stamped : (old new : Db) → length old ≡ length new → (t : ℕ) (u : Uuid) → map.get (table_at (stamped number old new) t) u ≡ option_and_then (λ r. Some (stamped_row number (map.get (table_at old t) u) r)) (map.get (table_at new t) u)
  get-stamped [] [] e zero u = get-empty uuid_cmp u ∙ sym (ap (option_and_then (λ r. Some (stamped_row number (map.get (table_at [] 0) u) r))) (get-empty uuid_cmp u))
  get-stamped [] [] e (suc t) u = get-empty uuid_cmp u ∙ sym (ap (option_and_then (λ r. Some (stamped_row number (map.get (table_at [] 0) u) r))) (get-empty uuid_cmp u))
  get-stamped [] (b ∷ new) e t u = absurd (omega (arith, e))
  get-stamped (a ∷ old) [] e t u = absurd (omega (arith, e))
  get-stamped (a ∷ old) (b ∷ new) e zero u = get-map_entries uuid_cmp_total uuid_cmp-IsAntisymmetric (λ u r. Some (stamped_row number (map.get a u) r)) b u
  get-stamped (a ∷ old) (b ∷ new) e (suc t) u = get-stamped old new (omega (arith, e)) t u

module _ (s : Schema) (number : Uuid) (old new : Db) (same : length old ≡ length new) where
  row_of-stamped : (x : RowId) → row_of (stamped number old new) x ≡ option_and_then (λ r. Some (stamped_row number (row_of old x) r)) (row_of new x)
  row_of-stamped x = get-stamped number old new same x.0 x.1

  there_stamped : (x : RowId) → is_there (stamped number old new) x ≡ is_there new x
  there_stamped x = ap is_some (row_of-stamped x) ∙ by (row_of new x)
    where
      by : (o : Option Row) → is_some (option_and_then (λ r. Some (stamped_row number (row_of old x) r)) o) ≡ is_some o
      by None = refl
      by (Some r) = refl

  -- tests that answer alike of a row and of the row with its version
  none_stamped : (p q : RowId → Row → Bool) → ((x : RowId) (o : Option Row) (r : Row) → q x (stamped_row number o r) ≡ p x r) → any_row p new ≡ false → any_row q (stamped number old new) ≡ false
  none_stamped p q alike none = nowhere_passes q (stamped number old new) (λ x r there. by x r (row_of new x) refl (sym (row_of-stamped x) ∙ there))
    where
      by : (x : RowId) (r : Row) (o : Option Row) → row_of new x ≡ o → option_and_then (λ r. Some (stamped_row number (row_of old x) r)) o ≡ Some r → q x r ≡ false
      by x r None there e = absurd (none-some r e)
      by x r (Some now) there e = ap (q x) (sym (same_Some (stamped_row number (row_of old x) now) r e)) ∙ alike x (row_of old x) now ∙ passes_nowhere p new none x now there

  refers_stamped : (y z : RowId) → refers s (stamped number old new) y z ≡ refers s new y z
  refers_stamped y z = ap (λ o. unwrap_or (option_map (λ r. list_any (same_row z) (strong_of_row s y r)) o) false) (row_of-stamped y) ∙ by (row_of new y)
    where
      by : (o : Option Row) → unwrap_or (option_map (λ r. list_any (same_row z) (strong_of_row s y r)) (option_and_then (λ r. Some (stamped_row number (row_of old y) r)) o)) false ≡ unwrap_or (option_map (λ r. list_any (same_row z) (strong_of_row s y r)) o) false
      by None = refl
      by (Some r) = λ i. list_any (same_row z) (flat_map (λ e. strong_of_value s e.0.type e.1) (zip (columns_at s y.0) (stamped_columns number (row_of old y) r i)))

  -- the same rows are kept
  kept_stamped : (x : RowId) → is_kept s new x ≡ true → is_kept s (stamped number old new) x ≡ true
  kept_stamped = kept_is_largest s (stamped number old new) (is_kept s new) (carried s new (stamped number old new) (is_kept s new) (λ y k. there_stamped y ∙ sym (any-row_ids new y) ∙ (kept_is_supported s new y k).0) (λ y z k e. refers_stamped y z ∙ e) (kept_is_supported s new))

  pub stamped_settled : IsSettled s new → IsSettled s (stamped number old new)
  stamped_settled h = record {
    kept = λ plain x there. kept_stamped x (h.kept plain x (sym (there_stamped x) ∙ there));
    joined = none_stamped (dangles s new) (dangles s (stamped number old new)) (λ x o r i. list_any (λ y. not (there_stamped y i)) (flat_map (λ e. strong_of_value s e.0.type e.1) (zip (columns_at s x.0) (stamped_columns number o r i)))) h.joined;
    fresh = none_stamped (row_has_stale s new) (row_has_stale s (stamped number old new)) (λ x o r i. list_any (λ e. has_stale_alike (stamped number old new) new there_stamped s e.0.type e.1 i) (zip (columns_at s x.0) (stamped_columns number o r i))) h.fresh;
    filled = none_stamped (has_too_few s) (has_too_few s) (λ x o r i. list_any is_short (zip (columns_at s x.0) (stamped_columns number o r i))) h.filled;
    bounded = each_within number s.tables old new same ∙ h.bounded;
    apart = each_apart number s.tables old new same ∙ h.apart;
  }
