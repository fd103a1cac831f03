-- Drafts of which the rows of one table change.
use Rattle.std.proofs.Common.{◌≡◌, ℕ, zero, suc, Bool, true, false, cond, not, ◌||◌, List, [], ◌∷◌, codes, slice_get, slice_set, unwrap_or, Option, Some, None, is_some, refl, sym, ap, ◌∙◌}
use Rattle.std.proofs.lemmas.Bool.{false≢true}
use Rattle.std.specs.Ordering.{eq_by_cmp}
use Rattle.odb_atoms.specs.FinMap as map
use Rattle.odb_atoms.specs.FinSet as set
use Rattle.odb_atoms.specs.Error.{Error, constraint_violation, duplicate_uuid}
use Rattle.odb_atoms.specs.First.{Ok, Result, demand, ◌>>◌}
use Rattle.odb_atoms.specs.Row.{Row}
use Rattle.odb_atoms.specs.Uuid.{Uuid, uuid_cmp}
use Rattle.odb_atoms.specs.Value.{Value}
use Rattle.odb_atoms.proofs.Atoms.{uuid_cmp-IsAntisymmetric}
use Rattle.odb_atoms.proofs.FinMaps.{same_key, same_map}
use Rattle.odb_ops.specs.Execution.{all_admit, has_used, new_row}
use Rattle.odb_ops.specs.Represented.Draft.{begun}
use Rattle.odb_ops.specs.Represented.Parts.{insert_row, with_rows}
use Rattle.odb_schema.specs.Json.{Data, object_of}
use Rattle.odb_schema.specs.Notation.{write_uuid}
use Rattle.odb_schema.specs.Schema.{Column}
use Rattle.odb_tables.specs.Database.{table_at}
use Rattle.odb_tables.specs.Draft.{Draft, removed_at, with_row}
use Rattle.odb_tables.specs.Represented.Key.{uuid_cmp_total}
use Rattle.odb_tables.proofs.KeyedMaps.{get-remove}

pub neither : (a b : Bool) → (a || b) ≡ false → (a ≡ false) × (b ≡ false)
neither true b e = absurd (false≢true (sym e))
neither false b e = (refl, e)

-- ---- lists of which one place changes

pub set_same : {A : Type 0} (xs : List A) (t : ℕ) (d : A) → slice_set xs t (unwrap_or (slice_get xs t) d) ≡ xs
set_same [] t d = refl
set_same (x ∷ xs) zero d = refl
set_same (x ∷ xs) (suc t) d = ap (λ ys. x ∷ ys) (set_same xs t d)

-- ---- what isn't there is taken out

none_where : {A : Type 0} (o : Option A) → is_some o ≡ false → o ≡ None
none_where None e = refl
none_where (Some x) e = absurd (false≢true (sym e))

pub remove_absent : {X : Type 0} (m : map.FinMap uuid_cmp X) (u : Uuid) → map.contains_key m u ≡ false → map.remove m u ≡ m
remove_absent {X = X} m u absent = same_map uuid_cmp_total uuid_cmp-IsAntisymmetric (map.remove m u) m (λ q. get-remove m u q ∙ at q (eq_by_cmp uuid_cmp q u) refl)
  where
    at : (q : Uuid) (b : Bool) → eq_by_cmp uuid_cmp q u ≡ b → cond b None (map.get m q) ≡ map.get m q
    at q true e = sym (ap (map.get m) (same_key uuid_cmp-IsAntisymmetric q u e) ∙ none_where (map.get m u) absent)
    at q false e = refl

-- a row is put where none was taken out under its identifier
pub with_row_is : (t : ℕ) (u : Uuid) (r : Row) (d : Draft) → set.contains (removed_at d t) u ≡ false → with_row t u r d ≡ with_rows t (map.insert (table_at d.now t) u r) d
with_row_is t u r d absent =
    let removed = ap (slice_set d.removed t) (remove_absent (removed_at d t) u absent) ∙ set_same d.removed t set.empty in
    λ i. record { old = d.old; now = slice_set d.now t (map.insert (table_at d.now t) u r); removed = removed i }

-- ---- inserts

module _ (cs : List Column) (t : ℕ) (u : Uuid) (given : List (ℕ × Value)) (d : Draft) where
  abbrev outcome : Bool → Bool → Draft × Data → Result (Draft × Data) Error
  outcome used admitted new = ◌>>◌ (demand (not used) duplicate_uuid) (◌>>◌ (demand admitted constraint_violation) (Ok new))

  pub insert_row_is : (new : Draft) (r : Row) (result : Data) → has_used (begun d) t u ≡ false → r ≡ new_row cs given → all_admit cs r.columns ≡ true
      → new ≡ with_row t u r d → result ≡ object_of ((codes "uuid", write_uuid u) ∷ []) → insert_row cs t u given d ≡ Ok (new, result)
  insert_row_is new r result unused is admitted put made =
      let parts : (map.contains_key (table_at d.now t) u ≡ false) × (set.contains (removed_at d t) u ≡ false) = neither _ _ unused in
      let here : with_rows t (map.insert (table_at d.now t) u (new_row cs given)) d ≡ new = ap (λ q. with_rows t (map.insert (table_at d.now t) u q) d) (sym is) ∙ sym (with_row_is t u r d parts.1) ∙ sym put in
      let fits : all_admit cs (new_row cs given).columns ≡ true = ap (λ q. all_admit cs q.columns) (sym is) ∙ admitted in
      λ i. outcome (unused i) (fits i) (here i, sym made i)
