-- What a draft is after a row of it changed.
use Rattle.std.proofs.Common.{◌≡◌, ◌<◌, ℕ, zero, suc, arith, List, [], ◌∷◌, get_or, length, map, replicate, slice_get, slice_set, unwrap_or, Some, None, refl, sym, ap, ◌∙◌}
use Rattle.odb_atoms.specs.FinMap as finite
use Rattle.odb_atoms.specs.FinSet as set
use Rattle.odb_atoms.specs.Row.{Row}
use Rattle.odb_atoms.specs.Uuid.{Uuid}
use Rattle.odb_tables.specs.Change.{Changes, change, change_between}
use Rattle.odb_tables.specs.Database.{Db, Table, table_at}
use Rattle.odb_tables.specs.Draft.{Draft, draft_of, with_row, without_row}
use Rattle.odb_tables.specs.Represented.Draft.{all_overlaid, overlaid, taken_out, touched_at}
use Rattle.odb_tables.specs.Represented.Overlay.{Touched}
use Rattle.odb_tables.proofs.Overlays.{all_untouched, at-all_overlaid, none_removed, overlaid-put, overlaid-removed, removed-all, set-all_overlaid, set-removed, taken_out-put, taken_out-removed}

abbrev pub drafted : Db → List Touched → Draft
drafted db os = record { old = db; now = all_overlaid db os; removed = map taken_out os }

-- nothing is touched
pub drafted-none : (db : Db) (os : List Touched) → os ≡ replicate (length db) finite.empty → drafted db os ≡ draft_of db
drafted-none db os none = ap (drafted db) none ∙ (λ i. let d : Draft = record { old = db; now = all_untouched db i; removed = none_removed (length db) i } in d)

module _ (db : Db) (os : List Touched) (e : length os ≡ length db) (k : ℕ) (u : Uuid) (o new : Touched) (at : o ≡ touched_at os k) where
  now_is : overlaid (table_at db k) o ≡ table_at (all_overlaid db os) k
  now_is = ap (overlaid (table_at db k)) at ∙ sym (at-all_overlaid db os k e)

  removed_is : taken_out o ≡ unwrap_or (slice_get (map taken_out os) k) set.empty
  removed_is = ap taken_out at ∙ sym (removed-all os k)

  pub put_is : (r : Row) → new ≡ finite.insert o u (Some r) → drafted db (slice_set os k new) ≡ with_row k u r (drafted db os)
  put_is r made =
      let now = set-all_overlaid db os k new e ∙ ap (slice_set (all_overlaid db os) k) (ap (overlaid (table_at db k)) made ∙ overlaid-put (table_at db k) o u r ∙ ap (λ t. finite.insert t u r) now_is) in
      let removed = set-removed os k new ∙ ap (slice_set (map taken_out os) k) (ap taken_out made ∙ taken_out-put o u r ∙ ap (λ s. set.remove s u) removed_is) in
      λ i. record { old = db; now = now i; removed = removed i }

  pub removed-is : new ≡ finite.insert o u None → drafted db (slice_set os k new) ≡ without_row k u (drafted db os)
  removed-is made =
      let now = set-all_overlaid db os k new e ∙ ap (slice_set (all_overlaid db os) k) (ap (overlaid (table_at db k)) made ∙ overlaid-removed (table_at db k) o u ∙ ap (λ t. finite.remove t u) now_is) in
      let removed = set-removed os k new ∙ ap (slice_set (map taken_out os) k) (ap taken_out made ∙ taken_out-removed o u ∙ ap (λ s. set.insert s u) removed_is) in
      λ i. record { old = db; now = now i; removed = removed i }

-- ---- the changes of all tables

pub length-changes : (db : Db) (os : List Touched) → length os ≡ length db → length (change_between db (all_overlaid db os)) ≡ length db
length-changes [] [] e = refl
length-changes [] (o ∷ os) e = refl
length-changes (t ∷ db) [] e = absurd (omega (arith, e))
length-changes (t ∷ db) (o ∷ os) e = ap suc (length-changes db os (omega (arith, e)))

pub changes_at : (db : Db) (os : List Touched) (i : ℕ) (c : Changes) (t : Table) (o : Touched) → length os ≡ length db → i < length db
    → get_or (change_between db (all_overlaid db os)) i c ≡ change (get_or db i t) (overlaid (get_or db i t) (get_or os i o))
changes_at [] os i c t o e inside = absurd (omega (arith, inside))
changes_at (x ∷ db) [] i c t o e inside = absurd (omega (arith, e))
changes_at (x ∷ db) (y ∷ os) zero c t o e inside = refl
changes_at (x ∷ db) (y ∷ os) (suc i) c t o e inside = changes_at db os i c t o (omega (arith, e)) (omega (arith, inside))
