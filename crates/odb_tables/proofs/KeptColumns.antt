-- A column in which nothing changed stays so where rows are put with the same value, or taken out.
use Rattle.std.proofs.Common.{◌≡◌, ◌≢◌, ◌⊎◌, ℕ, zero, suc, arith, ◌<◌, Bool, true, false, cond, List, [], ◌∷◌, length, replicate, slice_get, slice_index_or, slice_set, Option, Result, Ok, Err, OnErr, Some, None, option_and_then, is_some, refl, sym, ap, subst, ◌∙◌}
use mathlib.Core.Bool.{true≢false}
use mathlib.Core.Logic.{inl, inr}
use Rattle.std.proofs.lemmas.Bool.Decides.{eqb_tells}
use Rattle.std.proofs.lemmas.List.{length-replicate, length-set}
use Rattle.std.proofs.lemmas.Option.{none-some}
use Rattle.std.specs.Ordering.{eq_by_cmp}
use Rattle.std.specs.Prelude.{IsTrue, not}
use Rattle.odb_atoms.specs.FinMap as finite
use Rattle.odb_atoms.specs.Row.{Row}
use Rattle.odb_atoms.specs.Uuid.{Uuid, uuid_cmp}
use Rattle.odb_atoms.proofs.Atoms.{uuid_cmp-IsAntisymmetric}
use Rattle.odb_atoms.proofs.FinMaps.{get-insert, same_key}
use Rattle.odb_tables.specs.Database.{Db, Table, table_at}
use Rattle.odb_tables.specs.Draft.{Draft, KeepsColumn}
use Rattle.odb_tables.specs.Represented.Draft.{all_overlaid, touched_at}
use Rattle.odb_tables.specs.Represented.Overlay.{Touched}
use Rattle.odb_tables.specs.Represented.ChangedColumns.{IsKept, KeepsOthers, may_change, may_change_at}
use Rattle.odb_tables.specs.Represented.Key.{uuid_cmp_total}
use Rattle.odb_tables.specs.declared.changed_columns.ChangedColumns.{ChangedColumns}
use Rattle.odb_tables.proofs.Drafts.{drafted-none, put_is, removed-is}
use Rattle.odb_tables.proofs.KeyedMaps.{get-remove}
use Rattle.odb_tables.proofs.Overlays.{length-all_overlaid}

-- ---- an element of a list that was set

set-here : (db : Db) (k : ℕ) (t : Table) → k < length db → table_at (slice_set db k t) k ≡ t
set-here [] k t inside = absurd (omega (arith, inside))
set-here (x ∷ db) zero t inside = refl
set-here (x ∷ db) (suc k) t inside = set-here db k t (omega (arith, inside))

set-elsewhere : (db : Db) (k j : ℕ) (t : Table) → j ≢ k → table_at (slice_set db k t) j ≡ table_at db j
set-elsewhere [] k j t other = refl
set-elsewhere (x ∷ db) zero zero t other = absurd (other refl)
set-elsewhere (x ∷ db) zero (suc j) t other = refl
set-elsewhere (x ∷ db) (suc k) zero t other = refl
set-elsewhere (x ∷ db) (suc k) (suc j) t other = set-elsewhere db k j t (λ e. other (ap suc e))

marks-here : (cs : List ChangedColumns) (k p : ℕ) (c : ChangedColumns) → k < length cs → may_change_at (slice_set cs k c) k p ≡ may_change c p
marks-here [] k p c inside = absurd (omega (arith, inside))
marks-here (x ∷ cs) zero p c inside = refl
marks-here (x ∷ cs) (suc k) p c inside = marks-here cs k p c (omega (arith, inside))

marks-elsewhere : (cs : List ChangedColumns) (k j p : ℕ) (c : ChangedColumns) → j ≢ k → may_change_at (slice_set cs k c) j p ≡ may_change_at cs j p
marks-elsewhere [] k j p c other = refl
marks-elsewhere (x ∷ cs) zero zero p c other = absurd (other refl)
marks-elsewhere (x ∷ cs) zero (suc j) p c other = refl
marks-elsewhere (x ∷ cs) (suc k) zero p c other = refl
marks-elsewhere (x ∷ cs) (suc k) (suc j) p c other = marks-elsewhere cs k j p c (λ e. other (ap suc e))

-- ---- a table's marks grow, and a row of it is put

module _ (old now : Db) (cs : List ChangedColumns) (k : ℕ) (c : ChangedColumns) (inside : k < length cs) (within : (p : ℕ) → may_change c p ≡ false → may_change_at cs k p ≡ false) (kept : KeepsOthers old now cs) where
  unmarked : (t p : ℕ) → t ≡ k → may_change_at (slice_set cs k c) t p ≡ false → may_change c p ≡ false
  unmarked t p is e = sym (marks-here cs k p c inside) ∙ ap (λ j. may_change_at (slice_set cs k c) j p) (sym is) ∙ e

  pub kept-more : KeepsOthers old now (slice_set cs k c)
  kept-more t p e = elim (eqb_tells t k) as (λ _. KeepsColumn old now t p) [
    | inl is ↦ subst (λ j. KeepsColumn old now j p) (sym is.1) (kept k p (within p (unmarked t p is.1 e)))
    | inr not ↦ kept t p (sym (marks-elsewhere cs k t p c not.1) ∙ e)
  ]

  module _ (u : Uuid) (row : Row) (long : k < length now) (same : (p : ℕ) (r : Row) → may_change c p ≡ false → finite.get (table_at old k) u ≡ Some r → slice_get r.columns p ≡ slice_get row.columns p) where
    abbrev new : Table
    new = finite.insert (table_at now k) u row

    one : (b : Bool) (q : Uuid) (p : ℕ) (r s : Row) → eq_by_cmp uuid_cmp q u ≡ b → may_change c p ≡ false → finite.get (table_at old k) q ≡ Some r → cond b (Some row) (finite.get (table_at now k) q) ≡ Some s → slice_get r.columns p ≡ slice_get s.columns p
    one true q p r s is e there here = same p r e (ap (finite.get (table_at old k)) (sym (same_key uuid_cmp-IsAntisymmetric q u is)) ∙ there) ∙ ap (λ (o : Option Row). option_and_then (λ x. slice_get x.columns p) o) here
    one false q p r s is e there here = kept k p (within p e) q r s there here

    at-put : (t p : ℕ) → t ≡ k → may_change c p ≡ false → KeepsColumn old (slice_set now k new) k p
    at-put t p is e q r s there here =
        one (eq_by_cmp uuid_cmp q u) q p r s refl e there (sym (get-insert uuid_cmp_total (table_at now k) u row q) ∙ ap (λ m. finite.get m q) (sym (set-here now k new long)) ∙ here)

    pub kept-put : KeepsOthers old (slice_set now k new) (slice_set cs k c)
    kept-put t p e = elim (eqb_tells t k) as (λ _. KeepsColumn old (slice_set now k new) t p) [
      | inl is ↦ subst (λ j. KeepsColumn old (slice_set now k new) j p) (sym is.1) (at-put t p is.1 (unmarked t p is.1 e))
      | inr not ↦ λ q r s there here. kept t p (sym (marks-elsewhere cs k t p c not.1) ∙ e) q r s there (ap (λ m. finite.get m q) (sym (set-elsewhere now k t new not.1)) ∙ here)
    ]

-- ---- a row is taken out

module _ (old now : Db) (cs : List ChangedColumns) (k : ℕ) (kept : KeepsOthers old now cs) (u : Uuid) (long : k < length now) where
  abbrev less : Table
  less = finite.remove (table_at now k) u

  there-before : (b : Bool) (x : Option Row) (s : Row) → cond b None x ≡ Some s → x ≡ Some s
  there-before true x s here = absurd (none-some s here)
  there-before false x s here = here

  at-removed : (p : ℕ) → may_change_at cs k p ≡ false → KeepsColumn old (slice_set now k less) k p
  at-removed p e q r s there here =
      kept k p e q r s there (there-before (eq_by_cmp uuid_cmp q u) (finite.get (table_at now k) q) s (sym (get-remove (table_at now k) u q) ∙ ap (λ m. finite.get m q) (sym (set-here now k less long)) ∙ here))

  pub kept-removed : KeepsOthers old (slice_set now k less) cs
  kept-removed t p e = elim (eqb_tells t k) as (λ _. KeepsColumn old (slice_set now k less) t p) [
    | inl is ↦ subst (λ j. KeepsColumn old (slice_set now k less) j p) (sym is.1) (at-removed p (ap (λ j. may_change_at cs j p) (sym is.1) ∙ e))
    | inr not ↦ λ q r s there here. kept t p e q r s there (ap (λ m. finite.get m q) (sym (set-elsewhere now k t less not.1)) ∙ here)
  ]

pub is_off : (b : Bool) → IsTrue (not b) → b ≡ false
is_off true e = absurd (true≢false (sym e))
is_off false e = refl

-- ---- of a draft

module _ (db : Db) (os : List Touched) (cs : List ChangedColumns) (is : IsKept db os cs) (k : ℕ) (u : Uuid) (o new : Touched) (at : o ≡ touched_at os k) (inside : k < length os) where
  now-long : length (all_overlaid db os) ≡ length db
  now-long = length-all_overlaid db os is.0

  in-now : k < length (all_overlaid db os)
  in-now = omega (arith, inside, is.0, now-long)

  in-marks : k < length cs
  in-marks = omega (arith, inside, is.0, is.1.0)

  pub draft-put : (row : Row) (c : ChangedColumns) → new ≡ finite.insert o u (Some row) → ((p : ℕ) → may_change c p ≡ false → may_change_at cs k p ≡ false)
      → ((p : ℕ) (r : Row) → may_change c p ≡ false → finite.get (table_at db k) u ≡ Some r → slice_get r.columns p ≡ slice_get row.columns p)
      → IsKept db (slice_set os k new) (slice_set cs k c)
  draft-put row c made within same =
      let now : all_overlaid db (slice_set os k new) ≡ slice_set (all_overlaid db os) k (finite.insert (table_at (all_overlaid db os) k) u row) = ap (λ (d : Draft). d.now) (put_is db os is.0 k u o new at row made) in
      (length-set os k new ∙ is.0, (length-set cs k c ∙ is.1.0, subst (λ ts. KeepsOthers db ts (slice_set cs k c)) (sym now) (kept-put db (all_overlaid db os) cs k c in-marks within is.1.1 u row in-now same)))

  pub draft-removed : new ≡ finite.insert o u None → IsKept db (slice_set os k new) cs
  draft-removed made =
      let now : all_overlaid db (slice_set os k new) ≡ slice_set (all_overlaid db os) k (finite.remove (table_at (all_overlaid db os) k) u) = ap (λ (d : Draft). d.now) (removed-is db os is.0 k u o new at made) in
      (length-set os k new ∙ is.0, (is.1.0, subst (λ ts. KeepsOthers db ts cs) (sym now) (kept-removed db (all_overlaid db os) cs k is.1.1 u in-now)))

-- where a row was there, all columns count as changed
pub was-there : (b : Bool) (x : Option Row) (c : ChangedColumns) → b ≡ is_some x → (b ≡ true → (p : ℕ) → may_change c p ≡ true) → (row : Row) (p : ℕ) (r : Row) → may_change c p ≡ false → x ≡ Some r → slice_get r.columns p ≡ slice_get row.columns p
was-there b x c is all row p r off e = absurd (true≢false (sym (all (is ∙ ap is_some e) p) ∙ off))

-- nothing is touched yet
pub new-draft : (db : Db) (os : List Touched) (cs : List ChangedColumns) → os ≡ replicate (length db) finite.empty → length cs ≡ length db → IsKept db os cs
new-draft db os cs none long =
    let now : all_overlaid db os ≡ db = ap (λ (d : Draft). d.now) (drafted-none db os none) in
    (ap length none ∙ length-replicate (length db) finite.empty, (long, λ t p e q r s there here. ap (λ (o : Option Row). option_and_then (λ x. slice_get x.columns p) o) (sym there ∙ ap (λ ts. finite.get (table_at ts t) q) (sym now) ∙ here)))

pub marks-at : (cs : List ChangedColumns) (k p : ℕ) (m : ChangedColumns) → k < length cs → m ≡ slice_index_or cs k m → may_change_at cs k p ≡ may_change m p
marks-at [] k p m inside at = absurd (omega (arith, inside))
marks-at (x ∷ cs) zero p m inside at = ap (λ y. may_change y p) (sym at)
marks-at (x ∷ cs) (suc k) p m inside at = marks-at cs k p m (omega (arith, inside)) at

pub failed : {T E : Type 0} (r : Result T E) (P : Type 0) → P → OnErr r P
failed (Ok x) P p = tt
failed (Err x) P p = p

pub there-is : (x : Option Row) (P : Type 0) → is_some x ≡ true → ((s : Row) → x ≡ Some s → P) → P
there-is None P e h = absurd (true≢false (sym e))
there-is (Some s) P e h = h s refl
