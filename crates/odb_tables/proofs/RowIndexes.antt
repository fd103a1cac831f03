-- Indexes of the rows of tables, through a change of them.
use Rattle.std.proofs.Common.{◌≡◌, ◌⊎◌, ℕ, zero, suc, ◌<◌, ◌≤◌, Bool, true, false, cond, List, [], ◌∷◌, ◌++◌, length, replicate, get_or, slice_get, slice_set, Option, Some, None, unwrap_or, refl, sym, ap, subst, ◌∙◌, arith}
use mathlib.Core.Logic.{inl, inr}
use Rattle.std.proofs.lemmas.Option.{none-some, same_Some}
use Rattle.std.specs.FinMap.Entries.{find}
use Rattle.std.specs.List.{AllByRecursion}
use Rattle.std.specs.Ordering.{eq_by_cmp}
use Rattle.odb_atoms.specs.FinMap as finite
use Rattle.odb_atoms.specs.Row.{Row}
use Rattle.odb_atoms.specs.Uuid.{Uuid, uuid_cmp}
use Rattle.odb_atoms.proofs.Atoms.{uuid_cmp-IsAntisymmetric}
use Rattle.odb_atoms.proofs.FinMaps.{get-combine, get-empty, same_key}
use Rattle.odb_tables.specs.Change.{Changes, after, all_changed_by, before, changed_by}
use Rattle.odb_tables.specs.Database.{Db, Table, table_at}
use Rattle.odb_tables.specs.Installing.{IsChangeOf}
use Rattle.odb_tables.specs.Represented.Facet.{is_tag_now}
use Rattle.odb_tables.specs.Represented.Key.{uuid_cmp_total}
use Rattle.odb_tables.specs.Represented.RowIndex.{AreForNoRows, AreIndexesOf, CutsAll, HasNew, IsIndexOf, IsOf, IsOfSame, IsReady, LacksNothing, AddsNewTags, AddsNewTagsOf, changes_at}
use Rattle.odb_tables.specs.Represented.Pairs.{Grows, Pairs, has}
use Rattle.odb_tables.specs.declared.facet.Facet.{Facet}
use Rattle.odb_tables.specs.declared.row_index.RowIndex.{RowIndex}
use Rattle.odb_tables.specs.declared.row_index.Side.TheVariants.{New, Old}

abbrev pub Sides : Type 0
Sides = Option Row × Option Row

-- ---- row by row

pub next_noted : (f : Facet) (old now new : Pairs) (x : Uuid × Sides) (es : List (Uuid × Sides)) (u : Uuid) (d : Sides) → Grows old now → AddsNewTagsOf f now new x.0 x.1 → find uuid_cmp u (x ∷ es) ≡ Some d → AddsNewTagsOf f old new u d ⊎ (find uuid_cmp u es ≡ Some d)
next_noted f old now new x es u d grown noted e = by (eq_by_cmp uuid_cmp u x.0) refl e
  where
    here : AddsNewTagsOf f old new x.0 x.1
    here had = noted (λ tag h. grown tag x.0 (had tag h))

    by : (b : Bool) → eq_by_cmp uuid_cmp u x.0 ≡ b → cond b (Some x.1) (find uuid_cmp u es) ≡ Some d → AddsNewTagsOf f old new u d ⊎ (find uuid_cmp u es ≡ Some d)
    by true is found = inl (subst (λ (v : Uuid). AddsNewTagsOf f old new v d) (sym (same_key uuid_cmp-IsAntisymmetric u x.0 is)) (subst (λ (y : Sides). AddsNewTagsOf f old new x.0 y) (same_Some x.1 d found) here))
    by false is found = inr found

-- ---- table by table

module _ (k n : RowIndex) (t : Table) (c : Changes) (same : IsOfSame k n) where
  facet_is : (tag : Uuid) (r : Option Row) → is_tag_now n.facet tag r ≡ true → is_tag_now k.facet tag r ≡ true
  facet_is tag r h = ap (λ f. is_tag_now f tag r) (sym same.1) ∙ h

  pub still-kept : LacksNothing k t → Grows k.pairs n.pairs → LacksNothing n t
  still-kept kept grown u tag h = grown tag u (kept u tag (facet_is tag (finite.get t u) h))

  pub new-kept : LacksNothing k t → IsOf t c → AddsNewTags k.facet k.pairs n.pairs c → HasNew n c
  new-kept kept is noted u d at tag h =
      noted u d at (λ x g. kept u x (ap (is_tag_now k.facet x) (sym (is u) ∙ ap (before (finite.get t u)) at) ∙ g)) tag (facet_is tag d.1 h)

  pub back-kept : LacksNothing k t → IsOf t c → CutsAll k.facet k.pairs n.pairs New c → LacksNothing n t
  back-kept kept is cut u tag h =
      let had = facet_is tag (finite.get t u) h in
      cut tag u (kept u tag had) (λ d at. ap (is_tag_now k.facet tag) (sym (ap (before (finite.get t u)) at) ∙ is u) ∙ had)

  pub settled-kept : LacksNothing k t → HasNew k c → CutsAll k.facet k.pairs n.pairs Old c → LacksNothing n (changed_by t c)
  settled-kept kept new cut u tag h = by (finite.get c u) refl (ap (is_tag_now k.facet tag) (sym (get-combine uuid_cmp_total uuid_cmp-IsAntisymmetric after refl t c u)) ∙ facet_is tag (finite.get (changed_by t c) u) h)
    where
      by : (o : Option Sides) → finite.get c u ≡ o → is_tag_now k.facet tag (after (finite.get t u) o) ≡ true → has n.pairs tag u ≡ true
      by None at g = cut tag u (kept u tag g) (λ d there. absurd (none-some d (sym at ∙ there)))
      by (Some d) at g = cut tag u (new u d at tag g) (λ e there. ap (λ (y : Sides). is_tag_now k.facet tag y.1) (sym (same_Some d e (sym at ∙ there))) ∙ g)

-- ---- one after the other

module _ {X : Type 0} (P Q : X → Type 0) where
  -- Q of those before the place, P of those from it on
  abbrev pub Mixed : ℕ → List X → Type 0
  Mixed zero xs = AllByRecursion P xs
  Mixed (suc i) [] = Unit {0}
  Mixed (suc i) (x ∷ xs) = Q x × Mixed i xs

  pub mixed-at : (i : ℕ) (xs : List X) (x : X) → i < length xs → x ≡ get_or xs i x → Mixed i xs → P x
  mixed-at i [] x low at h = absurd (omega (arith, low))
  mixed-at zero (y ∷ xs) x low at h = subst P (sym at) h.0
  mixed-at (suc i) (y ∷ xs) x low at h = mixed-at i xs x (omega (arith, low)) at h.1

  pub mixed-step : (i : ℕ) (xs : List X) (y : X) → i < length xs → Q y → Mixed i xs → Mixed (suc i) (slice_set xs i y)
  mixed-step i [] y low q h = absurd (omega (arith, low))
  mixed-step zero (x ∷ xs) y low q h = (q, h.1)
  mixed-step (suc i) (x ∷ xs) y low q h = (h.0, mixed-step i xs y (omega (arith, low)) q h.1)

  pub mixed-end : (i : ℕ) (xs : List X) → length xs ≤ i → Mixed i xs → AllByRecursion Q xs
  mixed-end i [] past h = tt
  mixed-end zero (x ∷ xs) past h = absurd (omega (arith, past))
  mixed-end (suc i) (x ∷ xs) past h = (h.0, mixed-end i xs (omega (arith, past)) h.1)

  -- where both give R
  pub mixed-both : (R : X → Type 0) → ((x : X) → P x → R x) → ((x : X) → Q x → R x) → (i : ℕ) (xs : List X) → Mixed i xs → AllByRecursion R xs
  mixed-both R p q i [] h = tt
  mixed-both R p q zero (x ∷ xs) h = (p x h.0, mixed-both R p q zero xs h.1)
  mixed-both R p q (suc i) (x ∷ xs) h = (q x h.0, mixed-both R p q i xs h.1)

-- ---- the tables of a database

changed_at : (db : Db) (cs : List Changes) → IsChangeOf db cs → (t : ℕ) (c : Changes) → slice_get cs t ≡ Some c → table_at (all_changed_by db cs) t ≡ changed_by (table_at db t) c
changed_at [] [] h t c at = absurd (none-some c at)
changed_at [] (d ∷ cs) h t c at = absurd (omega (arith, h.0))
changed_at (x ∷ db) [] h t c at = absurd (omega (arith, h.0))
changed_at (x ∷ db) (d ∷ cs) h zero c at = ap (changed_by x) (same_Some d c at)
changed_at (x ∷ db) (d ∷ cs) h (suc t) c at = changed_at db cs (omega (arith, h.0), λ k. h.1 (suc k)) t c at

changed_past : (db : Db) (cs : List Changes) → IsChangeOf db cs → (t : ℕ) → slice_get cs t ≡ None → table_at (all_changed_by db cs) t ≡ table_at db t
changed_past [] [] h t at = refl
changed_past [] (d ∷ cs) h t at = absurd (omega (arith, h.0))
changed_past (x ∷ db) [] h t at = absurd (omega (arith, h.0))
changed_past (x ∷ db) (d ∷ cs) h zero at = absurd (none-some d (sym at))
changed_past (x ∷ db) (d ∷ cs) h (suc t) at = changed_past db cs (omega (arith, h.0), λ k. h.1 (suc k)) t at

module _ (db : Db) (cs : List Changes) (k n : RowIndex) (same : IsOfSame k n) where
  pub one-still : Grows k.pairs n.pairs → IsIndexOf db k → IsIndexOf db n
  one-still grown kept = subst (λ x. LacksNothing n (table_at db x)) (sym same.0) (still-kept k n (table_at db k.table) finite.empty same kept grown)

  pub one-ready : (c : Changes) → IsChangeOf db cs → slice_get cs k.table ≡ Some c → Grows k.pairs n.pairs → AddsNewTags k.facet k.pairs n.pairs c → IsIndexOf db k → IsReady db cs n
  one-ready c is at grown noted kept =
      let here : changes_at cs n.table ≡ c = ap (changes_at cs) same.0 ∙ ap (λ o. unwrap_or o finite.empty) at in
      (one-still grown kept, subst (HasNew n) (sym here) (new-kept k n (table_at db k.table) c same kept (is.1 k.table c at) noted))

  pub one-back : (c : Changes) → IsChangeOf db cs → slice_get cs k.table ≡ Some c → CutsAll k.facet k.pairs n.pairs New c → IsIndexOf db k → IsIndexOf db n
  one-back c is at cut kept = subst (λ x. LacksNothing n (table_at db x)) (sym same.0) (back-kept k n (table_at db k.table) c same kept (is.1 k.table c at) cut)

  pub one-settled : (c : Changes) → IsChangeOf db cs → slice_get cs k.table ≡ Some c → CutsAll k.facet k.pairs n.pairs Old c → IsReady db cs k → IsIndexOf (all_changed_by db cs) n
  one-settled c is at cut ready =
      let here : changes_at cs k.table ≡ c = ap (λ o. unwrap_or o finite.empty) at in
      let now = settled-kept k n (table_at db k.table) c same ready.0 (subst (HasNew k) here ready.1) cut in
      subst (λ x. LacksNothing n (table_at (all_changed_by db cs) x)) (sym same.0) (subst (LacksNothing n) (sym (changed_at db cs is k.table c at)) now)

module _ (db : Db) (cs : List Changes) (k : RowIndex) where
  pub none-ready : slice_get cs k.table ≡ None → IsIndexOf db k → IsReady db cs k
  none-ready at kept =
      let none : changes_at cs k.table ≡ finite.empty = ap (λ o. unwrap_or o finite.empty) at in
      (kept, λ u d there. absurd (none-some d (sym (get-empty uuid_cmp u) ∙ ap (λ m. finite.get m u) (sym none) ∙ there)))

  pub none-settled : IsChangeOf db cs → slice_get cs k.table ≡ None → IsReady db cs k → IsIndexOf (all_changed_by db cs) k
  none-settled is at ready = subst (LacksNothing k) (sym (changed_past db cs is k.table at)) ready.0

-- ---- each of a list

module _ {X : Type 0} (P : X → Type 0) where
  pub all-at : (xs : List X) (i : ℕ) (x : X) → i < length xs → x ≡ get_or xs i x → AllByRecursion P xs → P x
  all-at [] i x low at h = absurd (omega (arith, low))
  all-at (y ∷ xs) zero x low at h = subst P (sym at) h.0
  all-at (y ∷ xs) (suc i) x low at h = all-at xs i x (omega (arith, low)) at h.1

  pub all-set : (xs : List X) (i : ℕ) (x : X) → P x → AllByRecursion P xs → AllByRecursion P (slice_set xs i x)
  all-set [] i x p h = tt
  all-set (y ∷ xs) zero x p h = (p, h.1)
  all-set (y ∷ xs) (suc i) x p h = (h.0, all-set xs i x p h.1)

-- ---- where no table has a row

none_at : (n t : ℕ) → table_at (replicate n finite.empty) t ≡ finite.empty
none_at zero t = refl
none_at (suc n) zero = refl
none_at (suc n) (suc t) = none_at n t

pub no-rows-kept : (n : ℕ) (ks : List RowIndex) → AreForNoRows ks → AreIndexesOf (replicate n finite.empty) ks
no-rows-kept n [] h = tt
no-rows-kept n (k ∷ ks) h = (subst (LacksNothing k) (sym (none_at n k.table)) h.0, no-rows-kept n ks h.1)

pub all-push : {X : Type 0} (P : X → Type 0) (xs : List X) (x : X) → AllByRecursion P xs → P x → AllByRecursion P (xs ++ x ∷ [])
all-push P [] x h p = (p, tt)
all-push P (y ∷ xs) x h p = (h.0, all-push P xs x h.1 p)
