-- Pairs in a set: what one more and one fewer change, and those that stand under a tag.
use Rattle.std.proofs.Common.{◌≡◌, ◌⊎◌, Bor, Bool, true, false, cond, not, ◌&&◌, ◌||◌, List, [], ◌∷◌, map, filter, refl, sym, ap, ◌∙◌}
use mathlib.Core.Bool.{true≢false}
use mathlib.Core.Logic.{inl, inr}
use Rattle.std.proofs.lemmas.Map.Keys.{IsDistinct-cons, sorted_head, sorted_tail}
use Rattle.std.specs.BTreeMap.{is_at}
use Rattle.std.specs.BTreeSet.{Updates, contains}
use Rattle.std.specs.List.{AllByRecursion, IsDistinct, list_any}
use Rattle.std.specs.List.Sorted.{IsStrictlySortedBy}
use Rattle.std.specs.Map.Iter.{deref}
use Rattle.std.specs.Ordering.{eq_by_cmp, is_eq, is_le, is_lt, ordering_then}
use Rattle.std.specs.Cmp.{tied_itself}
use Rattle.std.specs.declared.cmp.Ordering.{Ordering}
use Rattle.std.specs.declared.cmp.Ordering.TheVariants.{Less, Equal, Greater}
use Rattle.odb_atoms.specs.Uuid.{Uuid, uuid_cmp}
use Rattle.odb_atoms.proofs.Atoms.{uuid_cmp-IsAntisymmetric}
use Rattle.odb_tables.specs.Represented.Key.{uuid_cmp_total}
use Rattle.odb_tables.specs.Represented.Pairs.{Grows, Pairs, has, pair_cmp}

-- pairs that are tied are the same
tied : (p q : Uuid × Uuid) → is_eq (pair_cmp p q) ≡ true → p ≡ q
tied p q e = by (uuid_cmp p.0 q.0) refl (uuid_cmp p.1 q.1) refl e
  where
    by : (a : Ordering) → uuid_cmp p.0 q.0 ≡ a → (b : Ordering) → uuid_cmp p.1 q.1 ≡ b → is_eq (ordering_then a b) ≡ true → p ≡ q
    by Equal s Equal t h = λ i. (uuid_cmp-IsAntisymmetric p.0 q.0 s i, uuid_cmp-IsAntisymmetric p.1 q.1 t i)
    by Equal s Less t h = absurd (true≢false (sym h))
    by Equal s Greater t h = absurd (true≢false (sym h))
    by Less s b t h = absurd (true≢false (sym h))
    by Greater s b t h = absurd (true≢false (sym h))

itself : (p : Uuid × Uuid) → is_eq (pair_cmp p p) ≡ true
itself p = (λ i. is_eq (ordering_then (tied_itself uuid_cmp_total p.0 i) (tied_itself uuid_cmp_total p.1 i)))

-- ---- one more, one fewer

pub has-added : (old new : Pairs) (tag u : Uuid) → Updates pair_cmp old new (tag, u) true → has new tag u ≡ true
has-added old new tag u h = h.0 (tag, u) ∙ ap (λ b. cond b true (contains pair_cmp old (tag, u))) (itself (tag, u))

pub grown : (old new : Pairs) (p : Uuid × Uuid) → Updates pair_cmp old new p true → Grows old new
grown old new p h tag u e = h.0 (tag, u) ∙ by (is_eq (pair_cmp p (tag, u)))
  where
    by : (b : Bool) → cond b true (contains pair_cmp old (tag, u)) ≡ true
    by true = refl
    by false = e

pub same-Grows : (old new : Pairs) → new.keys ≡ old.keys → Grows old new
same-Grows old new h tag u e = ap (list_any (is_at (pair_cmp (tag, u)))) h ∙ e

pub removed : (old new : Pairs) (tag u : Uuid) → Updates pair_cmp old new (tag, u) false → (t v : Uuid) → has old t v ≡ true → (has new t v ≡ true) ⊎ ((t ≡ tag) × (v ≡ u))
removed old new tag u h t v e = by (is_eq (pair_cmp (tag, u) (t, v))) refl
  where
    by : (b : Bool) → is_eq (pair_cmp (tag, u) (t, v)) ≡ b → (has new t v ≡ true) ⊎ ((t ≡ tag) × (v ≡ u))
    by true is = let same = tied (tag, u) (t, v) is in inr (ap (λ (p : Uuid × Uuid). p.0) (sym same), ap (λ (p : Uuid × Uuid). p.1) (sym same))
    by false is = inl (h.0 (t, v) ∙ ap (λ b. cond b false (contains pair_cmp old (t, v))) is ∙ e)

-- ---- those that stand under a tag

module _ (least greatest : Uuid) (low : (u : Uuid) → is_le (uuid_cmp least u) ≡ true) (high : (u : Uuid) → is_lt (uuid_cmp greatest u) ≡ false) (tag : Uuid) where
  abbrev pub between : Uuid × Uuid → Bool
  between p = is_le (pair_cmp (tag, least) p) && not (is_lt (pair_cmp (tag, greatest) p))

  of_tag : (p : Uuid × Uuid) → between p ≡ true → tag ≡ p.0
  of_tag p h = by (uuid_cmp tag p.0) refl h
    where
      by : (r : Ordering) → uuid_cmp tag p.0 ≡ r → (is_le (ordering_then r (uuid_cmp least p.1)) && not (is_lt (ordering_then r (uuid_cmp greatest p.1)))) ≡ true → tag ≡ p.0
      by Equal s e = uuid_cmp-IsAntisymmetric tag p.0 s
      by Less s e = absurd (true≢false (sym e))
      by Greater s e = absurd (true≢false (sym e))

  of_pair : (u : Uuid) → between (tag, u) ≡ true
  of_pair u = (λ i. is_le (ordering_then (tied_itself uuid_cmp_total tag i) (uuid_cmp least u)) && not (is_lt (ordering_then (tied_itself uuid_cmp_total tag i) (uuid_cmp greatest u)))) ∙ (λ i. low u i && not (high u i))

  abbrev pub seconds : List (Uuid × Uuid) → List Uuid
  seconds ps = map (λ p. p.1) (filter between ps)

  pub all_under : (ps : List (Uuid × Uuid)) (u : Uuid) → list_any (is_at (pair_cmp (tag, u))) ps ≡ true → list_any (eq_by_cmp uuid_cmp u) (seconds ps) ≡ true
  all_under [] u h = absurd (true≢false (sym h))
  all_under (p ∷ ps) u h = by (between p) refl (is_eq (pair_cmp (tag, u) p)) refl h (all_under ps u)
    where
      here : is_eq (pair_cmp (tag, u) p) ≡ true → between p ≡ true
      here e = ap between (sym (tied (tag, u) p e)) ∙ of_pair u

      first : is_eq (pair_cmp (tag, u) p) ≡ true → eq_by_cmp uuid_cmp u p.1 ≡ true
      first e = ap (λ (q : Uuid × Uuid). is_eq (uuid_cmp u q.1)) (sym (tied (tag, u) p e)) ∙ ap is_eq (tied_itself uuid_cmp_total u)

      or_right : (a b : Bool) → b ≡ true → (a || b) ≡ true
      or_right true b e = refl
      or_right false b e = e

      by : (a : Bool) → between p ≡ a → (b : Bool) → is_eq (pair_cmp (tag, u) p) ≡ b → (b || list_any (is_at (pair_cmp (tag, u))) ps) ≡ true
          → (list_any (is_at (pair_cmp (tag, u))) ps ≡ true → list_any (eq_by_cmp uuid_cmp u) (seconds ps) ≡ true)
          → list_any (eq_by_cmp uuid_cmp u) (map (λ (q : Uuid × Uuid). q.1) (cond a (p ∷ filter between ps) (filter between ps))) ≡ true
      by true s true t e rest = ap (λ b. b || list_any (eq_by_cmp uuid_cmp u) (seconds ps)) (first t)
      by true s false t e rest = or_right (eq_by_cmp uuid_cmp u p.1) (list_any (eq_by_cmp uuid_cmp u) (seconds ps)) (rest e)
      by false s true t e rest = absurd (true≢false (sym (here t) ∙ s))
      by false s false t e rest = rest e

  apart : (p : Uuid × Uuid) (ps : List (Uuid × Uuid)) → between p ≡ true → AllByRecursion (λ q. pair_cmp p q ≡ Less) ps → AllByRecursion (λ v. eq_by_cmp uuid_cmp p.1 v ≡ false) (seconds ps)
  apart p [] s h = tt
  apart p (q ∷ ps) s h = by (between q) refl (apart p ps s h.1)
    where
      same_tag : between q ≡ true → p.0 ≡ q.0
      same_tag e = sym (of_tag p s) ∙ of_tag q e

      later : between q ≡ true → uuid_cmp p.1 q.1 ≡ Less
      later e = (λ i. ordering_then (sym (ap (λ x. uuid_cmp p.0 x) (sym (same_tag e)) ∙ tied_itself uuid_cmp_total p.0) i) (uuid_cmp p.1 q.1)) ∙ h.0

      by : (b : Bool) → between q ≡ b → AllByRecursion (λ v. eq_by_cmp uuid_cmp p.1 v ≡ false) (seconds ps) → AllByRecursion (λ v. eq_by_cmp uuid_cmp p.1 v ≡ false) (map (λ (x : Uuid × Uuid). x.1) (cond b (q ∷ filter between ps) (filter between ps)))
      by true e rest = (ap is_eq (later e), rest)
      by false e rest = rest

  pub distinct_under : (ps : List (Uuid × Uuid)) → IsStrictlySortedBy pair_cmp ps → IsDistinct (eq_by_cmp uuid_cmp) (seconds ps)
  unfolding IsDistinct
  distinct_under [] h = tt
  distinct_under (p ∷ ps) h = by (between p) refl (distinct_under ps (sorted_tail pair_cmp p ps h))
    where
      by : (b : Bool) → between p ≡ b → IsDistinct (eq_by_cmp uuid_cmp) (seconds ps) → IsDistinct (eq_by_cmp uuid_cmp) (map (λ (x : Uuid × Uuid). x.1) (cond b (p ∷ filter between ps) (filter between ps)))
      by true e rest = IsDistinct-cons (eq_by_cmp uuid_cmp) p.1 (seconds ps) (apart p ps e (sorted_head pair_cmp p ps h)) rest
      by false e rest = rest

-- the second of what is lent
pub second_of : (ps : List (Bor (Uuid × Uuid))) → map (λ (p : Bor (Uuid × Uuid)). p.now.1) ps ≡ map (λ (p : Uuid × Uuid). p.1) (map deref ps)
second_of [] = refl
second_of (p ∷ ps) = ap (λ us. p.now.1 ∷ us) (second_of ps)
