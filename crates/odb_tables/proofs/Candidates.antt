-- Rows that are found by their tags: every row that passes is among the candidates, and each of these is tested.
use Rattle.std.proofs.Common.{◌≡◌, Bool, true, false, cond, not, ◌&&◌, ◌||◌, List, [], ◌∷◌, ◌++◌, filter, Option, Some, None, refl, sym, ap, ◌∙◌}
use mathlib.Core.Bool.{true≢false}
use Rattle.std.proofs.lemmas.Map.Keys.{IsDistinct-cons, IsDistinct-head, IsDistinct-tail}
use Rattle.std.specs.List.{AllByRecursion, IsDistinct, list_any}
use Rattle.std.specs.Ordering.{eq_by_cmp}
use Rattle.odb_atoms.specs.FinMap as finite
use Rattle.odb_atoms.specs.Row.{Row}
use Rattle.odb_atoms.specs.Uuid.{Uuid, uuid_cmp}
use Rattle.odb_atoms.proofs.Atoms.{uuid_cmp-IsAntisymmetric}
use Rattle.odb_atoms.proofs.FinMaps.{same_key}
use Rattle.odb_tables.specs.Database.{Table}
use Rattle.odb_tables.specs.Represented.Facet.{is_tag, is_tag_now}
use Rattle.odb_tables.specs.Represented.Found.{Appends, Lists, is_there, passing, untouched}
use Rattle.odb_tables.specs.Represented.RowIndex.{LacksNothing, Suffices}
use Rattle.odb_tables.specs.Represented.Overlay.{Touched, passes_now}
use Rattle.odb_tables.specs.Represented.Pairs.{has}
use Rattle.odb_tables.specs.declared.facet.Facet.{Facet}
use Rattle.odb_tables.specs.declared.row_index.RowIndex.{RowIndex}
use Rattle.odb_tables.proofs.Found.{matches-untouched}

-- ---- what stands under a tag that each row has which passes

tag_there : (f : Facet) (p : Uuid → Row → Bool) (tag u : Uuid) → ((v : Uuid) (s : Row) → p v s ≡ true → is_tag f tag s ≡ true) → (o : Option Row) → passes_now p u o ≡ true → is_tag_now f tag o ≡ true
tag_there f p tag u gives None e = absurd (true≢false (sym e))
tag_there f p tag u gives (Some r) e = gives u r e

pub under-Suffices : (k : RowIndex) (p : Uuid → Row → Bool) (tag : Uuid) (keys : List Uuid) → ((v : Uuid) (s : Row) → p v s ≡ true → is_tag k.facet tag s ≡ true)
    → ((u : Uuid) → has k.pairs tag u ≡ true → list_any (eq_by_cmp uuid_cmp u) keys ≡ true) → IsDistinct (eq_by_cmp uuid_cmp) keys → (t : Table) → LacksNothing k t → Suffices keys p t
under-Suffices k p tag keys gives all distinct t lacks = (distinct, λ u e. all u (lacks u tag (tag_there k.facet p tag u gives (finite.get t u) e)))

-- ---- those of the candidates that are there

all_filter : (test : Uuid → Bool) (P : Uuid → Type 0) (us : List Uuid) → AllByRecursion P us → AllByRecursion P (filter test us)
all_filter test P [] h = tt
all_filter test P (u ∷ us) h = by (test u) (all_filter test P us h.1)
  where
    by : (b : Bool) → AllByRecursion P (filter test us) → AllByRecursion P (cond b (u ∷ filter test us) (filter test us))
    by true r = (h.0, r)
    by false r = r

pub distinct_filter : (test : Uuid → Bool) (us : List Uuid) → IsDistinct (eq_by_cmp uuid_cmp) us → IsDistinct (eq_by_cmp uuid_cmp) (filter test us)
unfolding IsDistinct
distinct_filter test [] h = tt
distinct_filter test (u ∷ us) h = by (test u) (distinct_filter test us (IsDistinct-tail (eq_by_cmp uuid_cmp) u us h))
  where
    by : (b : Bool) → IsDistinct (eq_by_cmp uuid_cmp) (filter test us) → IsDistinct (eq_by_cmp uuid_cmp) (cond b (u ∷ filter test us) (filter test us))
    by true r = IsDistinct-cons (eq_by_cmp uuid_cmp) u (filter test us) (all_filter test _ us (IsDistinct-head (eq_by_cmp uuid_cmp) u us h)) r
    by false r = r

pub any_filter : (test : Uuid → Bool) (q : Uuid) (us : List Uuid) → list_any (eq_by_cmp uuid_cmp q) (filter test us) ≡ (list_any (eq_by_cmp uuid_cmp q) us && test q)
any_filter test q [] = refl
any_filter test q (u ∷ us) = by (test u) refl (eq_by_cmp uuid_cmp q u) refl (any_filter test q us)
  where
    here : eq_by_cmp uuid_cmp q u ≡ true → test q ≡ test u
    here is = ap test (same_key uuid_cmp-IsAntisymmetric q u is)

    and_false : (b : Bool) → (b && false) ≡ false
    and_false true = refl
    and_false false = refl

    by : (b : Bool) → test u ≡ b → (a : Bool) → eq_by_cmp uuid_cmp q u ≡ a → list_any (eq_by_cmp uuid_cmp q) (filter test us) ≡ (list_any (eq_by_cmp uuid_cmp q) us && test q)
        → list_any (eq_by_cmp uuid_cmp q) (cond b (u ∷ filter test us) (filter test us)) ≡ ((a || list_any (eq_by_cmp uuid_cmp q) us) && test q)
    by true t true is rest = ap (λ c. c || list_any (eq_by_cmp uuid_cmp q) (filter test us)) is ∙ sym t ∙ sym (here is)
    by true t false is rest = ap (λ c. c || list_any (eq_by_cmp uuid_cmp q) (filter test us)) is ∙ rest
    by false t true is rest = rest ∙ ap (λ c. list_any (eq_by_cmp uuid_cmp q) us && c) (here is ∙ t) ∙ and_false (list_any (eq_by_cmp uuid_cmp q) us) ∙ sym t ∙ sym (here is)
    by false t false is rest = rest

and_so : (a b : Bool) → (b ≡ true → a ≡ true) → (a && b) ≡ b
and_so true b h = refl
and_so false true h = h refl
and_so false false h = refl

first_so : (a b : Bool) → (a && b) ≡ true → a ≡ true
first_so true b e = refl
first_so false b e = absurd (true≢false (sym e))

pub among-Lists : (p : Uuid → Row → Bool) (o : Touched) (t : Table) (keys : List Uuid) → Suffices keys p t → Lists (filter (is_there p o t) keys) (passing p (untouched o t))
among-Lists p o t keys h = (
  distinct_filter (is_there p o t) keys h.0,
  λ q. any_filter (is_there p o t) q keys
      ∙ and_so (list_any (eq_by_cmp uuid_cmp q) keys) (is_there p o t q) (λ e. h.1 q (first_so (passes_now p q (finite.get t q)) (not (finite.contains_key o q)) e))
      ∙ sym (matches-untouched p o t q),
)

pub among-Appends : (p : Uuid → Row → Bool) (o : Touched) (t : Table) (keys old new : List Uuid) → Suffices keys p t → new ≡ old ++ filter (is_there p o t) keys → Appends old new (passing p (untouched o t))
among-Appends p o t keys old new h e = (filter (is_there p o t) keys, e, among-Lists p o t keys h)
