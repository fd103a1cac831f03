-- Sets of sessions that grow in loops.
use Rattle.std.specs.Prelude.{◌≡◌, ℕ, ◌+◌, ◌<◌, Bool, true, false, ◌||◌, ◌==◌, List, [], ◌∷◌, ◌++◌, length, take, Option, Some}
use mathlib.Core.Path.{refl, sym, ap, ◌∙◌}
use Rattle.std.proofs.Common.{get_or}
use Rattle.std.proofs.lemmas.List.Folds.{list_any-append, list_any_more}
use Rattle.std.proofs.lemmas.List.Elements.{recursion_from_All}
use Rattle.std.proofs.lemmas.Map.Views.{All-found}
use Rattle.std.specs.BTreeMap.{BTreeMap, IsOrdered, get, is_at}
use Rattle.std.specs.BTreeSet as sorted
use Rattle.std.specs.BTreeSet.{BTreeSet, contains}
use Rattle.std.specs.Cmp.{nat_cmp_total}
use Rattle.std.specs.List.{AllByRecursion, list_any}
use Rattle.std.specs.Map.{keys_of}
use Rattle.std.specs.Ordering.{nat_cmp}
use Rattle.odb_interest.specs.Represented.Found.{Grows}
use Rattle.odb_interest.specs.Represented.Key.{held}
use Rattle.odb_interest.proofs.Booleans.{grouped, or_false, put_in, turned}
use Rattle.odb_interest.proofs.Levels.{is_eq-nat_cmp, none_in, set_now}

-- nothing was added
pub nothing : (old : BTreeSet ℕ) (p : ℕ → Bool) → ((s : ℕ) → p s ≡ false) → Grows old old p
nothing old p none s = or_false (contains nat_cmp old s) ∙ ap (λ b. contains nat_cmp old s || b) (sym (none s))

-- one after the other
pub twice : (old now new : BTreeSet ℕ) (p q : ℕ → Bool) → Grows old now p → Grows now new q → Grows old new (λ s. p s || q s)
twice old now new p q first then' s = then' s ∙ ap (λ b. b || q s) (first s) ∙ grouped (contains nat_cmp old s) (p s) (q s)

pub same_test : (old new : BTreeSet ℕ) (p q : ℕ → Bool) → ((s : ℕ) → p s ≡ q s) → Grows old new p → Grows old new q
same_test old new p q is grows s = grows s ∙ ap (λ b. contains nat_cmp old s || b) (is s)

module _ {A : Type 0} (p : ℕ → A → Bool) where
  pub none_yet : (old : BTreeSet ℕ) → Grows old old (λ s. list_any (p s) [])
  none_yet old s = or_false (contains nat_cmp old s)

  -- the sessions of one item more
  pub one_more : (old now new : BTreeSet ℕ) (xs : List A) (i : ℕ) (a : A) → i < length xs → a ≡ get_or xs i a → Grows old now (λ s. list_any (p s) (take i xs)) → Grows now new (λ s. p s a) → Grows old new (λ s. list_any (p s) (take (i + 1) xs))
  one_more old now new xs i a inside is before more s =
      twice old now new (λ s. list_any (p s) (take i xs)) (λ s. p s a) before more s
      ∙ ap (λ b. contains nat_cmp old s || b) (sym (list_any_more (p s) xs i a inside ∙ ap (λ z. list_any (p s) (take i xs) || p s z) (sym is)))

  pub pushed : (old now new : BTreeSet ℕ) (xs : List A) (a : A) → Grows old now (λ s. list_any (p s) xs) → Grows now new (λ s. p s a) → Grows old new (λ s. list_any (p s) (xs ++ a ∷ []))
  pushed old now new xs a before more s =
      twice old now new (λ s. list_any (p s) xs) (λ s. p s a) before more s
      ∙ ap (λ b. contains nat_cmp old s || b) (ap (λ b. list_any (p s) xs || b) (or_false (p s a)) ∙ sym (list_any-append (p s) xs (a ∷ [])))

-- one session was put in
pub put : (now new : BTreeSet ℕ) (session : ℕ) → sorted.UpdatesBy nat_cmp (nat_cmp session) now new true → Grows now new (λ s. session == s)
put now new session h s = set_now session now new true h s ∙ put_in _ (contains nat_cmp now s)

-- ---- a map, entry by entry or key by key

by_keys : {V : Type 0} (es : List (ℕ × V)) (f : ℕ → Option V) (p : ℕ → V → Bool) → AllByRecursion (λ e. f e.0 ≡ Some e.1) es → list_any (λ e. p e.0 e.1) es ≡ list_any (λ i. held (p i) (f i)) (keys_of es)
by_keys [] f p h = refl
by_keys (e ∷ es) f p h = λ i. held (p e.0) (sym h.0 i) || by_keys es f p h.1 i

pub entries-keys : {V : Type 0} (m : BTreeMap ℕ V) (p : ℕ → V → Bool) → IsOrdered nat_cmp m → list_any (λ e. p e.0 e.1) m.entries ≡ list_any (λ i. held (p i) (get nat_cmp m i)) (keys_of m.entries)
entries-keys m p ordered = by_keys m.entries (get nat_cmp m) p (recursion_from_All (λ e. get nat_cmp m e.0 ≡ Some e.1) m.entries (All-found nat_cmp_total m ordered))

-- ---- what was found

in_keys : (session : ℕ) (ks : List ℕ) → list_any (λ s. s == session) ks ≡ list_any (is_at (nat_cmp session)) ks
in_keys session [] = refl
in_keys session (k ∷ ks) = λ i. (turned k session ∙ sym (is_eq-nat_cmp session k)) i || in_keys session ks i

pub session-keys : (found : BTreeSet ℕ) (session : ℕ) → list_any (λ s. s == session) found.keys ≡ contains nat_cmp found session
session-keys found session = in_keys session found.keys

pub found_in_empty : (empty found : BTreeSet ℕ) (p : ℕ → Bool) → empty.keys ≡ [] → Grows empty found p → (s : ℕ) → contains nat_cmp found s ≡ p s
found_in_empty empty found p none grows s = grows s ∙ ap (λ b. b || p s) (none_in empty none s)
