-- Those of a set for which nothing is held back, in the order of the set, are those of the ones for which nothing is held back that the set has.
use Rattle.std.proofs.Common.{◌≡◌, ℕ, ◌==◌, Bool, true, false, cond, ◌&&◌, ◌||◌, T, List, [], ◌∷◌, ◌++◌, map, filter, Option, Some, None, is_some, refl, sym, ap, subst, ◌∙◌}
use Rattle.std.specs.declared.cmp.Ordering.TheVariants.{Less}
use Rattle.std.specs.BTreeSet.{BTreeSet, IsOrdered, contains}
use Rattle.std.specs.Cmp.{nat_cmp_total}
use Rattle.std.specs.FinMap.{nat_cmp-IsAntisymmetric}
use Rattle.std.specs.FinMap.Entries.{below_all, find, is_some-find, is_sorted, same_entries}
use Rattle.std.specs.List.{AllByRecursion, list_any}
use Rattle.std.specs.List.Sorted.{IsStrictlySortedBy}
use Rattle.std.specs.Ordering.{eq_by_cmp, is_lt, nat_cmp}
use Rattle.std.proofs.lemmas.List.Kept.{IsStrictlySortedBy-filter}
use borrow.Author.Tests.{eq-eqb}
use Rattle.odb_atoms.specs.FinMap.{get}
use Rattle.odb_service.proofs.SessionMaps.{other, same_key}
use Rattle.odb_hub.specs.Guarded.{is_in}
use Rattle.odb_hub.specs.Rings.{Rings, free_of, is_free_at}
use Rattle.odb_hub.proofs.Free.{listed, rising}

-- ---- rising lists with the same members are equal

abbrev bare : ℕ → ℕ × Unit {0}
bare n = (n, tt)

both : (a b : Bool) → T a → T b → T (a && b)
both true b x y = y
both false b x y = x

below-bare : (x : ℕ) (ns : List ℕ) → AllByRecursion (λ n. nat_cmp x n ≡ Less) ns → T (below_all nat_cmp x (map bare ns))
below-bare x [] h = tt
below-bare x (n ∷ ns) h = both _ _ (subst (λ r. T (is_lt r)) (sym h.0) tt) (below-bare x ns h.1)

sorted-bare : (ns : List ℕ) → IsStrictlySortedBy nat_cmp ns → T (is_sorted nat_cmp (map bare ns))
unfolding IsStrictlySortedBy
sorted-bare [] h = tt
sorted-bare (n ∷ ns) h = both _ _ (below-bare n ns h.0) (sorted-bare ns h.1)

keys-bare : (ns : List ℕ) → map (λ e. e.0) (map bare ns) ≡ ns
keys-bare [] = refl
keys-bare (n ∷ ns) = ap (λ ms. n ∷ ms) (keys-bare ns)

same_unit : (o p : Option (Unit {0})) → is_some o ≡ is_some p → o ≡ p
same_unit None None e = refl
same_unit None (Some y) e = absurd (subst T (sym e) tt)
same_unit (Some x) None e = absurd (subst T e tt)
same_unit (Some x) (Some y) e = refl

found-bare : (q : ℕ) (ns : List ℕ) → is_some (find nat_cmp q (map bare ns)) ≡ list_any (eq_by_cmp nat_cmp q) ns
found-bare q ns = is_some-find nat_cmp q (map bare ns) ∙ ap (list_any (eq_by_cmp nat_cmp q)) (keys-bare ns)

same_rising : (ms ns : List ℕ) → IsStrictlySortedBy nat_cmp ms → IsStrictlySortedBy nat_cmp ns → ((q : ℕ) → list_any (eq_by_cmp nat_cmp q) ms ≡ list_any (eq_by_cmp nat_cmp q) ns) → ms ≡ ns
same_rising ms ns g h is =
    sym (keys-bare ms)
    ∙ ap (map (λ e. e.0)) (same_entries nat_cmp nat_cmp_total nat_cmp-IsAntisymmetric (map bare ms) (map bare ns) (sorted-bare ms g) (sorted-bare ns h) (λ q. same_unit _ _ (found-bare q ms ∙ is q ∙ sym (found-bare q ns))))
    ∙ keys-bare ns

-- ---- who is in a list

no_both : (b : Bool) → false ≡ (b && false)
no_both true = refl
no_both false = refl

yes_both : (b : Bool) → b ≡ (b && true)
yes_both true = refl
yes_both false = refl

turned : (a b : Bool) → (a && b) ≡ (b && a)
turned true b = yes_both b
turned false b = no_both b

any-filter : (p : ℕ → Bool) (q : ℕ) (ns : List ℕ) → list_any (eq_by_cmp nat_cmp q) (filter p ns) ≡ (p q && list_any (eq_by_cmp nat_cmp q) ns)
any-filter p q [] = no_both (p q)
any-filter p q (n ∷ ns) = at (any-filter p q ns) (p n) refl
  where
    here : Bool
    here = eq_by_cmp nat_cmp q n

    there : Bool
    there = list_any (eq_by_cmp nat_cmp q) ns

    kept_here : (b : Bool) → here ≡ b → p n ≡ true → (b || (p q && there)) ≡ (p q && (b || there))
    kept_here true e is = yes_both true ∙ ap (λ b. b && true) (sym (ap p (same_key q n e) ∙ is))
    kept_here false e is = refl

    left_out : (b : Bool) → here ≡ b → p n ≡ false → (p q && there) ≡ (p q && (b || there))
    left_out true e is =
        let no : p q ≡ false = ap p (same_key q n e) ∙ is in
        ap (λ b. b && there) no ∙ ap (λ b. b && true) (sym no)
    left_out false e is = refl

    at : list_any (eq_by_cmp nat_cmp q) (filter p ns) ≡ (p q && there) → (b : Bool) → p n ≡ b → list_any (eq_by_cmp nat_cmp q) (cond b (n ∷ filter p ns) (filter p ns)) ≡ (p q && (here || there))
    at h true e = ap (λ r. here || r) h ∙ kept_here here refl e
    at h false e = h ∙ left_out here refl e

same_test : (q x : ℕ) → eq_by_cmp nat_cmp q x ≡ (x == q)
same_test q x = by (eq_by_cmp nat_cmp q x) refl
  where
    by : (b : Bool) → eq_by_cmp nat_cmp q x ≡ b → b ≡ (x == q)
    by true e = sym (eq-eqb x q (sym (same_key q x e)))
    by false e = sym (other q x e)

any_is_in : (q : ℕ) (xs : List ℕ) → list_any (eq_by_cmp nat_cmp q) xs ≡ is_in q xs
any_is_in q [] = refl
any_is_in q (x ∷ xs) = λ i. same_test q x i || any_is_in q xs i

-- ---- the two lists

pub free_among : (m : Rings) (owed : BTreeSet ℕ) → IsOrdered nat_cmp owed → filter (λ q. is_free_at (get m q)) owed.keys ≡ filter (contains nat_cmp owed) (free_of m)
free_among m owed up =
    same_rising _ _
    (IsStrictlySortedBy-filter nat_cmp (λ q. is_free_at (get m q)) owed.keys up)
    (IsStrictlySortedBy-filter nat_cmp (contains nat_cmp owed) (free_of m) (rising m))
    (λ q. any-filter (λ q. is_free_at (get m q)) q owed.keys
    ∙ turned (is_free_at (get m q)) (contains nat_cmp owed q)
    ∙ ap (λ b. contains nat_cmp owed q && b) (sym (listed m q) ∙ sym (any_is_in q (free_of m)))
    ∙ sym (any-filter (contains nat_cmp owed) q (free_of m)))

-- ---- a list that grows

pub filter-more : (p : ℕ → Bool) (xs : List ℕ) (x : ℕ) → filter p (xs ++ x ∷ []) ≡ filter p xs ++ cond (p x) (x ∷ []) []
filter-more p [] x = refl
filter-more p (y ∷ ys) x = by (p y) (filter-more p ys x)
  where
    by : (b : Bool) → filter p (ys ++ x ∷ []) ≡ filter p ys ++ cond (p x) (x ∷ []) []
        → cond b (y ∷ filter p (ys ++ x ∷ [])) (filter p (ys ++ x ∷ [])) ≡ cond b (y ∷ filter p ys) (filter p ys) ++ cond (p x) (x ∷ []) []
    by true h = ap (λ zs. y ∷ zs) h
    by false h = h
