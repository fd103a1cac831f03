-- What a binary search finds in a list whose names ascend: the place of the name.
use Rattle.std.specs.Prelude.{◌≡◌, ℕ, zero, suc, ◌<◌, true, false, cond, T, List, [], ◌∷◌, length, map, get_or, nat_lt, position, Some, None}
use mathlib.Core.Path.{refl, sym, ap, subst, ◌∙◌}
use Rattle.std.proofs.Common.{arith, ⊎_elim}
use Rattle.std.proofs.lemmas.Bool.{cases_lt}
use Rattle.std.proofs.lemmas.Bool.Decides.{nat_tests}
use Rattle.std.proofs.lemmas.Cmp.{same_from_slice_cmp}
use Rattle.std.proofs.lemmas.List.Sums.{position_or_len_is}
use Rattle.std.proofs.lemmas.Slice.Eq.{bytes_eq-Decides}
use Rattle.std.specs.declared.cmp.Ordering.{Ordering}
use Rattle.std.specs.declared.cmp.Ordering.TheVariants.{Less, Equal, Greater}
use Rattle.std.specs.Ordering.{MatchOrdering, is_eq, nat_cmp, ordering_index}
use Rattle.std.specs.Cmp.Lexicographic.{nat_list_cmp_total}
use Rattle.std.specs.List.{HoldsAt}
use Rattle.std.specs.FinMap.Entries.{below_all}
use Rattle.std.specs.List.Sorted.{IsNonDecreasingBy, IsPartitionPoint}
use Rattle.odb_atoms.proofs.Rising.{first, second, less, searchable}
use Rattle.odb_atoms.specs.Text.{same_text, text_cmp}
use Rattle.odb_schema.specs.Represented.Names.{Ascends, named}

heads : (x y : ℕ) (xs ys : List ℕ) (o : Ordering) → o ≡ nat_cmp x y → MatchOrdering o (same_text (x ∷ xs) (y ∷ ys) ≡ false) (same_text (x ∷ xs) (y ∷ ys) ≡ same_text xs ys) (same_text (x ∷ xs) (y ∷ ys) ≡ false)
heads x y xs ys o e = grind (arith, nat_tests)

-- texts are the same where neither is before the other
pub same_by_order : (s t : List ℕ) → is_eq (text_cmp s t) ≡ same_text s t
same_by_order s t = same_from_slice_cmp nat_cmp is_eq same_text refl (λ _ _. refl) (λ _ _. refl) heads s t (text_cmp s t) refl

pub same_if_equal : (s t : List ℕ) → text_cmp s t ≡ Equal → same_text s t ≡ true
same_if_equal s t e = sym (same_by_order s t) ∙ ap is_eq e

differ_if_less : (s t : List ℕ) → text_cmp s t ≡ Less → same_text s t ≡ false
differ_if_less s t e = sym (same_by_order s t) ∙ ap is_eq e

differ_if_greater : (s t : List ℕ) → text_cmp s t ≡ Greater → same_text s t ≡ false
differ_if_greater s t e = sym (same_by_order s t) ∙ ap is_eq e

the_place : (i j n : ℕ) → i ≡ j → j < n → cond (nat_lt i n) (Some i) None ≡ Some j
the_place i j n e h = grind (arith, nat_tests)

no_place : (i n : ℕ) → i ≡ n → cond (nat_lt i n) (Some i) None ≡ None
no_place i n e = grind (arith, nat_tests)

module _ {A : Type 0} (name : A → List ℕ) where
  after_first : (k : List ℕ) (xs : List A) (i : ℕ) (d : A) → T (below_all text_cmp k (map (named name) xs)) → i < length xs → text_cmp k (name (get_or xs i d)) ≡ Less
  after_first k [] i d h low = absurd (omega arith)
  after_first k (x ∷ xs) zero d h low = less _ (first _ _ h)
  after_first k (x ∷ xs) (suc i) d h low = after_first k xs i d (second _ _ h) (omega arith)

  -- an element in front of another has a lower name
  in_front : (xs : List A) (k i : ℕ) (d : A) → Ascends name xs → k < i → i < length xs → text_cmp (name (get_or xs k d)) (name (get_or xs i d)) ≡ Less
  in_front [] k i d up front low = absurd (omega arith)
  in_front (x ∷ xs) k zero d up front low = absurd (omega arith)
  in_front (x ∷ xs) zero (suc i) d up front low = after_first (name x) xs i d (first _ _ up) (omega arith)
  in_front (x ∷ xs) (suc k) (suc i) d up front low = in_front xs k i d (second _ _ up) (omega arith) (omega arith)

  found : (q : List ℕ) (xs : List A) (i : ℕ) (d : A) → Ascends name xs → i < length xs → text_cmp (name (get_or xs i d)) q ≡ Equal → position (λ x. same_text (name x) q) xs ≡ Some i
  found q xs i d up low at =
      let same = same_if_equal (name (get_or xs i d)) q at in
      let is : name (get_or xs i d) ≡ q = (bytes_eq-Decides (name (get_or xs i d)) q).0 same in
      let before : (k : ℕ) → k < i → same_text (name (get_or xs k d)) q ≡ false = λ k h. differ_if_less _ q (subst (λ t. text_cmp (name (get_or xs k d)) t ≡ Less) is (in_front xs k i d up h low)) in
      the_place _ i (length xs) (position_or_len_is (λ x. same_text (name x) q) xs i d (omega arith) before (λ _. same)) low

  -- the place that a binary search gives is the one of the name
  pub place_found : (q : List ℕ) (xs : List A) (i : ℕ) → Ascends name xs → i < length xs → HoldsAt (λ x. text_cmp (name x) q ≡ Equal) xs i → position (λ x. same_text (name x) q) xs ≡ Some i
  place_found q [] i up low at = absurd (omega arith)
  place_found q (x ∷ xs) i up low at = found q (x ∷ xs) i x up low (at x)

  missed : (q : List ℕ) (xs : List A) (i : ℕ) (d : A) → IsPartitionPoint (λ x. text_cmp (name x) q ≡ Less) (λ x. text_cmp (name x) q ≡ Greater) xs i → (k : ℕ) → k < length xs → same_text (name (get_or xs k d)) q ≡ false
  missed q xs i d apart k low = ⊎_elim (λ before. differ_if_less _ q (apart.0 k d (omega arith) before)) (λ after. differ_if_greater _ q (apart.1 k d after low)) (cases_lt k i)

  -- where a binary search gives no place, the name has none
  pub place_missed : (q : List ℕ) (xs : List A) (i : ℕ) → IsPartitionPoint (λ x. text_cmp (name x) q ≡ Less) (λ x. text_cmp (name x) q ≡ Greater) xs i → position (λ x. same_text (name x) q) xs ≡ None
  place_missed q [] i apart = refl
  place_missed q (x ∷ xs) i apart = no_place _ _ (position_or_len_is (λ y. same_text (name y) q) (x ∷ xs) (length (x ∷ xs)) x (omega arith) (missed q (x ∷ xs) i x apart) (λ h. absurd (omega arith)))

  -- what a binary search asks
  pub can_search : (q : List ℕ) (xs : List A) → Ascends name xs → IsNonDecreasingBy (λ x. ordering_index (text_cmp (name x) q)) xs
  can_search q xs up = searchable nat_list_cmp_total (named name) q xs up

  -- the same of a list and the slice that is searched
  pub found_in : (q : List ℕ) (ys xs : List A) (i : ℕ) → ys ≡ xs → Ascends name xs → i < length ys → HoldsAt (λ x. text_cmp (name x) q ≡ Equal) ys i → position (λ x. same_text (name x) q) xs ≡ Some i
  found_in q ys xs i is up low at = ap (position (λ x. same_text (name x) q)) (sym is) ∙ place_found q ys i (subst (Ascends name) (sym is) up) low at

  pub missed_in : (q : List ℕ) (ys xs : List A) (i : ℕ) → ys ≡ xs → Ascends name xs → (IsNonDecreasingBy (λ x. ordering_index (text_cmp (name x) q)) ys → IsPartitionPoint (λ x. text_cmp (name x) q ≡ Less) (λ x. text_cmp (name x) q ≡ Greater) ys i) → position (λ x. same_text (name x) q) xs ≡ None
  missed_in q ys xs i is up apart = ap (position (λ x. same_text (name x) q)) (sym is) ∙ place_missed q ys i (apart (can_search q ys (subst (Ascends name) (sym is) up)))
