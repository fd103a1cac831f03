-- Entries that lie in two parts, one after the other: what is found in them, and by what they differ from others.
use Rattle.std.specs.Prelude.{◌≡◌, ℕ, zero, suc, true, false, cond, T, List, [], ◌∷◌, ◌++◌, Vec, drop, map, take, Some}
use mathlib.Core.Path.{refl, sym, ap, subst, ◌∙◌}
use mathlib.Core.Bool.{true≢false}
use Rattle.std.proofs.lemmas.List.{append_assoc, take-append-drop}
use Rattle.std.specs.Arc.{arc_value}
use Rattle.std.specs.declared.cmp.Ordering.TheVariants.{Less, Equal, Greater}
use Rattle.std.specs.declared.sync.Arc.{Arc}
use Rattle.std.specs.Ordering.{eq_by_cmp, is_eq, is_lt}
use Rattle.std.specs.FinMap.Entries.{below_all}
use Rattle.odb_atoms.specs.Atom.{Atom, atom_cmp}
use Rattle.odb_atoms.specs.Represented.AtomOrder.{atom_cmp_total}
use Rattle.odb_atoms.specs.Represented.Entry.{Entry, IsRising, entry_at, is_after}
use Rattle.odb_atoms.proofs.Rising.{before_all, both, find-below, first, is_less, less, second}
use Rattle.odb_chunks.specs.Represented.Chunks.{AreFilled, items_in}

-- ---- parts that rise

below_front : (k : Atom) (xs ys : List Entry) → T (below_all atom_cmp k (xs ++ ys)) → T (below_all atom_cmp k xs)
below_front k [] ys h = tt
below_front k (x ∷ xs) ys h = both _ _ (first _ _ h) (below_front k xs ys (second _ _ h))

pub rising_front : (xs ys : List Entry) → IsRising (xs ++ ys) → IsRising xs
rising_front [] ys up = tt
rising_front (x ∷ xs) ys up = both _ _ (below_front x.0 xs ys (first _ _ up)) (rising_front xs ys (second _ _ up))

pub rising_back : (xs ys : List Entry) → IsRising (xs ++ ys) → IsRising ys
rising_back [] ys up = up
rising_back (x ∷ xs) ys up = rising_back xs ys (second _ _ up)

-- ---- what is found

-- a key that is less than the first one's is below all of them
below_after : (k : Atom) (es : List Entry) → IsRising es → is_after es k ≡ true → T (below_all atom_cmp k es)
below_after k [] up after = tt
below_after k (e ∷ es) up after =
    let before : atom_cmp k e.0 ≡ Less = less _ (subst T (sym after) tt) in
    both _ _ (is_less before) (before_all atom_cmp_total k e.0 es before (first _ _ up))

pub entry_at-low : (k : Atom) (low high : List Entry) → IsRising (low ++ high) → is_after high k ≡ true → entry_at (low ++ high) k ≡ entry_at low k
entry_at-low k [] high up after = find-below atom_cmp_total k high (below_after k high up after)
entry_at-low k (e ∷ low) high up after = ap (cond (eq_by_cmp atom_cmp k e.0) (Some e.1)) (entry_at-low k low high (second _ _ up) after)

-- a key that isn't before the one isn't one that is before it
apart : (k e h : Atom) → atom_cmp e h ≡ Less → is_lt (atom_cmp k h) ≡ false → eq_by_cmp atom_cmp k e ≡ false
apart k e h before at =
    elim (atom_cmp k e) as (λ r. atom_cmp k e ≡ r → is_eq r ≡ false) [
      | Less ↦ λ is. refl
      | Equal ↦ λ is. absurd (true≢false (sym (ap is_lt (atom_cmp_total.congr k e h is ∙ before)) ∙ at))
      | Greater ↦ λ is. refl
    ] refl

below_in : (k : Atom) (low : List Entry) (h : Entry) (high : List Entry) → T (below_all atom_cmp k (low ++ h ∷ high)) → atom_cmp k h.0 ≡ Less
below_in k [] h high below = less _ (first _ _ below)
below_in k (l ∷ low) h high below = below_in k low h high (second _ _ below)

pub entry_at-high : (k : Atom) (low high : List Entry) → IsRising (low ++ high) → is_after high k ≡ false → entry_at (low ++ high) k ≡ entry_at high k
entry_at-high k low [] up at = absurd (true≢false at)
entry_at-high k [] (h ∷ high) up at = refl
entry_at-high k (e ∷ low) (h ∷ high) up at =
    ap (λ b. cond b (Some e.1) (entry_at (low ++ h ∷ high) k)) (apart k e.0 h.0 (below_in e.0 low h high (first _ _ up)) at)
    ∙ entry_at-high k low (h ∷ high) (second _ _ up) at

-- ---- what lies in parts of the chunks

pub map-append : {X : Type 0} (f : X → Entry) (xs ys : List X) → map f (xs ++ ys) ≡ map f xs ++ map f ys
map-append f [] ys = refl
map-append f (x ∷ xs) ys = ap (λ zs. f x ∷ zs) (map-append f xs ys)

module _ {X Y Z : Type 0} where
  items_in-append : (cs ds : List (Arc (Vec X Y) Z)) → items_in (cs ++ ds) ≡ items_in cs ++ items_in ds
  items_in-append [] ds = refl
  items_in-append (c ∷ cs) ds = ap (λ xs. (arc_value c).items ++ xs) (items_in-append cs ds) ∙ sym (append_assoc (arc_value c).items (items_in cs) (items_in ds))

  pub filled_take : (n : ℕ) (cs : List (Arc (Vec X Y) Z)) → AreFilled cs → AreFilled (take n cs)
  filled_take zero cs all = tt
  filled_take (suc n) [] all = tt
  filled_take (suc n) (c ∷ cs) all = (all.0, filled_take n cs all.1)

  pub filled_drop : (n : ℕ) (cs : List (Arc (Vec X Y) Z)) → AreFilled cs → AreFilled (drop n cs)
  filled_drop zero cs all = all
  filled_drop (suc n) [] all = tt
  filled_drop (suc n) (c ∷ cs) all = filled_drop n cs all.1

  pub parted : (f : X → Entry) (n : ℕ) (cs : List (Arc (Vec X Y) Z)) → map f (items_in cs) ≡ map f (items_in (take n cs)) ++ map f (items_in (drop n cs))
  parted f n cs = ap (λ ds. map f (items_in ds)) (sym (take-append-drop n cs)) ∙ ap (map f) (items_in-append (take n cs) (drop n cs)) ∙ map-append f (items_in (take n cs)) (items_in (drop n cs))

  module _ (f : X → Entry) (k : Atom) (n : ℕ) (cs lows highs : List (Arc (Vec X Y) Z)) (is_low : lows ≡ take n cs) (is_high : highs ≡ drop n cs) (up : IsRising (map f (items_in cs))) where
    rising : IsRising (map f (items_in (take n cs)) ++ map f (items_in (drop n cs)))
    rising = subst IsRising (parted f n cs) up

    pub rising_low : IsRising (map f (items_in lows))
    rising_low = subst (λ ds. IsRising (map f (items_in ds))) (sym is_low) (rising_front (map f (items_in (take n cs))) (map f (items_in (drop n cs))) rising)

    pub rising_high : IsRising (map f (items_in highs))
    rising_high = subst (λ ds. IsRising (map f (items_in ds))) (sym is_high) (rising_back (map f (items_in (take n cs))) (map f (items_in (drop n cs))) rising)

    pub found_low : true ≡ is_after (map f (items_in highs)) k → entry_at (map f (items_in lows)) k ≡ entry_at (map f (items_in cs)) k
    found_low after =
        let here = subst (λ ds. is_after (map f (items_in ds)) k ≡ true) is_high (sym after) in
        subst (λ ds. entry_at (map f (items_in ds)) k ≡ entry_at (map f (items_in cs)) k) (sym is_low)
        (sym (ap (λ es. entry_at es k) (parted f n cs) ∙ entry_at-low k (map f (items_in (take n cs))) (map f (items_in (drop n cs))) rising here))

    pub found_high : false ≡ is_after (map f (items_in highs)) k → entry_at (map f (items_in highs)) k ≡ entry_at (map f (items_in cs)) k
    found_high at =
        let here = subst (λ ds. is_after (map f (items_in ds)) k ≡ false) is_high (sym at) in
        subst (λ ds. entry_at (map f (items_in ds)) k ≡ entry_at (map f (items_in cs)) k) (sym is_high)
        (sym (ap (λ es. entry_at es k) (parted f n cs) ∙ entry_at-high k (map f (items_in (take n cs))) (map f (items_in (drop n cs))) rising here))

-- where a slice stands before them
module _ {X : Type 0} (f : X → Entry) (whole front later : List X) (is : whole ≡ front ++ later) (up : IsRising (map f whole)) where
  there : map f whole ≡ map f front ++ map f later
  there = ap (map f) is ∙ map-append f front later

  pub rising_slice : IsRising (map f front)
  rising_slice = rising_front (map f front) (map f later) (subst IsRising there up)

  pub rising_later : IsRising (map f later)
  rising_later = rising_back (map f front) (map f later) (subst IsRising there up)

  pub found_in_slice : (k : Atom) → true ≡ is_after (map f later) k → entry_at (map f front) k ≡ entry_at (map f whole) k
  found_in_slice k after = sym (ap (λ es. entry_at es k) there ∙ entry_at-low k (map f front) (map f later) (subst IsRising there up) (sym after))

  pub found_later : (k : Atom) → false ≡ is_after (map f later) k → entry_at (map f later) k ≡ entry_at (map f whole) k
  found_later k at = sym (ap (λ es. entry_at es k) there ∙ entry_at-high k (map f front) (map f later) (subst IsRising there up) (sym at))

-- what the first of a list is to the rest that is left once it is passed over
pub opened : {X : Type 0} (f : X → Entry) (xs : List X) (x : X) (rest : List X) → xs ≡ x ∷ drop 1 xs → rest ≡ drop 1 xs → map f xs ≡ f x ∷ map f rest
opened f xs x rest is left = ap (map f) is ∙ ap (λ ys. f x ∷ map f ys) (sym left)

-- the first chunk's items, and those of the others
pub opened_chunks : {X Y Z : Type 0} (cs : List (Arc (Vec X Y) Z)) (c : Arc (Vec X Y) Z) (rest : List (Arc (Vec X Y) Z)) → cs ≡ c ∷ rest → items_in cs ≡ (arc_value c).items ++ items_in rest
opened_chunks cs c rest is = ap items_in is
