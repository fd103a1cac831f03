-- Each atom meets constraints that aren't there.
use Rattle.std.specs.Prelude.{◌≡◌, ℤ, pos, int_le, Bool, true, false, ◌&&◌, List, [], ◌∷◌, chars, length, is_none, Option, Some, None}
use mathlib.Core.Path.{refl, sym}
use mathlib.Core.Bool.{true≢false}
use Rattle.odb_atoms.specs.Atom.{Atom, boolean, integer, text, uuid}
use Rattle.odb_atoms.specs.ColType.{Base, at_least, at_most, in_bounds, in_enum, is_free, meets}
use Rattle.odb_atoms.specs.Value.{Atoms}
use Rattle.odb_atoms.specs.Represented.Value.{each_element, each_pair}
use Rattle.odb_atoms.specs.declared.atom.Atom as code

five : (a b c d e : Bool) → (a && b && c && d && e) ≡ true → (a ≡ true) × ((b ≡ true) × ((c ≡ true) × ((d ≡ true) × (e ≡ true))))
five true true true true true p = (refl, (refl, (refl, (refl, refl))))
five true true true true false p = absurd (true≢false (sym p))
five true true true false e p = absurd (true≢false (sym p))
five true true false d e p = absurd (true≢false (sym p))
five true false c d e p = absurd (true≢false (sym p))
five false b c d e p = absurd (true≢false (sym p))

unnamed : (o : Option Atoms) (a : Atom) → is_none o ≡ true → in_enum o a ≡ true
unnamed None a p = refl
unnamed (Some s) a p = absurd (true≢false (sym p))

unbounded : (low high : Option ℤ) (z : ℤ) → is_none low ≡ true → is_none high ≡ true → (at_least int_le low z && at_most int_le high z) ≡ true
unbounded None None z p q = refl
unbounded None (Some h) z p q = absurd (true≢false (sym q))
unbounded (Some l) high z p q = absurd (true≢false (sym p))

both_true : (a b : Bool) → a ≡ true → b ≡ true → (a && b) ≡ true
both_true a b p q = λ i. p i && q i

pub free_meets : (b : Base) → is_free b ≡ true → (a : Atom) → meets b a ≡ true
free_meets b free a =
    let all = five _ _ _ _ _ free in
    both_true _ _ (unnamed b.enum a all.0) (by a all)
  where
    by : (a : Atom) → (is_none b.enum ≡ true) × ((is_none b.min_integer ≡ true) × ((is_none b.max_integer ≡ true) × ((is_none b.min_length ≡ true) × (is_none b.max_length ≡ true)))) → in_bounds b a ≡ true
    by (integer z) all = unbounded b.min_integer b.max_integer z all.1.0 all.1.1.0
    by (boolean x) all = refl
    by (text s) all = unbounded b.min_length b.max_length (pos (length (chars s))) all.1.1.1.0 all.1.1.1.1
    by (uuid u) all = refl

pub all_free : (b : Base) (xs : List code.Atom) → is_free b ≡ true → true ≡ each_element (meets b) xs
all_free b xs free = sym (by xs)
  where
    by : (xs : List code.Atom) → each_element (meets b) xs ≡ true
    by [] = refl
    by (x ∷ xs) = both_true _ _ (free_meets b free _) (by xs)

pub all_pairs_free : (b c : Base) (xs : List (code.Atom × code.Atom)) → is_free b ≡ true → is_free c ≡ true → true ≡ each_pair (meets b) (meets c) xs
all_pairs_free b c xs free_b free_c = sym (by xs)
  where
    by : (xs : List (code.Atom × code.Atom)) → each_pair (meets b) (meets c) xs ≡ true
    by [] = refl
    by (x ∷ xs) = both_true _ _ (both_true _ _ (free_meets b free_b _) (free_meets c free_c _)) (by xs)
