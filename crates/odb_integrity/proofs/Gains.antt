-- What a row refers to now, and didn't before, is among what it gained.
use Rattle.std.specs.Prelude.{◌≡◌, ◌⊎◌, ℕ, zero, suc, ◌+◌, Bool, true, false, cond, ◌&&◌, ◌||◌, ◌==◌, List, [], ◌∷◌, ◌++◌, filter, filter_map, flat_map, map as map_list, slice_get, zip, unwrap_or, Option, Some, None, option_map}
use Rattle.std.specs.List.{enumerate_from, list_any}
use denote.Ref.{Bor}
use mathlib.Core.Path.{refl, sym, ap, subst, ◌∙◌}
use mathlib.Core.Logic.{inl, inr}
use mathlib.Core.Bool.{xor, true≢false}
use Rattle.std.proofs.Common.{arith}
use Rattle.std.proofs.lemmas.List.Folds.{list_any-append}
use Rattle.std.proofs.lemmas.Option.{none-some, same_Some}
use Rattle.odb_atoms.proofs.Atoms.{atom_cmp-IsAntisymmetric}
use Rattle.odb_atoms.proofs.Equal.{entry_found, same_atom-itself}
use Rattle.odb_atoms.proofs.FinMaps.{get-combine, get-entries, same_key}
use Rattle.odb_atoms.proofs.FinSets.{contains-symmetric_difference}
use Rattle.odb_atoms.proofs.Lists.{Member, any_gives, both, gives_any}
use Rattle.odb_atoms.proofs.Values.{same_value-equal}
use Rattle.odb_atoms.specs.Atom.{Atom, same_atom, uuid}
use Rattle.odb_atoms.specs.ColType.{ColType, is_single, value_base}
use Rattle.odb_atoms.specs.Difference.{changed, changed_pair, changed_pairs, difference}
use Rattle.odb_atoms.specs.FinMap as map
use Rattle.odb_atoms.specs.FinSet as set
use Rattle.odb_atoms.specs.Represented.AtomOrder.{atom_cmp_total}
use Rattle.odb_atoms.specs.Represented.Value.{Lists, pair_of}
use Rattle.odb_atoms.specs.Row.{Row}
use Rattle.odb_atoms.specs.Value.{Atoms, Pairs, Value, is_atom, map_of, same_value, set_of}
use Rattle.odb_atoms.specs.declared.atom.Atom as declared
use Rattle.odb_atoms.specs.declared.value.Entries.TheVariants as entries
use Rattle.odb_schema.specs.Schema.{Column, Schema, columns_at}
use Rattle.odb_tables.specs.Database.{Db}
use Rattle.odb_integrity.specs.Gained.{gained, gained_at, gained_by_row, gained_by_value, gained_of_pair, gained_since, has_pair_of, has_strong, strong_of_change}
use Rattle.odb_integrity.specs.References.{is_strong, names}
use Rattle.odb_integrity.specs.Settlement.{RowId, referent, refers, row_of, same_row, strong_of_row, strong_of_value, strong_target}
use Rattle.odb_integrity.proofs.Ids.{any-filter}
use Rattle.odb_integrity.proofs.Named.{none_named}
use Rattle.odb_integrity.proofs.Prunings.{found_member, neither}
use Rattle.odb_integrity.proofs.Referring.{in_enumerated, map_has, place_in, set_has}
use Rattle.odb_integrity.proofs.Settles.{any-filter_map, any-flat_map}
use Rattle.odb_integrity.proofs.Targets.{no_strong, strong_none}

-- ---- tests

first_false : (a b : Bool) → (a && b) ≡ false → b ≡ true → a ≡ false
first_false true true e f = absurd (true≢false e)
first_false true false e f = absurd (true≢false (sym f))
first_false false b e f = refl

second_false : (a b : Bool) → (a && b) ≡ false → a ≡ true → b ≡ false
second_false true b e f = e
second_false false b e f = absurd (true≢false (sym f))

in_first : (a b : Bool) → xor a b ≡ false → b ≡ true → a ≡ true
unfolding xor
in_first true b e f = refl
in_first false true e f = absurd (true≢false e)
in_first false false e f = f

-- ---- pairs

pub had : (m : Pairs) (e : Atom × Atom) → has_pair_of (map_of m) e ≡ true → Member e m.entries
had m e = by (map.get m e.0) refl
  where
    by : (o : Option Atom) → map.get m e.0 ≡ o → is_atom o e.1 ≡ true → Member e m.entries
    by None is h = absurd (true≢false (sym h))
    by (Some a) is h = subst (λ b. Member (e.0, b) m.entries) (same_key atom_cmp-IsAntisymmetric a e.1 h) (found_member e.0 m.entries a (sym (get-entries m e.0) ∙ is))

pub has_it : (m : Pairs) (e : Atom × Atom) → Member e m.entries → has_pair_of (map_of m) e ≡ true
has_it m e at = ap (λ o. is_atom o e.1) (get-entries m e.0 ∙ entry_found m.entries m.sorted e at) ∙ same_atom-itself e.1

-- a pair of a map is in the difference that leads to it, or it was there before
abbrev pub IsGained : ColType → Value → Pairs → Atom × Atom → Type 0
IsGained t before m e = ((d : Pairs) × (difference before (map_of m) t ≡ map_of d) × Member e d.entries) ⊎ ((n : Pairs) × (before ≡ map_of n) × Member e n.entries)

pub pair_gained : (t : ColType) (before : Value) (m : Pairs) (e : Atom × Atom) → Member e m.entries → IsGained t before m e
pair_gained t before m e there = by (is_single t) before
  where
    new : (n : Pairs) → map.get (changed_pairs n m) e.0 ≡ Some e.1 → Member e (changed_pairs n m).entries
    new n is = found_member e.0 (changed_pairs n m).entries e.1 (sym (get-entries (changed_pairs n m) e.0) ∙ is)

    now : map.get m e.0 ≡ Some e.1
    now = get-entries m e.0 ∙ entry_found m.entries m.sorted e there

    at : (n : Pairs) → map.get (changed_pairs n m) e.0 ≡ changed_pair (map.get n e.0) (Some e.1)
    at n = get-combine atom_cmp_total atom_cmp-IsAntisymmetric changed_pair refl n m e.0 ∙ ap (changed_pair (map.get n e.0)) now

    differ : (n : Pairs) (a : Atom) → map.get n e.0 ≡ Some a → (b : Bool) → same_atom a e.1 ≡ b → ((d : Pairs) × (map_of (changed_pairs n m) ≡ map_of d) × Member e d.entries) ⊎ ((p : Pairs) × (map_of n ≡ map_of p) × Member e p.entries)
    differ n a is true same = inr (n, refl, had n e (ap (λ o. is_atom o e.1) is ∙ same))
    differ n a is false same = inl (changed_pairs n m, refl, new n (at n ∙ ap (λ o. changed_pair o (Some e.1)) is ∙ ap (λ b. cond b None (Some e.1)) same))

    was : (n : Pairs) (o : Option Atom) → map.get n e.0 ≡ o → ((d : Pairs) × (map_of (changed_pairs n m) ≡ map_of d) × Member e d.entries) ⊎ ((p : Pairs) × (map_of n ≡ map_of p) × Member e p.entries)
    was n None is = inl (changed_pairs n m, refl, new n (at n ∙ ap (λ o. changed_pair o (Some e.1)) is))
    was n (Some a) is = differ n a is (same_atom a e.1) refl

    by : (b : Bool) (w : Value) → ((d : Pairs) × (cond b (map_of m) (changed w (map_of m)) ≡ map_of d) × Member e d.entries) ⊎ ((n : Pairs) × (w ≡ map_of n) × Member e n.entries)
    by true w = inl (m, refl, there)
    by false (set_of u) = inl (m, refl, there)
    by false (map_of n) = was n (map.get n e.0) refl

-- the rows that a pair names
pair_named : (k w : Option ℕ) (y : RowId) (e : Atom × Atom) → list_any (same_row y) (filter_map (referent k) (e.0 ∷ []) ++ filter_map (referent w) (e.1 ∷ [])) ≡ (names k y e.0 || names w y e.1)
pair_named k w y e =
    list_any-append (same_row y) (filter_map (referent k) (e.0 ∷ [])) (filter_map (referent w) (e.1 ∷ []))
    ∙ (λ i. any-filter_map (same_row y) (referent k) (e.0 ∷ []) i || any-filter_map (same_row y) (referent w) (e.1 ∷ []) i)
    ∙ tidy (names k y e.0) (names w y e.1)
  where
    tidy : (a b : Bool) → ((a || false) || (b || false)) ≡ (a || b)
    tidy true b = refl
    tidy false true = refl
    tidy false false = refl

-- the test of the code
pub map_strong : (s : Schema) (t : ColType) (e : List (declared.Atom × declared.Atom)) (d now : Value) → Lists (entries.Map e) d → (k w : Option ℕ) → k ≡ strong_target s t.key → w ≡ strong_target s (value_base t) → flat_map (λ p. gained_of_pair k w now (pair_of p)) e ≡ strong_of_change s t d now
map_strong s t e (set_of d) now at k w key value = absurd at
map_strong s t e (map_of d) now at k w key value =
    sym (flat_map-map (gained_of_pair k w now) pair_of e) ∙ ap (flat_map (gained_of_pair k w now)) at
    ∙ (λ i. flat_map (gained_of_pair (key i) (value i) now) (map.entries_of d))
  where
    flat_map-map : {X Y Z : Type 0} (h : Y → List Z) (f : X → Y) (xs : List X) → flat_map h (map_list f xs) ≡ flat_map (λ x. h (f x)) xs
    flat_map-map h f [] = refl
    flat_map-map h f (x ∷ xs) = ap (λ ys. h (f x) ++ ys) (flat_map-map h f xs)

-- ---- values

-- a type without strong references
pub none_gained : (s : Schema) (t : ColType) (before now : Value) → has_strong t ≡ false → [] ≡ gained_by_value s t before now
none_gained s t before now e = by (same_value before now) (difference before now t)
  where
    h : (is_strong t.key ≡ false) × (is_strong (value_base t) ≡ false)
    h = neither (is_strong t.key) (is_strong (value_base t)) e

    none : (v : Value) → strong_of_value s t v ≡ []
    none v = no_strong s t (strong_none s t.key h.0, strong_none s (value_base t) h.1) v

    no_pair : (k w : Option ℕ) → k ≡ None → w ≡ None → (p : Atom × Atom) → [] ≡ gained_of_pair k w now p
    no_pair k w key value p = one (has_pair_of now p)
      where
        one : (b : Bool) → [] ≡ cond b (filter_map (referent k) (p.0 ∷ []) ++ filter_map (referent w) (p.1 ∷ [])) []
        one true = sym ((λ i. filter_map (referent (key i)) (p.0 ∷ []) ++ filter_map (referent (value i)) (p.1 ∷ [])) ∙ (λ i. none_named (p.0 ∷ []) i ++ none_named (p.1 ∷ []) i))
        one false = refl

    no_pairs : (k w : Option ℕ) → k ≡ None → w ≡ None → (es : List (Atom × Atom)) → [] ≡ flat_map (gained_of_pair k w now) es
    no_pairs k w key value [] = refl
    no_pairs k w key value (p ∷ es) = λ i. no_pair k w key value p i ++ no_pairs k w key value es i

    of_change : (d : Value) → [] ≡ strong_of_change s t d now
    of_change (set_of d) = ap (filter (λ y. list_any (same_row y) (strong_of_value s t now))) (sym (none (set_of d)))
    of_change (map_of d) = no_pairs (strong_target s t.key) (strong_target s (value_base t)) (strong_none s t.key h.0) (strong_none s (value_base t) h.1) (map.entries_of d)

    by : (b : Bool) (d : Value) → [] ≡ cond b [] (strong_of_change s t d now)
    by true d = refl
    by false d = of_change d

module _ (s : Schema) (t : ColType) (y : RowId) where
  abbrev leads : Value → Bool
  leads v = list_any (same_row y) (strong_of_value s t v)

  abbrev keys : Option ℕ
  keys = strong_target s t.key

  abbrev values : Option ℕ
  values = strong_target s (value_base t)

  abbrev pair_leads : Atom × Atom → Bool
  pair_leads e = names keys y e.0 || names values y e.1

  abbrev pair_gains : Value → Atom × Atom → Bool
  pair_gains now e = list_any (same_row y) (gained_of_pair keys values now e)

  any_pair : (d : Pairs) (now : Value) → list_any (same_row y) (strong_of_change s t (map_of d) now) ≡ list_any (pair_gains now) d.entries
  any_pair d now = any-flat_map (same_row y) (gained_of_pair keys values now) d.entries

  pair_sound : (m : Pairs) (e : Atom × Atom) (b : Bool) → has_pair_of (map_of m) e ≡ b → list_any (same_row y) (cond b (filter_map (referent keys) (e.0 ∷ []) ++ filter_map (referent values) (e.1 ∷ [])) []) ≡ true → leads (map_of m) ≡ true
  pair_sound m e true has g = sym (map_has s t m keys values refl refl y) ∙ gives_any pair_leads m.entries e (had m e has) (sym (pair_named keys values y e) ∙ g)
  pair_sound m e false has g = absurd (true≢false (sym g))

  change_sound : (d now : Value) → list_any (same_row y) (strong_of_change s t d now) ≡ true → leads now ≡ true
  change_sound (set_of d) now e = (both (leads (set_of d)) (leads now) (sym (any-filter (λ y. list_any (same_row y) (strong_of_value s t now)) y (strong_of_value s t (set_of d))) ∙ e)).1
  change_sound (map_of d) (set_of v) e =
      let w = any_gives (pair_gains (set_of v)) d.entries (sym (any_pair d (set_of v)) ∙ e) in
      absurd (true≢false (sym w.2))
  change_sound (map_of d) (map_of m) e =
      let w = any_gives (pair_gains (map_of m)) d.entries (sym (any_pair d (map_of m)) ∙ e) in
      pair_sound m w.0 (has_pair_of (map_of m) w.0) refl w.2

  value_sound : (before now : Value) → list_any (same_row y) (gained_by_value s t before now) ≡ true → leads now ≡ true
  value_sound before now = by (same_value before now)
    where
      by : (b : Bool) → list_any (same_row y) (cond b [] (strong_of_change s t (difference before now t) now)) ≡ true → leads now ≡ true
      by true e = absurd (true≢false (sym e))
      by false e = change_sound (difference before now t) now e

  -- of two sets that differ
  set_complete : (u v : Atoms) → leads (set_of v) ≡ true → leads (set_of (set.symmetric_difference u v)) ≡ false → leads (set_of u) ≡ true
  set_complete u v e f =
      let at : Bool = unwrap_or (option_map (λ j. y.0 == j) keys) false in
      let here : (at ≡ true) × (set.contains v (uuid y.1) ≡ true) = both at (set.contains v (uuid y.1)) (set_has s t v keys refl y ∙ e) in
      let out : set.contains (set.symmetric_difference u v) (uuid y.1) ≡ false = second_false at (set.contains (set.symmetric_difference u v) (uuid y.1)) (set_has s t (set.symmetric_difference u v) keys refl y ∙ f) here.0 in
      let was : set.contains u (uuid y.1) ≡ true = in_first (set.contains u (uuid y.1)) (set.contains v (uuid y.1)) (sym (contains-symmetric_difference atom_cmp_total atom_cmp-IsAntisymmetric u v (uuid y.1)) ∙ out) here.1 in
      sym (set_has s t u keys refl y) ∙ (λ i. here.0 i && was i)

  set_differing : (before : Value) (v : Atoms) → leads (set_of v) ≡ true → list_any (same_row y) (strong_of_change s t (difference before (set_of v) t) (set_of v)) ≡ false → leads before ≡ true
  set_differing before v e f = by (is_single t) before f
    where
      out : (d : Atoms) → list_any (same_row y) (strong_of_change s t (set_of d) (set_of v)) ≡ false → leads (set_of d) ≡ false
      out d g = first_false (leads (set_of d)) (leads (set_of v)) (sym (any-filter (λ y. list_any (same_row y) (strong_of_value s t (set_of v))) y (strong_of_value s t (set_of d))) ∙ g) e

      by : (b : Bool) (w : Value) → list_any (same_row y) (strong_of_change s t (cond b (set_of v) (changed w (set_of v))) (set_of v)) ≡ false → leads w ≡ true
      by true w g = absurd (true≢false (sym e ∙ out v g))
      by false (map_of m) g = absurd (true≢false (sym e ∙ out v g))
      by false (set_of u) g = set_complete u v e (out (set.symmetric_difference u v) g)

  map_differing : (before : Value) (m : Pairs) → leads (map_of m) ≡ true → list_any (same_row y) (strong_of_change s t (difference before (map_of m) t) (map_of m)) ≡ false → leads before ≡ true
  map_differing before m e f =
      let w = any_gives pair_leads m.entries (map_has s t m keys values refl refl y ∙ e) in
      by w.0 w.1 w.2 (pair_gained t before m w.0 w.1)
    where
      by : (p : Atom × Atom) → Member p m.entries → pair_leads p ≡ true → IsGained t before m p → leads before ≡ true
      by p there named (inl new) =
          let one : pair_gains (map_of m) p ≡ true = ap (λ b. list_any (same_row y) (cond b (filter_map (referent keys) (p.0 ∷ []) ++ filter_map (referent values) (p.1 ∷ [])) [])) (has_it m p there) ∙ pair_named keys values y p ∙ named in
          let found : list_any (same_row y) (strong_of_change s t (difference before (map_of m) t) (map_of m)) ≡ true = ap (λ d. list_any (same_row y) (strong_of_change s t d (map_of m))) new.1 ∙ any_pair new.0 (map_of m) ∙ gives_any (pair_gains (map_of m)) new.0.entries p new.2 one in
          absurd (true≢false (sym found ∙ f))
      by p there named (inr was) = ap leads was.1 ∙ sym (map_has s t was.0 keys values refl refl y) ∙ gives_any pair_leads was.0.entries p was.2 named

  differing : (before now : Value) → leads now ≡ true → list_any (same_row y) (strong_of_change s t (difference before now t) now) ≡ false → leads before ≡ true
  differing before (map_of m) e f = map_differing before m e f
  differing before (set_of v) e f = set_differing before v e f

  value_complete : (before now : Value) → leads now ≡ true → list_any (same_row y) (gained_by_value s t before now) ≡ false → leads before ≡ true
  value_complete before now e = by (same_value before now) refl
    where
      by : (b : Bool) → same_value before now ≡ b → list_any (same_row y) (cond b [] (strong_of_change s t (difference before now t) now)) ≡ false → leads before ≡ true
      by true same f = ap leads (same_value-equal before now same) ∙ e
      by false same f = differing before now e f

-- ---- rows

pub in_zip : {A B : Type 0} (xs : List A) (ys : List B) (i : ℕ) (x : A) (y : B) → slice_get xs i ≡ Some x → slice_get ys i ≡ Some y → Member (x, y) (zip xs ys)
in_zip [] ys zero x y e f = absurd (none-some x e)
in_zip [] ys (suc i) x y e f = absurd (none-some x e)
in_zip (a ∷ xs) [] zero x y e f = absurd (none-some y f)
in_zip (a ∷ xs) [] (suc i) x y e f = absurd (none-some y f)
in_zip (a ∷ xs) (b ∷ ys) zero x y e f = inl (λ i. (same_Some x a (sym e) i, same_Some y b (sym f) i))
in_zip (a ∷ xs) (b ∷ ys) (suc i) x y e f = inr (in_zip xs ys i x y e f)

-- the place of an item
enumerated_in : {X : Type 0} (xs : List X) (n : ℕ) (e : ℕ × X) → Member e (enumerate_from n xs) → (i : ℕ) × (e.0 ≡ n + i) × (slice_get xs i ≡ Some e.1)
enumerated_in [] n e m = absurd m
enumerated_in (x ∷ xs) n e (inl h) = let is : e.0 ≡ n = ap (λ d. d.0) h in (zero, omega (arith, is), (λ i. Some ((sym h i).1)))
enumerated_in (x ∷ xs) n e (inr m) = let w = enumerated_in xs (n + 1) e m in let at = w.1 in (suc w.0, omega (arith, at), w.2)

module _ (s : Schema) (x y : RowId) (before now : Row) where
  abbrev cs : List Column
  cs = columns_at s x.0

  abbrev cell_leads : Column × Value → Bool
  cell_leads e = list_any (same_row y) (strong_of_value s e.0.type e.1)

  abbrev place_gains : ℕ × Column → Bool
  place_gains e = list_any (same_row y) (gained_at s e.1.type (slice_get before.columns e.0) (slice_get now.columns e.0))

  any_gained : list_any (same_row y) (gained_by_row s x before now) ≡ list_any place_gains (enumerate_from 0 cs)
  any_gained = any-flat_map (same_row y) (λ (e : ℕ × Column). gained_at s e.1.type (slice_get before.columns e.0) (slice_get now.columns e.0)) (enumerate_from 0 cs)

  any_strong : (r : Row) → list_any (same_row y) (strong_of_row s x r) ≡ list_any cell_leads (zip cs r.columns)
  any_strong r = any-flat_map (same_row y) (λ (e : Column × Value). strong_of_value s e.0.type e.1) (zip cs r.columns)

  -- a column that has a value
  cell_found : (r : Row) (i : ℕ) (c : Column) (v : Value) → slice_get cs i ≡ Some c → slice_get r.columns i ≡ Some v → list_any (same_row y) (strong_of_value s c.type v) ≡ true → list_any (same_row y) (strong_of_row s x r) ≡ true
  cell_found r i c v at is e = any_strong r ∙ gives_any cell_leads (zip cs r.columns) (c, v) (in_zip cs r.columns i c v at is) e

  row_sound : list_any (same_row y) (gained_by_row s x before now) ≡ true → list_any (same_row y) (strong_of_row s x now) ≡ true
  row_sound e =
      let w = any_gives place_gains (enumerate_from 0 cs) (sym any_gained ∙ e) in
      let at = enumerated_in cs 0 w.0 w.1 in
      let place : w.0.0 ≡ at.0 = let is = at.1 in omega (arith, is) in
      by at.0 w.0.1 at.2 (slice_get now.columns at.0) refl (slice_get before.columns at.0) ((λ j. list_any (same_row y) (gained_at s w.0.1.type (slice_get before.columns (sym place j)) (slice_get now.columns (sym place j)))) ∙ w.2)
    where
      by : (i : ℕ) (c : Column) → slice_get cs i ≡ Some c → (o : Option Value) → slice_get now.columns i ≡ o → (p : Option Value) → list_any (same_row y) (gained_at s c.type p o) ≡ true → list_any (same_row y) (strong_of_row s x now) ≡ true
      by i c at None is p e = absurd (true≢false (sym e))
      by i c at (Some v) is None e = cell_found now i c v at is e
      by i c at (Some v) is (Some b) e = cell_found now i c v at is (value_sound s c.type y b v e)

  row_complete : list_any (same_row y) (strong_of_row s x now) ≡ true → list_any (same_row y) (gained_by_row s x before now) ≡ false → list_any (same_row y) (strong_of_row s x before) ≡ true
  row_complete e f =
      let w = any_gives cell_leads (zip cs now.columns) (sym (any_strong now) ∙ e) in
      let at = place_in cs now.columns w.0 w.1 in
      by at.0 w.0.0 at.1 w.0.1 at.2 w.2 (slice_get before.columns at.0) refl (absent at.0 w.0.0 at.1)
    where
      decide : (e : ℕ × Column) → Member e (enumerate_from 0 cs) → (b : Bool) → place_gains e ≡ b → b ≡ false
      decide e m true is = sym (gives_any place_gains (enumerate_from 0 cs) e m is) ∙ sym any_gained ∙ f
      decide e m false is = refl

      absent : (i : ℕ) (c : Column) → slice_get cs i ≡ Some c → place_gains (i, c) ≡ false
      absent i c at = decide (i, c) (in_enumerated cs 0 i i c (omega arith) at) (place_gains (i, c)) refl

      by : (i : ℕ) (c : Column) → slice_get cs i ≡ Some c → (v : Value) → slice_get now.columns i ≡ Some v → list_any (same_row y) (strong_of_value s c.type v) ≡ true → (p : Option Value) → slice_get before.columns i ≡ p → place_gains (i, c) ≡ false → list_any (same_row y) (strong_of_row s x before) ≡ true
      by i c at v is one None was g = absurd (true≢false (sym one ∙ sym (λ j. list_any (same_row y) (gained_at s c.type (was j) (is j))) ∙ g))
      by i c at v is one (Some b) was g = cell_found before i c b at was (value_complete s c.type y b v one (sym (λ j. list_any (same_row y) (gained_at s c.type (was j) (is j))) ∙ g))

-- ---- rows of two databases

module _ (s : Schema) (before now : Db) (x y : RowId) where
  -- what a row gained it refers to
  pub gained_refers : list_any (same_row y) (gained s before now x) ≡ true → refers s now x y ≡ true
  gained_refers = by (row_of now x) (row_of before x)
    where
      by : (o p : Option Row) → list_any (same_row y) (unwrap_or (option_map (gained_since s x p) o) []) ≡ true → unwrap_or (option_map (λ r. list_any (same_row y) (strong_of_row s x r)) o) false ≡ true
      by None p e = absurd (true≢false (sym e))
      by (Some n) None e = e
      by (Some n) (Some b) e = row_sound s x y b n e

  -- to what it refers else, it did before
  pub referred_before : refers s now x y ≡ true → list_any (same_row y) (gained s before now x) ≡ false → refers s before x y ≡ true
  referred_before = by (row_of now x) (row_of before x)
    where
      by : (o p : Option Row) → unwrap_or (option_map (λ r. list_any (same_row y) (strong_of_row s x r)) o) false ≡ true → list_any (same_row y) (unwrap_or (option_map (gained_since s x p) o) []) ≡ false → unwrap_or (option_map (λ r. list_any (same_row y) (strong_of_row s x r)) p) false ≡ true
      by None p e f = absurd (true≢false (sym e))
      by (Some n) None e f = absurd (true≢false (sym e ∙ f))
      by (Some n) (Some b) e f = row_complete s x y b n e f
