-- In which rows a reference may lead to a row that isn't there, where none did before: in those that gained it, and those that mention a row that went.
use Rattle.std.specs.Prelude.{◌≡◌, ◌⊎◌, ℕ, ◌+◌, ◌<◌, Bool, true, false, cond, not, ◌&&◌, ◌||◌, List, [], ◌∷◌, ◌++◌, drop, filter, flat_map, length, slice_get, is_some, unwrap_or, Option, Some, None, option_and_then, option_map}
use Rattle.std.specs.List.{enumerate_from, list_any}
use denote.Ref.{Bor}
use mathlib.Core.Path.{refl, sym, ap, subst, ◌∙◌}
use mathlib.Core.Logic.{inl, inr}
use mathlib.Core.Bool.{xor, true≢false}
use Rattle.std.proofs.Common.{arith, get_or}
use Rattle.std.proofs.lemmas.List.{drop_more}
use Rattle.std.proofs.lemmas.List.Folds.{list_any-append}
use Rattle.std.proofs.lemmas.Option.{none-some}
use Rattle.odb_atoms.proofs.Atoms.{atom_cmp-IsAntisymmetric}
use Rattle.odb_atoms.proofs.Equal.{same_atom-itself}
use Rattle.odb_atoms.proofs.FinMaps.{contains_key-keys, same_key}
use Rattle.odb_atoms.proofs.FinSets.{contains-symmetric_difference}
use Rattle.odb_atoms.proofs.Lists.{Member, any-map, any_gives, either, gives_any, or_right}
use Rattle.odb_atoms.proofs.Values.{same_value-equal}
use Rattle.odb_atoms.specs.Atom.{Atom, same_atom, uuid}
use Rattle.odb_atoms.specs.ColType.{ColType, is_single, value_base}
use Rattle.odb_atoms.specs.Difference.{changed, difference}
use Rattle.odb_atoms.specs.FinMap as map
use Rattle.odb_atoms.specs.FinSet as set
use Rattle.odb_atoms.specs.Members.{has}
use Rattle.odb_atoms.specs.Represented.Atom.{atom_of}
use Rattle.odb_atoms.specs.Represented.AtomOrder.{atom_cmp_total}
use Rattle.odb_atoms.specs.Represented.Value.{Lists, pair_of}
use Rattle.odb_atoms.specs.Row.{Row}
use Rattle.odb_atoms.specs.Value.{Atoms, Pairs, Value, map_of, same_value, set_of}
use Rattle.odb_atoms.specs.declared.atom.Atom as declared
use Rattle.odb_atoms.specs.declared.value.Entries.TheVariants as entries
use Rattle.odb_schema.specs.Schema.{Column, Schema, columns_at, is_root_at}
use Rattle.odb_tables.specs.Database.{Db}
use Rattle.odb_integrity.specs.Gained.{cell_of, gained, gaining, gains_missing, gains_stale, gains_stale_at, has_pair_of, has_stale_change, has_weak, value_gains_stale}
use Rattle.odb_integrity.specs.Represented.Reference.{MentionGone, mentions, mentions_by, mentions_gone, references_of}
use Rattle.odb_integrity.specs.Settlement.{RowId, any_row, dangles, is_kept, is_stale, is_there, is_weak, kept, refers, row_ids, row_of, same_row, strong_of_row, weak_target}
use Rattle.odb_integrity.specs.Steps.{has_stale, row_has_stale}
use Rattle.odb_integrity.specs.Touched.{Covers, GainMissing, SameBut}
use Rattle.odb_integrity.specs.declared.referrers.Reference.{Reference}
use Rattle.odb_integrity.proofs.Gains.{IsGained, has_it, in_zip, pair_gained, referred_before}
use Rattle.odb_integrity.proofs.Databases.{any-row_ids}
use Rattle.odb_integrity.proofs.Held.{referrer_there}
use Rattle.odb_integrity.proofs.Kept.{kept_is_largest, kept_is_supported}
use Rattle.odb_integrity.proofs.Ids.{any-filter, listed, member, own_row, same_row_equal}
use Rattle.odb_integrity.proofs.Prunings.{neither, not_found}
use Rattle.odb_integrity.proofs.Referring.{Names, NamesIn, gone, in_enumerated, in_stale, in_value, names_passes, names_stale, stale_names, strong_found, strong_names, weak_found, weak_kind}
use Rattle.odb_integrity.proofs.Settles.{any-flat_map, kept_left, passes_nowhere, was_kept}

not_not : (b : Bool) → not b ≡ false → b ≡ true
not_not true e = refl
not_not false e = absurd (true≢false e)

not_so : (b : Bool) → not b ≡ true → b ≡ false
not_so true e = sym e
not_so false e = refl

-- where no row of the list is missing, none mentions such a one
pub none_mentions : (rs : List Reference) (db : Db) (xs : List RowId) → list_any (λ x. not (is_there db x)) xs ≡ false → (x : RowId) → false ≡ list_any (mentions_gone rs db x) xs
none_mentions rs db [] e x = refl
none_mentions rs db (y ∷ ys) e x =
    let parts = neither (not (is_there db y)) (list_any (λ x. not (is_there db x)) ys) e in
    none_mentions rs db ys parts.1 x ∙ (λ i. (sym parts.0 i && mentions rs db x y) || list_any (mentions_gone rs db x) ys)

-- ---- a loop over places that looks for one

module _ {X : Type 0} (p : ℕ × X → Bool) (xs : List X) (k : ℕ) (x : X) (whole : Bool) (inside : k < length xs) (is : x ≡ get_or xs k x) (before : list_any p (enumerate_from k (drop k xs)) ≡ whole) where
  place_step : list_any p (enumerate_from k (drop k xs)) ≡ (p (k, x) || list_any p (enumerate_from (k + 1) (drop (k + 1) xs)))
  place_step = ap (λ ys. list_any p (enumerate_from k ys)) (drop_more xs k x inside ∙ ap (λ y. y ∷ drop (k + 1) xs) (sym is))

  pub place_passes : p (k, x) ≡ true → true ≡ whole
  place_passes e = (λ i. sym e i || list_any p (enumerate_from (k + 1) (drop (k + 1) xs))) ∙ sym place_step ∙ before

  pub place_fails : p (k, x) ≡ false → list_any p (enumerate_from (k + 1) (drop (k + 1) xs)) ≡ whole
  place_fails e = (λ i. sym e i || list_any p (enumerate_from (k + 1) (drop (k + 1) xs))) ∙ sym place_step ∙ before

-- ---- what a base type names

weak_names : (s : Schema) (t : ColType) (v : Value) (y : RowId) → NamesIn (weak_target s) t v y → has_weak t ≡ true
weak_names s t v y h = by (in_value s (weak_target s) t v y h).1
  where
    by : (weak_target s t.key ≡ Some y.0) ⊎ (weak_target s (value_base t) ≡ Some y.0) → has_weak t ≡ true
    by (inl e) = ap (λ b. b || is_weak (value_base t)) (weak_kind s t.key y.0 e).1
    by (inr e) = or_right (is_weak t.key) (is_weak (value_base t)) (weak_kind s (value_base t) y.0 e).1

-- ---- values

set_member : (v : Atoms) (a : Atom) → set.contains v a ≡ true → Member a (set.items v)
set_member v a e =
    let w = any_gives (same_atom a) (set.items v) (sym (contains_key-keys v a) ∙ e) in
    subst (λ b. Member b (set.items v)) (sym (same_key atom_cmp-IsAntisymmetric a w.0 w.2)) w.1

member_set : (v : Atoms) (a : Atom) → Member a (set.items v) → set.contains v a ≡ true
member_set v a m = contains_key-keys v a ∙ gives_any (same_atom a) (set.items v) a m (same_atom-itself a)

only_second : (a b : Bool) → a ≡ false → b ≡ true → xor a b ≡ true
unfolding xor
only_second true b e f = absurd (true≢false e)
only_second false true e f = refl
only_second false false e f = f

module _ (s : Schema) (db : Db) (t : ColType) where
  -- the tests of the code
  pub set_change : (e : List declared.Atom) (d now : Value) → Lists (entries.Set e) d → (k : Option ℕ) → k ≡ weak_target s t.key → list_any (λ a. is_stale db k (atom_of a) && has now (atom_of a)) e ≡ has_stale_change s db t d now
  set_change e (map_of m) now at k key = absurd at
  set_change e (set_of elements) now at k key =
      sym (any-map (λ a. is_stale db k a && has now a) atom_of e) ∙ ap (list_any (λ a. is_stale db k a && has now a)) at
      ∙ ap (λ k. list_any (λ a. is_stale db k a && has now a) (set.items elements)) key

  pub map_change : (e : List (declared.Atom × declared.Atom)) (d now : Value) → Lists (entries.Map e) d → (k w : Option ℕ) → k ≡ weak_target s t.key → w ≡ weak_target s (value_base t) → list_any (λ p. (is_stale db k (atom_of p.0) || is_stale db w (atom_of p.1)) && has_pair_of now (pair_of p)) e ≡ has_stale_change s db t d now
  map_change e (set_of elements) now at k w key value = absurd at
  map_change e (map_of m) now at k w key value =
      sym (any-map (λ (p : Atom × Atom). (is_stale db k p.0 || is_stale db w p.1) && has_pair_of now p) pair_of e)
      ∙ ap (list_any (λ p. (is_stale db k p.0 || is_stale db w p.1) && has_pair_of now p)) at
      ∙ (λ i. list_any (λ p. (is_stale db (key i) p.0 || is_stale db (value i) p.1) && has_pair_of now p) (map.entries_of m))

  module _ (y : RowId) (missing : not (is_there db y) ≡ true) where
    pair_stale : (e : Atom × Atom) → ((e.0 ≡ uuid y.1) × (weak_target s t.key ≡ Some y.0)) ⊎ ((e.1 ≡ uuid y.1) × (weak_target s (value_base t) ≡ Some y.0)) → (is_stale db (weak_target s t.key) e.0 || is_stale db (weak_target s (value_base t)) e.1) ≡ true
    pair_stale e (inl k) = ap (λ b. b || is_stale db (weak_target s (value_base t)) e.1) (names_passes (gone s db) (weak_target s t.key) e.0 y missing k.0 k.1)
    pair_stale e (inr k) = or_right (is_stale db (weak_target s t.key) e.0) _ (names_passes (gone s db) (weak_target s (value_base t)) e.1 y missing k.0 k.1)

    -- a pair of the difference that the map has is tested
    map_named : (before : Value) (m : Pairs) → NamesIn (weak_target s) t (map_of m) y → has_stale_change s db t (difference before (map_of m) t) (map_of m) ≡ false → NamesIn (weak_target s) t before y
    map_named before m h f = by (pair_gained t before m h.0 h.1)
      where
        by : IsGained t before m h.0 → NamesIn (weak_target s) t before y
        by (inl new) = absurd (true≢false ((λ i. sym (pair_stale h.0 h.2) i && sym (has_it m h.0 h.1) i)
            ∙ not_found (λ (p : Atom × Atom). (is_stale db (weak_target s t.key) p.0 || is_stale db (weak_target s (value_base t)) p.1) && has_pair_of (map_of m) p) new.0.entries (ap (λ d. has_stale_change s db t d (map_of m)) (sym new.1) ∙ f) h.0 new.2))
        by (inr was) = subst (λ v. NamesIn (weak_target s) t v y) (sym was.1) (h.0, was.2, h.2)

    -- an element of the difference that the set has is tested
    element_named : (d v : Atoms) → Member (uuid y.1) (set.items d) → NamesIn (weak_target s) t (set_of v) y → has_stale_change s db t (set_of d) (set_of v) ≡ false → true ≡ false
    element_named d v m h f =
        (λ i. sym (names_passes (gone s db) (weak_target s t.key) (uuid y.1) y missing refl h.1) i && sym (member_set v (uuid y.1) h.0) i)
        ∙ not_found (λ a. is_stale db (weak_target s t.key) a && has (set_of v) a) (set.items d) f (uuid y.1) m

    differing : (before now : Value) → NamesIn (weak_target s) t now y → has_stale_change s db t (difference before now t) now ≡ false → NamesIn (weak_target s) t before y
    differing before (map_of m) h f = map_named before m h f
    differing before (set_of v) h f = by (is_single t) before f
      where
        one : (u : Atoms) → has_stale_change s db t (set_of (set.symmetric_difference u v)) (set_of v) ≡ false → (b : Bool) → set.contains u (uuid y.1) ≡ b → NamesIn (weak_target s) t (set_of u) y
        one u f true e = (set_member u (uuid y.1) e, h.1)
        one u f false e =
            let there : set.contains (set.symmetric_difference u v) (uuid y.1) ≡ true = contains-symmetric_difference atom_cmp_total atom_cmp-IsAntisymmetric u v (uuid y.1) ∙ only_second (set.contains u (uuid y.1)) (set.contains v (uuid y.1)) e (member_set v (uuid y.1) h.0) in
            absurd (true≢false (element_named (set.symmetric_difference u v) v (set_member (set.symmetric_difference u v) (uuid y.1) there) h f))

        by : (b : Bool) (w : Value) → has_stale_change s db t (cond b (set_of v) (changed w (set_of v))) (set_of v) ≡ false → NamesIn (weak_target s) t w y
        by true w f = absurd (true≢false (element_named v v h.0 h f))
        by false (map_of n) f = absurd (true≢false (element_named v v h.0 h f))
        by false (set_of u) f = one u f (set.contains u (uuid y.1)) refl

    -- what a value names that didn't gain it, it named before
    value_named : (before now : Value) → NamesIn (weak_target s) t now y → value_gains_stale s db t before now ≡ false → NamesIn (weak_target s) t before y
    value_named before now h f = by (same_value before now) refl
      where
        by : (b : Bool) → same_value before now ≡ b → NamesIn (weak_target s) t before y
        by true same = subst (λ v. NamesIn (weak_target s) t v y) (sym (same_value-equal before now same)) h
        by false same = differing before now h ((λ i. not (sym same i) && has_stale_change s db t (difference before now t) now) ∙ f)

-- ---- the rows that gained a reference

module _ (s : Schema) (old now : Db) (touched : List RowId) (same : SameBut touched old now) where
  -- to what a row refers that didn't gain it, it referred before
  referred : (x y : RowId) → refers s now x y ≡ true → not (is_there now y) ≡ true → (list_any (same_row x) touched && gains_missing s old now x) ≡ false → refers s old x y ≡ true
  referred x y e gone none = by (list_any (same_row x) touched) refl
    where
      gained_none : (b : Bool) → list_any (same_row y) (gained s old now x) ≡ b → gains_missing s old now x ≡ false → b ≡ false
      gained_none true is f = sym (gives_any (λ z. not (is_there now z)) (gained s old now x) y (member y (gained s old now x) is) gone) ∙ f
      gained_none false is f = refl

      by : (b : Bool) → list_any (same_row x) touched ≡ b → refers s old x y ≡ true
      by true t = referred_before s old now x y e (gained_none (list_any (same_row y) (gained s old now x)) refl (ap (λ b. b && gains_missing s old now x) (sym t) ∙ none))
      by false t = ap (λ o. unwrap_or (option_map (λ r. list_any (same_row y) (strong_of_row s x r)) o) false) (sym (same x t)) ∙ e

  -- a touched row that gained nothing that is missing isn't listed
  pub gain_missing : (before gaining_rows : List RowId) → gaining_rows ≡ before ++ flat_map (gaining s old now) touched → GainMissing s gaining_rows old now
  gain_missing before gaining_rows is x y absent here gone = referred x y here (ap not gone) (by (list_any (same_row x) touched) refl (gains_missing s old now x) refl)
    where
      none : list_any (λ z. list_any (same_row x) (gaining s old now z)) touched ≡ false
      none =
          sym (any-flat_map (same_row x) (gaining s old now) touched)
          ∙ (neither (list_any (same_row x) before) (list_any (same_row x) (flat_map (gaining s old now) touched)) (sym (list_any-append (same_row x) before (flat_map (gaining s old now) touched)) ∙ ap (list_any (same_row x)) (sym is) ∙ absent)).1

      by : (b : Bool) → list_any (same_row x) touched ≡ b → (c : Bool) → gains_missing s old now x ≡ c → (list_any (same_row x) touched && gains_missing s old now x) ≡ false
      by false t c g = ap (λ b. b && gains_missing s old now x) t
      by true t false g = (λ i. t i && g i)
      by true t true g = absurd (true≢false (
          sym (gives_any (λ z. list_any (same_row x) (gaining s old now z)) touched x (member x touched t)
          (ap (λ b. list_any (same_row x) (cond b (x ∷ []) [])) g ∙ ap (λ b. b || false) (own_row x)))
          ∙ none))

-- ---- the rows that garbage collection leaves

-- a row to which a kept one refers stays as well
module _ (s : Schema) (db : Db) (x y : RowId) (kept_x : is_kept s db x ≡ true) (here : refers s db x y ≡ true) (there : is_there db y ≡ true) where
  abbrev stays : RowId → Bool
  stays z = is_kept s db z || same_row z y

  abbrev HasSupport : RowId → Type 0
  HasSupport z = (list_any (same_row z) (row_ids db) ≡ true) × ((is_root_at s z.0 ≡ true) ⊎ ((w : RowId) × (stays w ≡ true) × (same_row z w ≡ false) × (refers s db w z ≡ true)))

  kept_stays : (z : RowId) → is_kept s db z ≡ true → stays z ≡ true
  kept_stays z k = ap (λ b. b || same_row z y) k

  kept_support : (z : RowId) → is_kept s db z ≡ true → HasSupport z
  kept_support z k = ((kept_is_supported s db z k).0, by (kept_is_supported s db z k).1)
    where
      by : (is_root_at s z.0 ≡ true) ⊎ ((w : RowId) × (is_kept s db w ≡ true) × (same_row z w ≡ false) × (refers s db w z ≡ true)) → (is_root_at s z.0 ≡ true) ⊎ ((w : RowId) × (stays w ≡ true) × (same_row z w ≡ false) × (refers s db w z ≡ true))
      by (inl root) = inl root
      by (inr v) = inr (v.0, kept_stays v.0 v.1, v.2, v.3)

  new_support : same_row y x ≡ false → (z : RowId) → same_row z y ≡ true → HasSupport z
  new_support apart z is =
      let at : z ≡ y = same_row_equal z y is in
      (any-row_ids db z ∙ ap (is_there db) at ∙ there, inr (x, kept_stays x kept_x, ap (λ w. same_row w x) at ∙ apart, ap (refers s db x) at ∙ here))

  support : same_row y x ≡ false → (z : RowId) → (is_kept s db z ≡ true) ⊎ (same_row z y ≡ true) → HasSupport z
  support apart z (inl k) = kept_support z k
  support apart z (inr is) = new_support apart z is

  referent_kept : (b : Bool) → same_row y x ≡ b → is_kept s db y ≡ true
  referent_kept true is = ap (is_kept s db) (same_row_equal y x is) ∙ kept_x
  referent_kept false apart = kept_is_largest s db stays (λ z e. support apart z (either (is_kept s db z) (same_row z y) e)) y (or_right (is_kept s db y) (same_row y y) (own_row y))

module _ (s : Schema) (db : Db) where
  -- no row that isn't listed has gained one then either
  pub kept_gain : (old : Db) (xs : List RowId) → GainMissing s xs old db → GainMissing s xs old (kept s db)
  kept_gain old xs gain x y absent here gone = by (is_there db y) refl
    where
      kept_x : is_kept s db x ≡ true
      kept_x = was_kept s db x (referrer_there s (kept s db) x y here)

      before : refers s db x y ≡ true
      before = ap (λ o. unwrap_or (option_map (λ r. list_any (same_row y) (strong_of_row s x r)) o) false) (sym (kept_left s db x kept_x)) ∙ here

      by : (b : Bool) → is_there db y ≡ b → refers s old x y ≡ true
      by true there = absurd (true≢false (sym there ∙ sym (ap is_some (kept_left s db y (referent_kept s db x y kept_x before there (same_row y x) refl))) ∙ gone))
      by false none = gain x y absent before none

-- ---- the rows that are looked at

module _ (s : Schema) (old now : Db) (touched mentioning : List RowId) (same : SameBut touched old now) (mention : MentionGone (references_of s) now touched mentioning) where
  -- a row that isn't listed mentions no row that went
  not_mentioned : (x y : RowId) → list_any (same_row x) mentioning ≡ false → is_there old y ≡ true → not (is_there now y) ≡ true → (f : Reference) → Member f (references_of s) → mentions_by now x y f ≡ true → true ≡ false
  not_mentioned x y absent was gone f m e = by (list_any (same_row y) touched) refl
    where
      by : (b : Bool) → list_any (same_row y) touched ≡ b → true ≡ false
      by true t = sym (gives_any (mentions_gone (references_of s) now x) touched y (member y touched t) (λ i. gone i && gives_any (mentions_by now x y) (references_of s) f m e i)) ∙ sym (mention x) ∙ absent
      by false t = sym gone ∙ ap not (ap is_some (same y t) ∙ was)

  -- a touched row that isn't listed fails the test
  fails : (p : RowId → Bool) (rows : List RowId) (x : RowId) → rows ≡ filter p touched ++ mentioning → list_any (same_row x) rows ≡ false → ((list_any (same_row x) touched && p x) ≡ false) × (list_any (same_row x) mentioning ≡ false)
  fails p rows x is absent =
      let parts = neither (list_any (same_row x) (filter p touched)) (list_any (same_row x) mentioning) (sym (list_any-append (same_row x) (filter p touched) mentioning) ∙ ap (list_any (same_row x)) (sym is) ∙ absent) in
      (sym (any-filter p x touched) ∙ parts.0, parts.1)

  -- it was there
  target_there : any_row (dangles s old) old ≡ false → (x y : RowId) → refers s old x y ≡ true → is_there old y ≡ true
  target_there none x y = by (row_of old x) refl
    where
      by : (o : Option Row) → row_of old x ≡ o → unwrap_or (option_map (λ r. list_any (same_row y) (strong_of_row s x r)) o) false ≡ true → is_there old y ≡ true
      by None was e = absurd (true≢false (sym e))
      by (Some r) was e = not_not (is_there old y) (not_found (λ z. not (is_there old z)) (strong_of_row s x r) (passes_nowhere (dangles s old) old none x r was) y (member y (strong_of_row s x r) e))

  pub covers_dangling : any_row (dangles s old) old ≡ false → (gaining_rows rows : List RowId) → GainMissing s gaining_rows old now → rows ≡ gaining_rows ++ mentioning → Covers (dangles s now) now rows
  covers_dangling none gaining_rows rows gain is x r there absent = by (dangles s now x r) refl
    where
      by : (b : Bool) → dangles s now x r ≡ b → b ≡ false
      by true e =
          let out = neither (list_any (same_row x) gaining_rows) (list_any (same_row x) mentioning) (sym (list_any-append (same_row x) gaining_rows mentioning) ∙ ap (list_any (same_row x)) (sym is) ∙ absent) in
          let w = any_gives (λ y. not (is_there now y)) (strong_of_row s x r) e in
          let named : list_any (same_row w.0) (strong_of_row s x r) ≡ true = listed w.0 (strong_of_row s x r) w.1 in
          let here : refers s now x w.0 ≡ true = ap (λ o. unwrap_or (option_map (λ r. list_any (same_row w.0) (strong_of_row s x r)) o) false) there ∙ named in
          let f = strong_found s now x w.0 r there (strong_names s w.0 x r named) in
          not_mentioned x w.0 out.1 (target_there none x w.0 (gain x w.0 out.0 here (not_so (is_there now w.0) w.2))) w.2 f.0 f.1 f.3
      by false e = refl

  -- what a row names that didn't gain it, it named before
  named : (x y : RowId) (r : Row) → not (is_there now y) ≡ true → row_of now x ≡ Some r → Names (weak_target s) s x r y → (list_any (same_row x) touched && gains_stale s old now x) ≡ false → (b : Row) × (row_of old x ≡ Some b) × Names (weak_target s) s x b y
  named x y r missing there h none = by (list_any (same_row x) touched) refl
    where
      cases : (i : ℕ) (c : Column) (v : Value) → slice_get (columns_at s x.0) i ≡ Some c → NamesIn (weak_target s) c.type v y
          → (o : Option Row) → row_of old x ≡ o → (p : Option Value) → option_and_then (λ r. slice_get r.columns i) o ≡ p
          → unwrap_or (option_map (λ b. value_gains_stale s now c.type b v) p) (has_stale s now c.type v) ≡ false → (b : Row) × (row_of old x ≡ Some b) × Names (weak_target s) s x b y
      cases i c v at in_it o was None e f = absurd (true≢false (sym (in_stale s now c.type v y missing in_it) ∙ f))
      cases i c v at in_it None was (Some w) e f = absurd (none-some w e)
      cases i c v at in_it (Some b) was (Some w) e f = (b, was, (i, c, w, at, e, in_zip (columns_at s x.0) b.columns i c w at e, value_named s now c.type y missing w v in_it f))

      test : (i : ℕ) (c : Column) (v : Value) → slice_get (columns_at s x.0) i ≡ Some c → slice_get r.columns i ≡ Some v → NamesIn (weak_target s) c.type v y → gains_stale s old now x ≡ false → unwrap_or (option_map (λ b. value_gains_stale s now c.type b v) (cell_of old x i)) (has_stale s now c.type v) ≡ false
      test i c v at is in_it f =
          let here : cell_of now x i ≡ Some v = ap (option_and_then (λ r. slice_get r.columns i)) there ∙ is in
          (λ j. sym (weak_names s c.type v y in_it) j && unwrap_or (option_map (λ n. unwrap_or (option_map (λ b. value_gains_stale s now c.type b n) (cell_of old x i)) (has_stale s now c.type n)) (sym here j)) false)
          ∙ not_found (λ (e : ℕ × Column). gains_stale_at s now e.1.type (cell_of old x e.0) (cell_of now x e.0)) (enumerate_from 0 (columns_at s x.0)) f (i, c) (in_enumerated (columns_at s x.0) 0 i i c (omega arith) at)

      by : (b : Bool) → list_any (same_row x) touched ≡ b → (b : Row) × (row_of old x ≡ Some b) × Names (weak_target s) s x b y
      by true t = cases h.0 h.1 h.2 h.3 h.6 (row_of old x) refl (cell_of old x h.0) refl (test h.0 h.1 h.2 h.3 h.4 h.6 (ap (λ b. b && gains_stale s old now x) (sym t) ∙ none))
      by false t = (r, sym (same x t) ∙ there, h)

  pub covers_stale : any_row (row_has_stale s old) old ≡ false → (rows : List RowId) → rows ≡ filter (gains_stale s old now) touched ++ mentioning → Covers (row_has_stale s now) now rows
  covers_stale none rows is x r there absent = by (row_has_stale s now x r) refl
    where
      was_there : (y : RowId) (b : Row) → row_of old x ≡ Some b → Names (weak_target s) s x b y → (t : Bool) → is_there old y ≡ t → t ≡ true
      was_there y b was h true e = refl
      was_there y b was h false e = sym (passes_nowhere (row_has_stale s old) old none x b was) ∙ names_stale s old x b y (ap not e) h

      by : (b : Bool) → row_has_stale s now x r ≡ b → b ≡ false
      by true e =
          let out = fails (gains_stale s old now) rows x is absent in
          let w = stale_names s now x r e in
          let before = named x w.0 r w.1 there w.2 out.0 in
          let f = weak_found s now x w.0 r there w.2 in
          not_mentioned x w.0 out.1 (was_there w.0 before.0 before.1 before.2 (is_there old w.0) refl) w.1 f.0 f.1 f.3
      by false e = refl
