-- The rows that lists of atoms name.
use Rattle.std.specs.Prelude.{◌≡◌, ℕ, ◌+◌, ◌<◌, List, [], ◌∷◌, ◌++◌, filter_map, flat_map, length, map, take, Option, Some, None, option_to_list, refl}
use mathlib.Core.Path.{sym, ap, ◌∙◌}
use Rattle.std.proofs.Common.{append_assoc, get_or}
use Rattle.std.specs.List.{cons_option}
use Rattle.std.proofs.lemmas.List.{append-nil, map-append, take_more}
use Rattle.std.proofs.lemmas.List.Concat.{flat_map-append}
use Rattle.std.proofs.lemmas.List.Elements.{filter_map-append}
use Rattle.odb_atoms.specs.Atom.{Atom, boolean, integer, text, uuid}
use mathlib.Core.Logic.{◌⊎◌, inl, inr}
use Rattle.std.specs.Prelude.{zip}
use Rattle.odb_atoms.proofs.Represented.Values.{map-map}
use Rattle.odb_atoms.specs.FinMap as finite
use Rattle.odb_atoms.specs.ColType.{ColType, value_base}
use Rattle.odb_atoms.specs.Value.{Value, map_of, set_of}
use Rattle.odb_atoms.specs.Represented.Atom.{atom_of}
use Rattle.odb_atoms.specs.Represented.Value.{Lists, pair_of}
use Rattle.odb_atoms.specs.declared.atom.Atom as declared
use Rattle.odb_atoms.specs.declared.value.Entries.TheVariants as entries
use Rattle.odb_schema.specs.Schema.{Schema}
use Rattle.odb_integrity.specs.Settlement.{RowId, referent, strong_of_value, strong_target}

pub none_named : (atoms : List Atom) → filter_map (referent None) atoms ≡ []
none_named [] = refl
none_named (integer z ∷ atoms) = none_named atoms
none_named (boolean b ∷ atoms) = none_named atoms
none_named (text t ∷ atoms) = none_named atoms
none_named (uuid u ∷ atoms) = none_named atoms

-- where there is no table, nothing is added
pub nothing_added : (target : Option ℕ) (rows : List RowId) (atoms : List Atom) → target ≡ None → rows ≡ rows ++ filter_map (referent target) atoms
nothing_added target rows atoms e = sym (append-nil rows) ∙ ap (λ xs. rows ++ xs) (sym (none_named atoms)) ∙ ap (λ t. rows ++ filter_map (referent t) atoms) (sym e)

module _ {X : Type 0} (f : X → Atom) (t : Option ℕ) where
  one_named : (o : Option RowId) (rest : List RowId) → cons_option o rest ≡ option_to_list o ++ rest
  one_named None rest = refl
  one_named (Some x) rest = refl

  -- one atom more, of those that are left
  pub named_more : (rows now whole : List RowId) (xs rest : List X) (x : X) → xs ≡ x ∷ rest → rows ++ filter_map (referent t) (map f xs) ≡ whole → now ≡ rows ++ option_to_list (referent t (f x)) → now ++ filter_map (referent t) (map f rest) ≡ whole
  named_more rows now whole xs rest x is before more =
      ap (λ ys. ys ++ filter_map (referent t) (map f rest)) more
      ∙ append_assoc rows (option_to_list (referent t (f x))) (filter_map (referent t) (map f rest))
      ∙ ap (λ ys. rows ++ ys) (sym (one_named (referent t (f x)) (filter_map (referent t) (map f rest))) ∙ ap (λ ys. filter_map (referent t) (map f ys)) (sym is))
      ∙ before

-- the rows that the keys of a map name, and then those that its values name
pub map_named : (s : Schema) (t : ColType) (p : List (declared.Atom × declared.Atom)) (v : Value) → Lists (entries.Map p) v → (k w : Option ℕ) → k ≡ strong_target s t.key → w ≡ strong_target s (value_base t) → (old one two : List RowId)
    → one ≡ old ++ filter_map (referent k) (map (λ q. atom_of q.0) p) → two ≡ one ++ filter_map (referent w) (map (λ q. atom_of q.1) p) → two ≡ old ++ strong_of_value s t v
unfolding finite.keys
map_named s t p (set_of v) listed k w key value old one two first second = absurd listed
map_named s t p (map_of m) listed k w key value old one two first second =
    let keys : map (λ q. atom_of q.0) p ≡ finite.keys m = sym (map-map (λ (e : Atom × Atom). e.0) pair_of p) ∙ ap (map (λ e. e.0)) listed in
    let values : map (λ q. atom_of q.1) p ≡ finite.values m = sym (map-map (λ (e : Atom × Atom). e.1) pair_of p) ∙ ap (map (λ e. e.1)) listed in
    second ∙ ap (λ ys. ys ++ filter_map (referent w) (map (λ q. atom_of q.1) p)) first ∙ append_assoc old _ _
    ∙ (λ i. old ++ (filter_map (referent (key i)) (keys i) ++ filter_map (referent (value i)) (values i)))

pub zip_done : {A B : Type 0} (xs : List A) (ys : List B) → (xs ≡ []) ⊎ (ys ≡ []) → zip xs ys ≡ []
zip_done [] ys e = refl
zip_done (x ∷ xs) [] e = refl
zip_done (x ∷ xs) (y ∷ ys) (inl e) = cc
zip_done (x ∷ xs) (y ∷ ys) (inr e) = cc

one_mapped : {Y : Type 0} (o : Option Y) → cons_option o [] ≡ option_to_list o
one_mapped None = refl
one_mapped (Some y) = refl

-- one item more
pub mapped_more : {X Y : Type 0} (h : X → Option Y) (before now : List Y) (xs : List X) (i : ℕ) (x : X) → i < length xs → x ≡ get_or xs i x → before ≡ filter_map h (take i xs) → now ≡ before ++ option_to_list (h x) → now ≡ filter_map h (take (i + 1) xs)
mapped_more h before now xs i x inside is done more =
    more ∙ ap (λ ys. ys ++ option_to_list (h x)) done
    ∙ ap (λ ys. filter_map h (take i xs) ++ ys) (sym (one_mapped (h x)))
    ∙ sym (filter_map-append h (take i xs) (x ∷ []))
    ∙ ap (filter_map h) (ap (λ y. take i xs ++ y ∷ []) is ∙ sym (take_more xs i x inside))

pub filter_map-map : {X Y Z : Type 0} (h : Y → Option Z) (f : X → Y) (xs : List X) → filter_map h (map f xs) ≡ filter_map (λ x. h (f x)) xs
filter_map-map h f [] = refl
filter_map-map h f (x ∷ xs) = ap (cons_option (h (f x))) (filter_map-map h f xs)

pub filter_map_more : {X Y Z : Type 0} (f : X → Y) (h : Y → Option Z) (before now : List Z) (xs : List X) (i : ℕ) (x : X) → i < length xs → x ≡ get_or xs i x → before ≡ filter_map h (map f (take i xs)) → now ≡ before ++ option_to_list (h (f x)) → now ≡ filter_map h (map f (take (i + 1) xs))
filter_map_more f h before now xs i x inside is done more = mapped_more (λ y. h (f y)) before now xs i x inside is (done ∙ filter_map-map h f (take i xs)) more ∙ sym (filter_map-map h f (take (i + 1) xs))

-- the parts of one item more
pub flat_more : {X Y : Type 0} (f : X → List Y) (before now : List Y) (xs : List X) (i : ℕ) (x : X) → i < length xs → x ≡ get_or xs i x → before ≡ flat_map f (take i xs) → now ≡ before ++ f x → now ≡ flat_map f (take (i + 1) xs)
flat_more f before now xs i x inside is done more =
    more ∙ ap (λ ys. ys ++ f x) done
    ∙ ap (λ ys. flat_map f (take i xs) ++ ys) (sym (append-nil (f x)))
    ∙ sym (flat_map-append f (take i xs) (x ∷ []))
    ∙ ap (flat_map f) (ap (λ y. take i xs ++ y ∷ []) is ∙ sym (take_more xs i x inside))

-- one more, of those that are left
pub flat_next : {X Y : Type 0} (f : X → List Y) (before now whole : List Y) (xs rest : List X) (x : X) → xs ≡ x ∷ rest → before ++ flat_map f xs ≡ whole → now ≡ before ++ f x → now ++ flat_map f rest ≡ whole
flat_next f before now whole xs rest x is done more =
    ap (λ ys. ys ++ flat_map f rest) more ∙ append_assoc before (f x) (flat_map f rest) ∙ ap (λ ys. before ++ flat_map f ys) (sym is) ∙ done

-- the same behind others
pub flat_more_after : {X Y : Type 0} (f : X → List Y) (all before now : List Y) (xs : List X) (i : ℕ) (x : X) → i < length xs → x ≡ get_or xs i x → before ≡ all ++ flat_map f (take i xs) → now ≡ before ++ f x → now ≡ all ++ flat_map f (take (i + 1) xs)
flat_more_after f all before now xs i x inside is done more =
    more ∙ ap (λ ys. ys ++ f x) done ∙ append_assoc all (flat_map f (take i xs)) (f x)
    ∙ ap (λ ys. all ++ ys) (flat_more f (flat_map f (take i xs)) (flat_map f (take i xs) ++ f x) xs i x inside is refl refl)
