-- The entries of a value of the code are those of the set or map that it stands for.
use Rattle.std.specs.Prelude.{◌≡◌, List, [], ◌∷◌, length, map}
use mathlib.Core.Path.{refl, sym, ap, subst, ◌∙◌}
use Rattle.std.proofs.lemmas.List.{length-map}
use Rattle.odb_atoms.specs.Atom as model
use Rattle.odb_atoms.specs.Atom.{atom_cmp}
use Rattle.odb_atoms.specs.Value.{Value, atoms, map_of, set_of, size}
use Rattle.odb_atoms.specs.FinSet as set
use Rattle.odb_atoms.specs.FinMap as finite
use Rattle.odb_atoms.specs.Represented.Atom.{atom_of}
use Rattle.odb_atoms.specs.Represented.Value.{AreAscending, AreInOrder, HaveAscendingKeys, Lists, key_of, map_in, pair_of, set_in, value_in}
use Rattle.odb_atoms.specs.declared.atom.Atom.{Atom}
use Rattle.odb_atoms.specs.declared.value.Entries.{Entries}
use Rattle.odb_atoms.specs.declared.value.Entries.TheVariants as entries
use Rattle.odb_atoms.proofs.FinMaps.{entries-from_sorted, len-from_sorted}

pub map-map : {A B C : Type 0} (f : B → C) (g : A → B) (xs : List A) → map f (map g xs) ≡ map (λ x. f (g x)) xs
map-map f g [] = refl
map-map f g (x ∷ xs) = ap (λ ys. f (g x) ∷ ys) (map-map f g xs)

pub one_in : (a : model.Atom) → set_of (finite.from_sorted ((a, tt) ∷ [])) ≡ set_of (atoms (a ∷ []))
unfolding finite.empty finite.checked finite.insert finite.from_sorted
one_in a = refl

pub none_in_set : set_in [] ≡ set_of set.empty
unfolding finite.empty finite.checked finite.from_sorted
none_in_set = refl

pub none_in_map : map_in [] ≡ map_of finite.empty
unfolding finite.empty finite.checked finite.from_sorted
none_in_map = refl

-- the elements of a set of ascending atoms
pub items-from_sorted : (xs : List Atom) → AreAscending xs → set.items (finite.from_sorted {R = atom_cmp} (map key_of xs)) ≡ map atom_of xs
unfolding finite.keys
items-from_sorted xs h = ap (map (λ e. e.0)) (entries-from_sorted atom_cmp (map key_of xs) h) ∙ map-map (λ e. e.0) key_of xs

-- the pairs of a map of pairs with ascending keys
pub pairs-from_sorted : (xs : List (Atom × Atom)) → HaveAscendingKeys xs → (finite.from_sorted {R = atom_cmp} (map pair_of xs)).entries ≡ map pair_of xs
pairs-from_sorted xs h = entries-from_sorted atom_cmp (map pair_of xs) h

pub listed : (e : Entries) (v : Value) → AreInOrder e → value_in e ≡ v → Lists e v
listed (entries.Set s) v h is = subst (Lists (entries.Set s)) is (sym (items-from_sorted s h))
listed (entries.Map s) v h is = subst (Lists (entries.Map s)) is (sym (pairs-from_sorted s h))

pub size-set_in : (xs : List Atom) → AreAscending xs → size (set_in xs) ≡ length xs
size-set_in xs h = len-from_sorted atom_cmp (map key_of xs) h ∙ length-map xs _

pub size-map_in : (xs : List (Atom × Atom)) → HaveAscendingKeys xs → size (map_in xs) ≡ length xs
size-map_in xs h = len-from_sorted atom_cmp (map pair_of xs) h ∙ length-map xs _

pub one_pair_in : (a b : model.Atom) → map_of (finite.from_sorted ((a, b) ∷ [])) ≡ map_of (finite.from_entries ((a, b) ∷ []))
unfolding finite.empty finite.checked finite.insert finite.from_sorted
one_pair_in a b = refl
