-- What a type says of each atom of a value.
use Rattle.std.specs.Prelude.{◌≡◌, Bool, cond, not, ◌&&◌, List, is_some, Option, Some, None, option_map, unwrap_or}
use Rattle.std.specs.Borrow.{Bor}
use mathlib.Core.Path.{refl, sym, ap, ◌∙◌}
use Rattle.std.specs.List.{list_all}
use Rattle.std.specs.Option.{option_copied}
use Rattle.std.proofs.lemmas.List.Folds.{list_all-map}
use Rattle.odb_atoms.specs.Atom as model
use Rattle.odb_atoms.specs.ColType as types
use Rattle.odb_atoms.specs.ColType.{has_kind, is_a, meets, meets_constraints}
use Rattle.odb_atoms.specs.Value.{Value, each_atom, is_map}
use Rattle.odb_atoms.specs.Represented.Atom.{atom_of, kind_in}
use Rattle.odb_atoms.specs.Represented.ColType.{base_of, type_of}
use Rattle.odb_atoms.specs.Represented.Value.{AreAscending, HaveAscendingKeys, map_in, pair_of, set_in}
use Rattle.odb_atoms.specs.declared.atom.Atom.{Atom}
use Rattle.odb_atoms.specs.declared.column_type.Base.{Base}
use Rattle.odb_atoms.specs.declared.column_type.ColType.{ColType}
use Rattle.odb_atoms.proofs.Represented.Values.{items-from_sorted, pairs-from_sorted}

each_atom-set_in : (p q : model.Atom → Bool) (xs : List Atom) (v : Value) → AreAscending xs → set_in xs ≡ v → list_all (λ a. p (atom_of a)) xs ≡ each_atom p q v
each_atom-set_in p q xs v h is = sym (list_all-map p atom_of xs) ∙ ap (list_all p) (sym (items-from_sorted xs h)) ∙ ap (each_atom p q) is

each_atom-map_in : (p q : model.Atom → Bool) (xs : List (Atom × Atom)) (v : Value) → HaveAscendingKeys xs → map_in xs ≡ v → list_all (λ x. p (atom_of x.0) && q (atom_of x.1)) xs ≡ each_atom p q v
each_atom-map_in p q xs v h is = sym (list_all-map (λ e. p e.0 && q e.1) pair_of xs) ∙ ap (list_all (λ e. p e.0 && q e.1)) (sym (pairs-from_sorted xs h)) ∙ ap (each_atom p q) is

-- whether a value is of the kind, by the base type of a map's values, if the type has one
kind_by : types.Base → Option Base → Value → Bool
kind_by key o v = cond (is_some (option_map base_of o)) (is_map v) (not (is_map v)) && each_atom (is_a key.kind) (is_a (unwrap_or (option_map base_of o) key).kind) v

pub has_kind-set_in : (t : ColType) (xs : List Atom) (v : Value) → t.value ≡ None → AreAscending xs → set_in xs ≡ v → list_all (λ a. is_a (kind_in t.key.kind) (atom_of a)) xs ≡ has_kind (type_of t) v
unfolding kind_by
has_kind-set_in t xs v no_map h is =
    let key = kind_in t.key.kind in
    each_atom-set_in (is_a key) (is_a key) xs (set_in xs) h refl ∙ (λ i. kind_by (base_of t.key) (sym no_map i) (is i))

pub has_kind-map_in : (t : ColType) (b : Base) (xs : List (Atom × Atom)) (v : Value) → t.value ≡ Some b → HaveAscendingKeys xs → map_in xs ≡ v → list_all (λ x. is_a (kind_in t.key.kind) (atom_of x.0) && is_a (kind_in b.kind) (atom_of x.1)) xs ≡ has_kind (type_of t) v
unfolding kind_by
has_kind-map_in t b xs v a_map h is =
    each_atom-map_in (is_a (kind_in t.key.kind)) (is_a (kind_in b.kind)) xs (map_in xs) h refl ∙ (λ i. kind_by (base_of t.key) (sym a_map i) (is i))

pub meets_constraints-set_in : (t : ColType) (xs : List Atom) (v : Value) → AreAscending xs → set_in xs ≡ v → list_all (λ a. meets (base_of t.key) (atom_of a)) xs ≡ meets_constraints (type_of t) v
meets_constraints-set_in t xs v h is = each_atom-set_in (meets (base_of t.key)) _ xs v h is

-- the base of a map's values, as the code finds it
value_base-found : (o : Option (Bor Base)) (d : Bor Base) → base_of (unwrap_or o d).now ≡ unwrap_or (option_map base_of (option_copied o)) (base_of d.now)
value_base-found None d = refl
value_base-found (Some b) d = refl

pub meets_constraints-map_in : (t : ColType) (o : Option (Bor Base)) (d b : Bor Base) (xs : List (Atom × Atom)) (v : Value) → option_copied o ≡ t.value → d.now ≡ t.key → b ≡ unwrap_or o d → HaveAscendingKeys xs → map_in xs ≡ v → list_all (λ x. meets (base_of t.key) (atom_of x.0) && meets (base_of b.now) (atom_of x.1)) xs ≡ meets_constraints (type_of t) v
meets_constraints-map_in t o d b xs v value key found h is =
    each_atom-map_in (meets (base_of t.key)) (meets (base_of b.now)) xs v h is
    ∙ ap (λ c. each_atom (meets (base_of t.key)) (meets c) v) (ap (λ c. base_of c.now) found ∙ value_base-found o d ∙ (λ i. unwrap_or (option_map base_of (value i)) (base_of (key i))))
