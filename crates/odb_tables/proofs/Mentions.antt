-- What the entries of values mention: one by one, and of a whole value.
use Rattle.std.proofs.Common.{◌≡◌, ◌⊎◌, true, List, Option, Some, sym, ap, ◌∙◌}
use mathlib.Core.Logic.{inl, inr}
use Rattle.std.specs.List.{list_any}
use Rattle.odb_atoms.specs.Atom.{Atom, same_atom, uuid}
use Rattle.odb_atoms.specs.Represented.Atom.{atom_of}
use Rattle.odb_atoms.specs.Represented.Value as shown
use Rattle.odb_atoms.specs.Represented.Value.{pair_of}
use Rattle.odb_atoms.specs.Uuid.{Uuid}
use Rattle.odb_atoms.specs.Value.{Value, map_of, set_of}
use Rattle.odb_atoms.specs.declared.atom.Atom as code
use Rattle.odb_atoms.specs.declared.value.Entries.TheVariants as entries
use Rattle.odb_atoms.proofs.Atoms.{atom_cmp-IsAntisymmetric}
use Rattle.odb_atoms.proofs.FinMaps.{contains_key-keys, same_key}
use Rattle.odb_atoms.proofs.Lists.{any-map, either}
use Rattle.odb_tables.specs.Indexed.{mentions}
use Rattle.odb_tables.specs.Represented.Entry.{element_mentions, pair_mentions}
use Rattle.odb_tables.specs.Represented.Facet.{identifier_in}
use Rattle.odb_tables.specs.Represented.RowTest.{is_in}

-- ---- an entry

of_atom : (tag : Uuid) (a : Atom) → same_atom (uuid tag) a ≡ true → identifier_in a ≡ Some tag
of_atom tag a e = ap identifier_in (sym (same_key atom_cmp-IsAntisymmetric (uuid tag) a e))

of_turned : (tag : Uuid) (a : Atom) → same_atom a (uuid tag) ≡ true → identifier_in a ≡ Some tag
of_turned tag a e = ap identifier_in (same_key atom_cmp-IsAntisymmetric a (uuid tag) e)

pub element-tag : (tag : Uuid) (a : code.Atom) (o : Option Uuid) → o ≡ identifier_in (atom_of a) → element_mentions tag a ≡ true → o ≡ Some tag
element-tag tag a o is e = is ∙ of_atom tag (atom_of a) e

pub pair-tags : (tag : Uuid) (p : code.Atom × code.Atom) (o s : Option Uuid) → o ≡ identifier_in (atom_of p.0) → s ≡ identifier_in (atom_of p.1) → pair_mentions tag p ≡ true → (o ≡ Some tag) ⊎ (s ≡ Some tag)
pair-tags tag p o s first second e = elim (either (same_atom (atom_of p.0) (uuid tag)) (same_atom (atom_of p.1) (uuid tag)) e) as (λ _. (o ≡ Some tag) ⊎ (s ≡ Some tag)) [
  | inl h ↦ inl (first ∙ of_turned tag (atom_of p.0) h)
  | inr h ↦ inr (second ∙ of_turned tag (atom_of p.1) h)
]

-- ---- a value

pub elements-mention : (tag : Uuid) (elements : List code.Atom) (v : Value) → shown.Lists (entries.Set elements) v → list_any (element_mentions tag) elements ≡ mentions tag v
elements-mention tag elements (set_of s) listed = sym (any-map (same_atom (uuid tag)) atom_of elements) ∙ ap (list_any (same_atom (uuid tag))) listed ∙ sym (contains_key-keys s (uuid tag))
elements-mention tag elements (map_of m) listed = absurd listed

pub pairs-mention : (tag : Uuid) (pairs : List (code.Atom × code.Atom)) (v : Value) → shown.Lists (entries.Map pairs) v → list_any (pair_mentions tag) pairs ≡ mentions tag v
pairs-mention tag pairs (set_of s) listed = absurd listed
pairs-mention tag pairs (map_of m) listed = sym (any-map (is_in (uuid tag)) pair_of pairs) ∙ ap (list_any (is_in (uuid tag))) listed

-- each of two moves on
pub onward : {A B C D : Type 0} → (A → C) → (B → D) → A ⊎ B → C ⊎ D
onward f g (inl a) = inl (f a)
onward f g (inr b) = inr (g b)
