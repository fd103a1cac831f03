-- The tags of rows: where two rows have the same, and what tells them.
use Rattle.std.proofs.Common.{◌≡◌, ◌||◌, ℕ, true, false, not, List, [], ◌∷◌, map, slice_get, unwrap_or, Global, Vec, IfSome, Option, Some, None, refl, sym, ap, subst, ◌∙◌}
use Rattle.std.proofs.lemmas.Option.{none-some, same_Some}
use Rattle.std.specs.Cmp.{unsigned_Decides}
use Rattle.std.specs.List.{list_all, list_any}
use Rattle.std.specs.declared.hash.RandomState.{RandomState}
use Rattle.odb_atoms.specs.Atom.{Atom, boolean, integer, same_atom, text, uuid}
use Rattle.odb_atoms.specs.Represented.Atom.{atom_of}
use Rattle.odb_atoms.specs.Represented.Value as shown
use Rattle.odb_atoms.specs.Represented.Value.{pair_of}
use Rattle.odb_atoms.specs.Row.{Row, cell, declared}
use Rattle.odb_atoms.specs.Uuid.{Uuid, same_number-same, same_uuid, zero_uuid}
use Rattle.odb_atoms.specs.Value.{Value, map_of, same_values, set_of}
use Rattle.odb_atoms.specs.declared.atom.Atom as code
use Rattle.odb_atoms.specs.declared.value.Entries.TheVariants as entries
use Rattle.odb_atoms.proofs.Equal.{same_atom-itself, same_values-equal}
use Rattle.odb_atoms.proofs.FinMaps.{contains_key-keys}
use Rattle.odb_atoms.proofs.Lists.{both}
use Rattle.odb_atoms.proofs.Values.{same_value-equal}
use Rattle.odb_tables.specs.Indexed.{cells_at, is_twin, mentions}
use Rattle.odb_tables.specs.Represented.Digest.{digest}
use Rattle.odb_tables.specs.Represented.Facet.{identifier_in, is_tag}
use Rattle.odb_tables.specs.Represented.RowTest.{have_same_at}
use Rattle.odb_tables.specs.declared.facet.Facet.{Facet}
use Rattle.odb_tables.specs.declared.facet.Facet.TheVariants.{Mentions, Values}
use Rattle.odb_tables.proofs.Twins.{mentions-nothing, nothing_in, same_cells}

-- ---- rows with the same values

pub cells-same : (r s : Row) (places : List ℕ) → list_all (have_same_at r s) places ≡ true → cells_at places r ≡ cells_at places s
cells-same r s places e = same_values-equal (cells_at places r) (cells_at places s) (sym (same_cells r s places) ∙ e)

pub cell-same : (r s : Row) (place : ℕ) → have_same_at r s place ≡ true → cell zero_uuid r (declared place) ≡ cell zero_uuid s (declared place)
cell-same r s place e = same_value-equal _ _ e

pub same-uuid : (t u : Uuid) → same_uuid t u ≡ true → t ≡ u
same-uuid t u e = same_number-same t u ((unsigned_Decides t.number u.number).0 e)

-- ---- by what an index finds a row

pub values-same : (f : Facet) (keys : RandomState) (places : Vec ℕ Global) (r s : Row) → f ≡ Values keys places → list_all (have_same_at r s) places.items ≡ true → (tag : Uuid) → is_tag f tag r ≡ is_tag f tag s
values-same f keys places r s is same tag = subst (λ g. is_tag g tag r ≡ is_tag g tag s) (sym is) (ap (λ vs. same_uuid tag (digest keys vs)) (cells-same r s places.items same))

pub mentions-same : (f : Facet) (place : ℕ) (r s : Row) → f ≡ Mentions place → have_same_at r s place ≡ true → (tag : Uuid) → is_tag f tag r ≡ is_tag f tag s
mentions-same f place r s is same tag = subst (λ g. is_tag g tag r ≡ is_tag g tag s) (sym is) (ap (mentions tag) (cell-same r s place same))

pub none-mentioned : (f : Facet) (place : ℕ) (r : Row) (tag : Uuid) → f ≡ Mentions place → slice_get r.columns place ≡ None → is_tag f tag r ≡ false
none-mentioned f place r tag is none = ap (λ g. is_tag g tag r) is ∙ ap (λ o. mentions tag (unwrap_or o nothing_in)) none ∙ mentions-nothing tag

pub values-tag : (f : Facet) (keys : RandomState) (places : Vec ℕ Global) (s : Row) (tag : Uuid) → f ≡ Values keys places → tag ≡ digest keys (cells_at places.items s) → is_tag f tag s ≡ true
values-tag f keys places s tag is same = ap (λ g. is_tag g tag s) is ∙ ap (λ u. same_uuid u (digest keys (cells_at places.items s))) same ∙ itself (digest keys (cells_at places.items s))
  where
    itself : (u : Uuid) → same_uuid u u ≡ true
    itself u = (unsigned_Decides u.number u.number).1 refl

pub values-tagged : (f : Facet) (keys : RandomState) (places : Vec ℕ Global) (s : Row) (tag : Uuid) → f ≡ Values keys places → is_tag f tag s ≡ true → tag ≡ digest keys (cells_at places.items s)
values-tagged f keys places s tag is e = same-uuid tag (digest keys (cells_at places.items s)) (sym (ap (λ g. is_tag g tag s) is) ∙ e)

pub twin-cells : (places : List ℕ) (u v : Uuid) (r s : Row) → is_twin places u r (v, s) ≡ true → cells_at places r ≡ cells_at places s
twin-cells places u v r s e = same_values-equal (cells_at places r) (cells_at places s) (both (not (same_uuid u v)) (same_values (cells_at places r) (cells_at places s)) e).1

-- ---- the first that a set mentions

pub first-mentioned : (u : Uuid) (first : code.Atom) (elements : List code.Atom) (v : Value) → shown.Lists (entries.Set elements) v → slice_get elements 0 ≡ Some first → identifier_in (atom_of first) ≡ Some u → mentions u v ≡ true
first-mentioned u first elements (map_of m) listed at is = absurd listed
first-mentioned u first elements (set_of s) listed at is = contains_key-keys s (uuid u) ∙ ap (list_any (same_atom (uuid u))) (sym listed) ∙ by elements at
  where
    the_atom : (a : Atom) → identifier_in a ≡ Some u → same_atom (uuid u) a ≡ true
    the_atom (integer z) e = absurd (none-some u e)
    the_atom (boolean b) e = absurd (none-some u e)
    the_atom (text t) e = absurd (none-some u e)
    the_atom (uuid w) e = ap (λ x. same_atom (uuid u) (uuid x)) (same_Some w u e) ∙ same_atom-itself (uuid u)

    by : (es : List code.Atom) → slice_get es 0 ≡ Some first → list_any (same_atom (uuid u)) (map atom_of es) ≡ true
    by [] e = absurd (none-some first e)
    by (x ∷ es) e = ap (λ b. b || list_any (same_atom (uuid u)) (map atom_of es)) (ap (λ y. same_atom (uuid u) (atom_of y)) (same_Some x first e) ∙ the_atom (atom_of first) is)

pub if_some : {P : Uuid → Type 0} (o : Option Uuid) → ((u : Uuid) → o ≡ Some u → P u) → IfSome o P
if_some None h = tt
if_some (Some u) h = h u refl
