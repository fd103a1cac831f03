-- The atoms of a value, as the code lists them; and columns in which no session names an atom.
use Rattle.std.specs.Prelude.{◌≡◌, ℕ, Bool, false, ◌||◌, List, [], ◌∷◌, map, Option, Some, None}
use mathlib.Core.Path.{refl, sym, ap, ◌∙◌}
use Rattle.std.proofs.lemmas.List.{nil_from_length}
use Rattle.std.specs.BTreeMap.{btree_map_len, is_at}
use Rattle.std.specs.BTreeSet.{contains}
use Rattle.std.specs.Borrow.{Bor}
use Rattle.std.specs.List.{list_any}
use Rattle.std.specs.Map.{lookup}
use Rattle.std.specs.Ordering.{nat_cmp}
use Rattle.odb_atoms.proofs.Lists.{any-map}
use Rattle.odb_atoms.specs.Atom as model
use Rattle.odb_atoms.specs.Atom.{atom_cmp}
use Rattle.odb_atoms.specs.FinMap as finite
use Rattle.odb_atoms.specs.FinSet as set
use Rattle.odb_atoms.specs.Represented.Atom.{atom_of}
use Rattle.odb_atoms.specs.Represented.Value.{Lists, pair_of}
use Rattle.odb_atoms.specs.Row.{Row, Selector, cell}
use Rattle.odb_atoms.specs.Uuid.{Uuid}
use Rattle.odb_atoms.specs.Value.{Value, map_of, set_of}
use Rattle.odb_atoms.specs.declared.atom.Atom.{Atom}
use Rattle.odb_atoms.specs.declared.value.Entries.TheVariants as entries
use Rattle.odb_interest.specs.Keys.{atoms_in}
use Rattle.odb_interest.specs.Represented.SessionsByAtom.{names}
use Rattle.odb_interest.specs.Represented.Found.{RowChange, names_in, names_some}
use Rattle.odb_interest.specs.Represented.Key.{held}
use Rattle.odb_interest.specs.declared.column.SessionsByAtom.{SessionsByAtom}

pub atoms-listed : (s : List Atom) (v : Value) → Lists (entries.Set s) v → map atom_of s ≡ atoms_in v
atoms-listed s (set_of t) h = h
atoms-listed s (map_of m) h = absurd h

keys-pairs : (ps : List (Atom × Atom)) → map (λ p. atom_of p.0) ps ≡ map (λ p. p.0) (map pair_of ps)
keys-pairs [] = refl
keys-pairs (p ∷ ps) = ap (λ more. atom_of p.0 ∷ more) (keys-pairs ps)

pub keys-listed : (s : List (Atom × Atom)) (v : Value) → Lists (entries.Map s) v → map (λ p. atom_of p.0) s ≡ atoms_in v
unfolding finite.keys
keys-listed s (set_of t) h = absurd h
keys-listed s (map_of m) h = keys-pairs s ∙ ap (map (λ p. p.0)) h

-- an empty set has no atoms
pub none_there : atoms_in (set_of set.empty) ≡ []
unfolding finite.keys finite.empty
none_there = refl

pub any-listed : (p : model.Atom → Bool) (s : List Atom) (v : Value) → Lists (entries.Set s) v → list_any (λ a. p (atom_of a)) s ≡ list_any p (atoms_in v)
any-listed p s v h = sym (any-map p atom_of s) ∙ ap (list_any p) (atoms-listed s v h)

pub any-keys_listed : (p : model.Atom → Bool) (s : List (Atom × Atom)) (v : Value) → Lists (entries.Map s) v → list_any (λ e. p (atom_of e.0)) s ≡ list_any p (atoms_in v)
any-keys_listed p s v h = sym (any-map p (λ e. atom_of e.0) s) ∙ ap (list_any p) (keys-listed s v h)

pub any_never : {X : Type 0} (p : X → Bool) (xs : List X) → ((x : X) → p x ≡ false) → list_any p xs ≡ false
any_never p [] h = refl
any_never p (x ∷ xs) h = ap (λ b. b || list_any p xs) (h x) ∙ any_never p xs h

-- ---- no session names an atom of the column

module _ (c : SessionsByAtom) (none : btree_map_len c.sessions ≡ 0) where
  names_none : (a : model.Atom) (s : ℕ) → names c a s ≡ false
  names_none a s = ap (λ es. held (λ sessions. contains nat_cmp sessions s) (lookup (is_at (λ k. atom_cmp a (atom_of k))) es)) (nil_from_length c.sessions.entries none)

  none_in_row : (at : Selector) (u : Uuid) (o : Option Row) (s : ℕ) → names_in c at u o s ≡ false
  none_in_row at u None s = refl
  none_in_row at u (Some r) s = any_never (λ a. names c a s) (atoms_in (cell u r at)) (λ a. names_none a s)

  pub none_in_rows : (at : Selector) (rows : List RowChange) (s : ℕ) → names_some c at rows s ≡ false
  none_in_rows at rows s = any_never (λ e. names_in c at e.0 e.1.0 s || names_in c at e.0 e.1.1 s) rows (λ e i. none_in_row at e.0 e.1.0 s i || none_in_row at e.0 e.1.1 s i)
