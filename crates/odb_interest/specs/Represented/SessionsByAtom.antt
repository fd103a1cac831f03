-- Which sessions name which atoms in a column, and what a call changes of that.
use Rattle.std.specs.Prelude.{◌≡◌, ℕ, Bool, ◌&&◌, ◌==◌, if◌then◌else◌, Option}
use Rattle.std.specs.BTreeMap.{BTreeMap, get_by}
use Rattle.std.specs.BTreeSet.{contains}
use Rattle.std.specs.Ordering.{nat_cmp}
use Rattle.odb_atoms.specs.Atom.{Atom, atom_cmp, same_atom}
use Rattle.odb_atoms.specs.Represented.Atom.{atom_of}
use Rattle.odb_atoms.specs.declared.atom.Atom as code
use Rattle.odb_interest.specs.Represented.Key.{held}
use Rattle.odb_interest.specs.declared.column.SessionsByAtom.{SessionsByAtom}

-- what a map of the code has at an atom
abbrev pub at_atom : {V : Type 0} → BTreeMap code.Atom V → Atom → Option V
at_atom m a = get_by (λ k. atom_cmp a (atom_of k)) m

abbrev pub names : SessionsByAtom → Atom → ℕ → Bool
names c a s = held (λ sessions. contains nat_cmp sessions s) (at_atom c.sessions a)

-- the session names the atom now, or doesn't, and all else stays
abbrev pub Puts : SessionsByAtom → SessionsByAtom → Atom → ℕ → Bool → Type 0
Puts old new atom session b = (a : Atom) (s : ℕ) → names new a s ≡ (if same_atom a atom && (session == s) then b else names old a s)

abbrev pub IsUnchanged : SessionsByAtom → SessionsByAtom → Type 0
IsUnchanged old new = (a : Atom) (s : ℕ) → names new a s ≡ names old a s
