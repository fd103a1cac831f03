-- What the entries of values mention.
use Rattle.std.specs.Prelude.{◌≡◌, Bool, false, Option, Some, None}
use mathlib.Core.Path.{ap}
use Rattle.std.specs.declared.cmp.Ordering.TheVariants.{Equal}
use Rattle.std.specs.Ordering.{ordering_then}
use Rattle.std.proofs.lemmas.Map.Lookups.{exact_pairs}
use Rattle.odb_atoms.specs.Atom.{atom_cmp, same_atom, uuid}
use Rattle.odb_atoms.specs.Represented.Atom.{atom_of}
use Rattle.odb_atoms.specs.Represented.Value.{pair_of}
use Rattle.odb_atoms.specs.Uuid.{Uuid}
use Rattle.odb_atoms.specs.Value.{Value}
use Rattle.odb_atoms.specs.declared.atom.Atom.{Atom}
use Rattle.odb_atoms.proofs.Atoms.{atom_cmp-IsAntisymmetric}
use Rattle.odb_tables.specs.Indexed.{mentions}
use Rattle.odb_tables.specs.Represented.RowTest.{is_in}

-- the identifier is the element of a set
abbrev pub element_mentions : Uuid → Atom → Bool
element_mentions tag a = same_atom (uuid tag) (atom_of a)

-- the identifier is the key or the value of a pair of a map
abbrev pub pair_mentions : Uuid → Atom × Atom → Bool
pair_mentions tag p = is_in (uuid tag) (pair_of p)

-- there is a value, and it mentions the identifier
abbrev pub mentions_now : Uuid → Option Value → Bool
mentions_now tag None = false
mentions_now tag (Some v) = mentions tag v

-- ---- what is equal mentions the same

pub same_elements : (tag : Uuid) (a b : Atom) → atom_cmp (atom_of a) (atom_of b) ≡ Equal → element_mentions tag a ≡ element_mentions tag b
same_elements tag a b e = ap (same_atom (uuid tag)) (atom_cmp-IsAntisymmetric (atom_of a) (atom_of b) e)

pub same_pairs : (tag : Uuid) (p q : Atom × Atom) → ordering_then (atom_cmp (atom_of p.0) (atom_of q.0)) (atom_cmp (atom_of p.1) (atom_of q.1)) ≡ Equal → pair_mentions tag p ≡ pair_mentions tag q
same_pairs tag p q e = ap (is_in (uuid tag)) (exact_pairs atom_cmp atom_cmp atom_cmp-IsAntisymmetric atom_cmp-IsAntisymmetric (pair_of p) (pair_of q) e)
