-- One of the two atoms of a pair.
use Rattle.odb_atoms.specs.declared.atom.Atom.{Atom}
use Rattle.odb_integrity.specs.declared.references.PairSide.{PairSide}
use Rattle.odb_integrity.specs.declared.references.PairSide.TheVariants as side

abbrev pub atom_at : PairSide → Atom × Atom → Atom
atom_at side.Key p = p.0
atom_at side.Value p = p.1
