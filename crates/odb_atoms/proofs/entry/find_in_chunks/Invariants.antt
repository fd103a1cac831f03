use Rattle.std.proofs.Common.{◌≡◌, length, map}
use Rattle.odb_atoms.specs.Represented.Atom.{atom_of}
use Rattle.odb_atoms.specs.Represented.Entry.{IsRising, entry_at}
use Rattle.odb_chunks.specs.Represented.Chunks.{AreFilled, items_in}
use Rattle.odb_atoms.proofs.entry.find_in_chunks.Given as goal

abbrev pub invariant-loop-left : goal.invariant-loop-left
invariant-loop-left g l =
    let entries = map g.E.Entry.entry in
    record {
      rising : IsRising (entries (items_in l.left));
      filled : AreFilled l.left;
      found : entry_at (entries (items_in l.left)) (atom_of l.fn.key) ≡ entry_at (entries (items_in l.fn.chunks)) (atom_of l.fn.key);
    }

abbrev pub decreases-loop-left : goal.decreases-loop-left
decreases-loop-left g l = length l.left
