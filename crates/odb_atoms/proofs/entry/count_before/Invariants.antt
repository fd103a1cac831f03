use Rattle.std.proofs.Common.{◌≡◌, map, take}
use Rattle.odb_atoms.specs.Represented.Atom.{atom_of}
use Rattle.odb_atoms.specs.Represented.Entry.{AreBefore}
use Rattle.odb_atoms.proofs.entry.count_before.Given as goal

abbrev pub invariant-loop-entry : goal.invariant-loop-entry
invariant-loop-entry g l =
    (l.count ≡ l.entry-index) × AreBefore (take l.entry-index (map g.E.Entry.entry l.entries)) (atom_of l.fn.key)
