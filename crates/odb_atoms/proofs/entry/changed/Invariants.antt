use Rattle.std.proofs.Common.{◌≡◌, map, ◌+◌, ◌++◌, length}
use Rattle.odb_atoms.specs.Represented.Entry.{IsRising}
use Rattle.odb_atoms.specs.Represented.Entry.{merged}
use Rattle.odb_atoms.proofs.entry.changed.Given as goal

abbrev pub invariant-loop-first : goal.invariant-loop-first
invariant-loop-first g l =
    let entries = map g.E.Entry.entry in
    (entries l.change.items ++ merged (entries l.old_left) (entries l.new_left) ≡ merged (entries l.fn.old) (entries l.fn.new)) × (IsRising (entries l.old_left) × IsRising (entries l.new_left))

abbrev pub decreases-loop-first : goal.decreases-loop-first
decreases-loop-first g l = length l.old_left + length l.new_left
