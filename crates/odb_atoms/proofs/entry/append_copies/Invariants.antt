use Rattle.std.proofs.Common.{◌≡◌, map, ◌++◌}
use Rattle.odb_atoms.proofs.entry.append_copies.Given as goal

abbrev pub invariant-loop-entry : goal.invariant-loop-entry
invariant-loop-entry g l =
    map g.E.Entry.entry l.copies.items ++ map g.E.Entry.entry l.entry-iterator ≡ map g.E.Entry.entry l.fn.copies.items ++ map g.E.Entry.entry l.fn.entries
