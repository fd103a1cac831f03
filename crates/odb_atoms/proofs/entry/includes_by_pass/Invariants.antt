use Rattle.std.proofs.Common.{◌≡◌, map, length}
use Rattle.std.specs.List.{list_all}
use Rattle.odb_atoms.specs.Represented.Entry.{has_entry, IsRising}
use Rattle.odb_atoms.proofs.entry.includes_by_pass.Given as goal

abbrev pub invariant-loop-next : goal.invariant-loop-next
invariant-loop-next g l =
    let entries = map g.E.Entry.entry in
    record {
      rising : IsRising (entries l.entries_left);
      wanted_rising : IsRising (entries l.wanted_left);
      same_answer : list_all (has_entry (entries l.entries_left)) (entries l.wanted_left) ≡ list_all (has_entry (entries l.fn.entries)) (entries l.fn.wanted);
    }

abbrev pub decreases-loop-next : goal.decreases-loop-next
decreases-loop-next g l = length l.entries_left
