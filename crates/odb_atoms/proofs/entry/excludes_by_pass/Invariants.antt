use Rattle.std.proofs.Common.{◌≡◌, map, not, ◌+◌, length}
use Rattle.std.specs.List.{list_all}
use Rattle.odb_atoms.specs.Represented.Entry.{has_entry, IsRising}
use Rattle.odb_atoms.proofs.entry.excludes_by_pass.Given as goal

abbrev pub invariant-loop-first : goal.invariant-loop-first
invariant-loop-first g l =
    let entries = map g.E.Entry.entry in
    record {
      rising : IsRising (entries l.entries_left);
      unwanted_rising : IsRising (entries l.unwanted_left);
      same_answer : list_all (λ e. not (has_entry (entries l.entries_left) e)) (entries l.unwanted_left) ≡ list_all (λ e. not (has_entry (entries l.fn.entries) e)) (entries l.fn.unwanted);
    }

abbrev pub decreases-loop-first : goal.decreases-loop-first
decreases-loop-first g l = length l.entries_left + length l.unwanted_left
