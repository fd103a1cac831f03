use Rattle.std.proofs.Common.{◌≡◌, true, length}
use Rattle.std.specs.List.{list_any}
use Rattle.odb_atoms.specs.Uuid.{Uuid}
use Rattle.odb_tables.proofs.entry.pass_over.Given as goal

abbrev pub invariant-loop-first : goal.invariant-loop-first
invariant-loop-first g l = (tag : Uuid) → list_any (g.E.Entry.mentions tag) l.entries ≡ true → list_any (g.E.Entry.mentions tag) l.initial.entries ≡ true

abbrev pub decreases-loop-first : goal.decreases-loop-first
decreases-loop-first g l = length l.entries
