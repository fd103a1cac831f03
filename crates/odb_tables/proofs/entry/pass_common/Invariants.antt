use Rattle.std.proofs.Common.{◌≡◌, ◌⊎◌, ◌≤◌, true, length}
use Rattle.std.specs.List.{list_any}
use Rattle.odb_atoms.specs.Uuid.{Uuid}
use Rattle.odb_tables.proofs.entry.pass_common.Given as goal

abbrev pub invariant-loop-first : goal.invariant-loop-first
invariant-loop-first g l =
    let mentions = g.E.Entry.mentions in
    record {
      left : (tag : Uuid) → list_any (mentions tag) l.old ≡ true → list_any (mentions tag) l.initial.old ≡ true;
      common : (tag : Uuid) → list_any (mentions tag) l.initial.new ≡ true → (list_any (mentions tag) l.initial.old ≡ true) ⊎ (list_any (mentions tag) l.new ≡ true);
      fewer_old : length l.old ≤ length l.initial.old;
      fewer_new : length l.new ≤ length l.initial.new;
    }

abbrev pub decreases-loop-first : goal.decreases-loop-first
decreases-loop-first g l = length l.old
