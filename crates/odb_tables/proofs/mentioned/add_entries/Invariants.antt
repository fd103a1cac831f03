use Rattle.std.proofs.Common.{◌≡◌, ◌⊎◌, ◌+◌, true, length}
use Rattle.std.specs.List.{list_any}
use Rattle.odb_atoms.specs.Uuid.{Uuid}
use Rattle.odb_tables.specs.Represented.Pairs.{Grows, has}
use Rattle.odb_tables.proofs.mentioned.add_entries.Given as goal

abbrev pub invariant-loop-next : goal.invariant-loop-next
invariant-loop-next g l =
    let mentions = g.E.Entry.mentions in
    record {
      grows : Grows l.initial.pairs l.pairs;
      within : (tag : Uuid) → list_any (mentions tag) l.old_left ≡ true → list_any (mentions tag) l.before ≡ true;
      rest : (tag : Uuid) → list_any (mentions tag) l.entries ≡ true → ((list_any (mentions tag) l.before ≡ true) ⊎ (has l.pairs tag l.key ≡ true)) ⊎ (list_any (mentions tag) l.new_left ≡ true);
    }

abbrev pub decreases-loop-next : goal.decreases-loop-next
decreases-loop-next g l = length l.old_left + length l.new_left
