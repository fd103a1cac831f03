use Rattle.std.proofs.Common.{◌≡◌, ◌⊎◌, true}
use Rattle.std.specs.List.{list_any}
use Rattle.odb_atoms.specs.Uuid.{Uuid}
use Rattle.odb_tables.specs.Represented.Pairs.{Grows, has}
use Rattle.odb_tables.proofs.mentioned.add_each.Given as goal

abbrev pub invariant-loop-entry : goal.invariant-loop-entry
invariant-loop-entry g l =
    let mentions = g.E.Entry.mentions in
    record {
      grows : Grows l.initial.pairs l.pairs;
      rest : (tag : Uuid) → list_any (mentions tag) l.entries ≡ true → (has l.pairs tag l.key ≡ true) ⊎ (list_any (mentions tag) l.entry-iterator ≡ true);
    }
