use Rattle.std.proofs.Common.{rules, ◌≡◌, ◌++◌, ◌∷◌, [], ap, sym, subst, ◌∙◌}
use Rattle.odb_service.specs.World.{Waiting}
use Rattle.odb_core.specs.Deadlines.{earlier, earliest}
use Rattle.odb_core.specs.Represented.Counts.{AreCounted, HasOneMore, count_of}
use Rattle.odb_core.proofs.EarliestDeadlines.{earliest_pushed}
use Rattle.odb_core.proofs.WaitingCounts.{counted_pushed}
use Rattle.odb_core.proofs.waiting_list.WaitingList.wait.Goals as goal

pub invariant_of-self-in-Ok : goal.invariant_of-self-in-Ok
invariant_of-self-in-Ok c =
    let i = c.self.inside in
    let w : Waiting = c.in-Ok.waiting in
    let put : c.push_reserved.new.self.items ≡ i.items.items ++ w ∷ [] = search rules in
    let more : HasOneMore i.counts c.add.new.self w.session = search rules in (
      subst (AreCounted c.add.new.self) (sym put) (counted_pushed (count_of i.counts) (count_of c.add.new.self) i.items.items w c.self.invariant.0 more),
      c.earlier-self-inside.ensures ∙ (λ j. earlier (c.self.invariant.1 j) (c.deadline.ensures j)) ∙ sym (earliest_pushed i.items.items w) ∙ ap earliest (sym put),
    )
