use Rattle.std.proofs.Common.{rules, ◌≡◌, ◌++◌, ◌∷◌, [], ap, sym, subst, ◌∙◌}
use Rattle.odb_core.specs.Deadlines.{earlier, earliest}
use Rattle.odb_core.specs.Represented.Counts.{AreCounted, HasOneMore, count_of}
use Rattle.odb_core.proofs.EarliestDeadlines.{earliest_pushed}
use Rattle.odb_core.proofs.WaitingCounts.{counted_pushed}
use Rattle.odb_core.proofs.waiting_list.WaitingList.push.Goals as goal

pub invariant_of-self-in_err-add : goal.invariant_of-self-in_err-add
invariant_of-self-in_err-add c =
    let same : c.reserve.new.self.items ≡ c.self.inside.items.items = search rules in
    (subst (AreCounted c.add.new.self) (sym same) (λ s. c.in_err-add.ensures.err s ∙ c.self.invariant.0 s), c.self.invariant.1 ∙ ap earliest (sym same))

pub invariant_of-self-2 : goal.invariant_of-self-2
invariant_of-self-2 c =
    let i = c.self.inside in
    let put : c.push_reserved.new.self.items ≡ i.items.items ++ c.args.waiting ∷ [] = search rules in
    let more : HasOneMore i.counts c.add.new.self c.args.waiting.session = subst (HasOneMore i.counts c.add.new.self) c.session.ensures c.in_ok-add.ensures.ok in (
      subst (AreCounted c.add.new.self) (sym put) (counted_pushed (count_of i.counts) (count_of c.add.new.self) i.items.items c.args.waiting c.self.invariant.0 more),
      c.earlier-self-inside.ensures ∙ (λ j. earlier (c.self.invariant.1 j) (c.deadline.ensures j)) ∙ sym (earliest_pushed i.items.items c.args.waiting) ∙ ap earliest (sym put),
    )
