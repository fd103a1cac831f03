use Rattle.std.proofs.Common.{rules, ◌≡◌, [], ap, sym, subst}
use Rattle.odb_core.specs.Deadlines.{earliest}
use Rattle.odb_core.specs.Represented.Counts.{AreCounted}
use Rattle.odb_core.proofs.waiting_list.WaitingList.take_all.Goals as goal

pub invariant_of-self : goal.invariant_of-self
invariant_of-self c =
    let none : c.replace-all.new.dest.items ≡ [] = search rules in
    (subst (AreCounted c.new-2.result) (sym none) c.new-2.ensures, sym (ap earliest none))
