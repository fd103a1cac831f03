use Rattle.std.proofs.Common.{◌≡◌, true}
use mathlib.Core.Path.{subst, sym}
use Rattle.odb_cond.specs.Condition.{holds_all}
use Rattle.odb_cond.proofs.Pins.{asked_there}
use Rattle.odb_cond.proofs.conditions.Where.required.Goals as goal

pub returns-in-Some : goal.returns-in-Some
returns-in-Some c =
    let clauses = c.deref-clause-items.result.now in
    record {
      in_each_match = λ u r matches. c.in-Some.ensures u r
          (asked_there clauses c.loop-clause.clause-index c.clause-item.result c.loop-clause-test.true c.clause-item.is u r
          (subst (λ cs. holds_all cs u r ≡ true) (sym c.loop-clause.invariant) matches));
    }
