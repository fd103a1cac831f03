use Rattle.std.proofs.Common.{◌≡◌, ◌<◌, arith, length, subst, sym}
use Rattle.odb_chain.specs.Chains.{Chains, count}
use Rattle.odb_chain.specs.Marks.{AreAllMarks}
use Rattle.odb_tables.specs.Database.{Db}
use Rattle.odb_trials.proofs.MarkLists.{none_counted}
use Rattle.odb_trials.proofs.marks.Marked.new.Goals as goal

pub invariant_of-result : goal.invariant_of-result
invariant_of-result c =
    let k = c.in_ok-chains.chains in
    let is = c.in_ok-chains.ensures.chains in (
      subst (λ (x : Chains). 0 < length x.db) (sym is) (subst (λ (d : Db). 0 < length d) (sym c.in_ok-db.ensures) (omega arith)),
      c.in_ok-chains.ensures.now,
      subst (AreAllMarks k) (sym c.new-3.ensures.items) (tt, λ t p. subst (λ (x : Chains). 0 ≡ count x t p) (sym is) (none_counted c.in_ok-db.db t p)),
    )
