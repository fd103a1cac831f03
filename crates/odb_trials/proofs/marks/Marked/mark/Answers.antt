use Rattle.std.proofs.Common.{rules, ◌≡◌, ◌<◌, ◌≤◌, ◌++◌, ◌∷◌, [], ◌∙◌, ap, arith, length, subst, sym}
use Rattle.odb_chain.specs.Chains.{Chains, count, mark_of, marked, version}
use Rattle.odb_chain.specs.Marks.{AreAllMarks}
use Rattle.odb_trials.proofs.MarkLists.{few_counted, one_more}
use Rattle.odb_trials.proofs.marks.Marked.mark.Goals as goal

pub mark_now-mark-requires-clause-few : goal.mark_now-mark-requires-clause-few
mark_now-mark-requires-clause-few c =
    let k = c.self.inside.chains in
    let few : count k c.at.result (version k c.at.result) ≤ length c.self.inside.marks.items = few_counted k c.self.inside.marks.items c.at.result (version k c.at.result) c.self.invariant.2 in
    let short : length c.self.inside.marks.items < 100 = search rules in
    omega (arith, few, short)

pub invariant_of-self-2 : goal.invariant_of-self-2
invariant_of-self-2 c =
    let k = c.self.inside.chains in
    let new = c.mark_now-mark.new.self in
    let first : c.at.result ≡ 0 = search rules in
    let is : new ≡ marked 0 k = c.mark_now-mark.ensures.chains ∙ ap (λ t. marked t k) first in
    let mark : c.mark_now-mark.result ≡ mark_of k 0 = c.mark_now-mark.ensures.mark ∙ ap (mark_of k) first in
    let items : c.push_reserved.new.self.items ≡ c.self.inside.marks.items ++ c.mark_now-mark.result ∷ [] = search rules in
    let all = one_more k new c.mark_now-mark.result c.self.inside.marks.items c.self.invariant.0 c.db-now.ensures.lists c.self.invariant.1 mark is c.mark_now-mark.ensures.now c.self.invariant.2 in (
      subst (λ (x : Chains). 0 < length x.db) (sym is) c.self.invariant.0,
      c.mark_now-mark.ensures.now,
      subst (AreAllMarks new) (sym items) all,
    )
