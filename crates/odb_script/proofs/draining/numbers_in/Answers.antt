use Rattle.std.proofs.Common.{rules, ◌≡◌, map, subst, sym, ◌∙◌}
use Rattle.std.specs.List.Sorted.{IsStrictlySortedBy}
use Rattle.std.specs.Ordering.{nat_cmp}
use Rattle.std.proofs.lemmas.Map.Iter.{iter_end}
use Rattle.odb_script.proofs.draining.numbers_in.Goals as goal

pub returns-clause-numbers : goal.returns-clause-numbers
returns-clause-numbers c =
    let all : map (λ k. k.now) c.loop-number.yielded ≡ c.args.set.now.keys = search (rules, iter_end) in
    c.loop-number.invariant ∙ all

pub returns-clause-rising : goal.returns-clause-rising
returns-clause-rising c =
    let all : map (λ k. k.now) c.loop-number.yielded ≡ c.args.set.now.keys = search (rules, iter_end) in
    subst (IsStrictlySortedBy nat_cmp) (sym (c.loop-number.invariant ∙ all)) c.len.ensures.ordered
