use Rattle.std.proofs.Common.{rules, ◌≡◌, ◌-◌, IsSome, Some, None, refl, sym, ap, subst, arith}
use Rattle.std.specs.BTreeMap as tree
use Rattle.std.specs.Ordering.{nat_cmp}
use Rattle.std.specs.Prelude.{unwrap_or}
use Rattle.odb_core.specs.Represented.Counts.{count_of}
use Rattle.odb_core.proofs.WaitingCounts.{one_less}
use Rattle.odb_core.proofs.counts.Counts.take.Goals as goal

pub returns-in_default : goal.returns-in_default
returns-in_default c = λ some.
    let shut : tree.get nat_cmp c.args.self.now.counts c.args.session ≡ None = search rules in
    let none : count_of c.args.self.now c.args.session ≡ 0 = ap (λ o. unwrap_or o 0) shut in
    absurd (omega (arith, some, none))

pub returns : goal.returns
returns c = λ some.
    let m = c.args.self.now.counts in
    let less = c.saturating_sub-less.result in
    let there : tree.get nat_cmp m c.args.session ≡ Some c.in-Some.count.now = search rules in
    let changed : tree.UpdatesBy nat_cmp (nat_cmp c.args.session) m (c.get_mut.follows.lender less) (Some less) = (c.get_mut.follows.holds less).3 (subst IsSome (sym there) refl) in
    let had : c.get.result ≡ count_of c.args.self.now c.args.session = c.get.ensures in
    let taken : less ≡ c.get.result - 1 = search rules in
    one_less c.args.session less m (c.get_mut.follows.lender less) changed (omega (arith, had, taken, some))
