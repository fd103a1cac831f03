use Rattle.std.proofs.Common.{rules, ◌≡◌, ◌≤◌, List, ◌++◌, nat_eq, true, false, subst, sym, ap, ◌∙◌}
use Rattle.odb_chain.specs.Represented.Chain.{AreRising, Chain, fewer, here, marked_versions}
use Rattle.odb_chain.specs.Represented.MarkedVersions.{is_marked}
use Rattle.odb_chain.proofs.chain.Chain.take.Goals as goal
use Rattle.odb_chain.proofs.MarkedVersions.{MarkedVersion, fewer_before, fewer_here, fresh_some, rising_fewer}

pub overflow_sub-self : goal.overflow_sub-self
overflow_sub-self c =
    let x : Chain = c.args.self.now in
    let rising : AreRising x.version x.live = subst (λ (y : Chain). AreRising y.version y.live) c.self.view_is c.self.invariant in
    let same : c.args.version ≡ c.self.inside.version = search rules in
    let here_is : is_marked x.version (marked_versions x) ≡ true = ap (λ p. is_marked p (marked_versions x)) (sym (same ∙ ap (λ (y : Chain). y.version) c.self.view_is)) ∙ c.requires in
    subst (λ (y : Chain). 1 ≤ y.fresh) (sym c.self.view_is) (fresh_some x rising here_is)

pub returns-then-version-self-clause-marked_versions : goal.returns-then-version-self-clause-marked_versions
returns-then-version-self-clause-marked_versions c =
    let i = c.self.inside in
    let same : c.args.version ≡ i.version = search rules in
    sym (fewer_here i.version i.fresh i.live.items c.self.invariant) ∙ (λ j. fewer (sym same j) (marked_versions (c.self.view_is j)))

pub invariant_of-self-else-version-self : goal.invariant_of-self-else-version-self
invariant_of-self-else-version-self c = subst (AreRising c.self.inside.version) (sym c.take_in.ensures) (rising_fewer c.self.inside.version c.args.version c.self.inside.live.items c.self.invariant)

pub returns-else-version-self-clause-marked_versions : goal.returns-else-version-self-clause-marked_versions
returns-else-version-self-clause-marked_versions c =
    let i = c.self.inside in
    let other : nat_eq c.args.version i.version ≡ false = search rules in
    ap (λ (ls : List MarkedVersion). ls ++ here i.version i.fresh) c.take_in.ensures ∙ sym (fewer_before i.version c.args.version i.fresh i.live.items other) ∙ (λ j. fewer c.args.version (marked_versions (c.self.view_is j)))

pub returns-else-version-self-clause-rising : goal.returns-else-version-self-clause-rising
returns-else-version-self-clause-rising c = invariant_of-self-else-version-self c
