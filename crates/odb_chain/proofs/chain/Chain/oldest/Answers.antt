use Rattle.std.proofs.Common.{rules, ◌≡◌, slice_get, Some, None, subst, sym, ap, ◌∙◌, nat_le}
use Rattle.odb_chain.specs.Represented.Chain.{AreRising, Chain, earliest, marked_versions}
use Rattle.odb_chain.proofs.MarkedVersions.{MarkedVersion, earliest_first, earliest_here, oldest_of}
use Rattle.odb_chain.proofs.chain.Chain.oldest.Goals as goal

pub returns-in-Some-clause-some : goal.returns-in-Some-clause-some
returns-in-Some-clause-some c = λ p there.
    let x : Chain = c.args.self.now in
    let l : MarkedVersion = c.in-Some.live.now in
    let rising : AreRising x.version x.live = subst (λ (y : Chain). AreRising y.version y.live) c.self.view_is c.self.invariant in
    let inside : slice_get c.self.inside.live.items 0 ≡ Some l = search rules in
    let first : slice_get x.live 0 ≡ Some l = ap (λ (y : Chain). slice_get y.live 0) (sym c.self.view_is) ∙ inside in
    ap (λ (y : MarkedVersion). nat_le y.0 p) c.live.view_is ∙ oldest_of x l rising first p there

pub returns-in-Some-clause-earliest : goal.returns-in-Some-clause-earliest
returns-in-Some-clause-earliest c =
    let i = c.self.inside in
    let l : MarkedVersion = c.in-Some.live.now in
    let first : slice_get i.live.items 0 ≡ Some l = search rules in
    ap (λ (y : MarkedVersion). Some y.0) c.live.view_is ∙ earliest_first i.version i.fresh i.live.items l first ∙ ap (λ (y : Chain). earliest (marked_versions y)) c.self.view_is

pub returns-in-None-clause-earliest : goal.returns-in-None-clause-earliest
returns-in-None-clause-earliest c =
    let x : Chain = c.args.self.now in
    let none : slice_get c.self.inside.live.items 0 ≡ None = search rules in
    let first : slice_get x.live 0 ≡ None = ap (λ (y : Chain). slice_get y.live 0) (sym c.self.view_is) ∙ none in
    earliest_here x.version x.fresh x.live c.here.result first c.here.ensures.none c.here.ensures.some
