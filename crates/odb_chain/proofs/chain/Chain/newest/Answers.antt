use Rattle.std.proofs.Common.{◌≡◌, ◌-◌, List, length, option_map, slice_get, subst, sym, ap, ◌∙◌}
use Rattle.std.proofs.lemmas.Option.{IfSome_then}
use Rattle.odb_chain.proofs.MarkedVersions.{here_there, last_there}
use Rattle.odb_chain.specs.Represented.Chain.{AreRising, Chain}
use Rattle.odb_chain.proofs.MarkedVersions.{MarkedVersion, newest_before, newest_here, newest_past}
use Rattle.odb_chain.proofs.chain.Chain.newest.Goals as goal

pub returns-in-Some-clause-some : goal.returns-in-Some-clause-some
returns-in-Some-clause-some c =
    let x : Chain = c.args.self.now in
    let rising : AreRising x.version x.live = subst (λ (y : Chain). AreRising y.version y.live) c.self.view_is c.self.invariant in
    newest_here x rising c.in-Some.version c.in-Some.ensures.some.0

pub returns-in-None-clause-some : goal.returns-in-None-clause-some
returns-in-None-clause-some c =
    let x : Chain = c.args.self.now in
    let rising : AreRising x.version x.live = subst (λ (y : Chain). AreRising y.version y.live) c.self.view_is c.self.invariant in
    let same : c.as_slice.result.now ≡ x.live = c.as_slice.ensures.value ∙ ap (λ (y : Chain). y.live) c.self.view_is in
    IfSome_then c.last_version.result c.last_version.ensures.some (λ n last. newest_before x rising c.in-None.ensures.none n (ap (λ (ls : List MarkedVersion). option_map (λ (l : MarkedVersion). l.0) (slice_get ls (length ls - 1))) (sym same) ∙ last))

pub returns-in-None-clause-past : goal.returns-in-None-clause-past
returns-in-None-clause-past c =
    let x : Chain = c.args.self.now in
    let rising : AreRising x.version x.live = subst (λ (y : Chain). AreRising y.version y.live) c.self.view_is c.self.invariant in
    let same : c.as_slice.result.now ≡ x.live = c.as_slice.ensures.value ∙ ap (λ (y : Chain). y.live) c.self.view_is in
    IfSome_then c.last_version.result c.last_version.ensures.some (λ n last. newest_past x rising n (ap (λ (ls : List MarkedVersion). option_map (λ (l : MarkedVersion). l.0) (slice_get ls (length ls - 1))) (sym same) ∙ last))

pub returns-in-Some-clause-marked : goal.returns-in-Some-clause-marked
returns-in-Some-clause-marked c = here_there c.args.self.now c.in-Some.version c.in-Some.ensures.some.0 c.in-Some.ensures.some.1

pub returns-in-None-clause-marked : goal.returns-in-None-clause-marked
returns-in-None-clause-marked c =
    let x : Chain = c.args.self.now in
    let same : c.as_slice.result.now ≡ x.live = c.as_slice.ensures.value ∙ ap (λ (y : Chain). y.live) c.self.view_is in
    IfSome_then c.last_version.result c.last_version.ensures.some (λ n last. last_there x n (ap (λ (ls : List MarkedVersion). option_map (λ (l : MarkedVersion). l.0) (slice_get ls (length ls - 1))) (sym same) ∙ last))
