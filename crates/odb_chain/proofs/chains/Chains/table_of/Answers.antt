use Rattle.std.proofs.Common.{rules, ◌≡◌, ◌<◌, ◌≤◌, arith, List, length, subst, sym, ap}
use Rattle.odb_tables.specs.Database.{Db}
use Rattle.odb_chain.specs.Chains.{Chains, IsLive, IsNow, Mark}
use Rattle.odb_chain.specs.Represented.Chain.{Chain, shown}
use Rattle.odb_chain.proofs.Shown.{as_many_live, is_now, live_inside}
use Rattle.odb_chain.proofs.chains.Chains.table_of.Goals as goal

pub prove-unreachable-requires : goal.prove-unreachable-requires
prove-unreachable-requires c =
    let db : Db = c.self.inside.db in
    let cs : List Chain = c.self.inside.chains.items in
    let m : Mark = c.args.mark.now in
    let live : IsLive (shown db cs) m = subst (λ (k : Chains). IsLive k m) (sym c.self.view_is) c.requires in
    let low : m.table < length cs = live_inside db cs m c.self.invariant live in
    let long : length cs ≡ c.self.inside.chains.len = search rules in
    let here : c.mark.inside.table ≡ m.table = ap (λ (y : Mark). y.table) c.mark.view_is in
    let place : c.place.result ≡ c.mark.inside.table = c.place.ensures in
    let past : c.len.result ≤ c.place.result = c.if-prove.true in
    let many : c.len.result ≡ c.self.inside.chains.len = c.len.ensures in
    omega (arith, low, long, here, place, past, many)

pub returns-clause-lives : goal.returns-clause-lives
returns-clause-lives c = subst (λ (k : Chains). length k.live ≡ length k.db) c.self.view_is (as_many_live c.self.inside.db c.self.inside.chains.items c.self.invariant.0)

pub returns-clause-now : goal.returns-clause-now
returns-clause-now c = subst IsNow c.self.view_is (is_now c.self.inside.db c.self.inside.chains.items c.self.invariant)
