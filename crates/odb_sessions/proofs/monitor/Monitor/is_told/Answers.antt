use Rattle.std.proofs.Common.{rules, ◌≡◌, List, subst, sym}
use Rattle.std.specs.List.{All}
use Rattle.odb_chain.specs.Chains.{Chains}
use Rattle.odb_sessions.specs.Composed.{AreNow, IsKnown}
use Rattle.odb_sessions.specs.Marked.{MarkedMonitor, Watched, marks_in}
use Rattle.odb_sessions.specs.Tied.{AreLive}
use Rattle.odb_sessions.proofs.Theirs.{known_all}
use Rattle.odb_sessions.proofs.monitor.Monitor.is_told.Goals as goal

pub are_now-requires : goal.are_now-requires
are_now-requires c =
    let k : Chains = c.args.chains.now in
    let ws : List Watched = c.self.inside.tables.items in
    let slice : c.as_slice.result.now ≡ ws = search rules in
    subst (λ (vs : List Watched). All (IsKnown k) vs) (sym slice)
    (known_all k ws (subst (λ (x : MarkedMonitor). AreLive k (marks_in x)) (sym c.self.view_is) c.requires) c.self.invariant.0)

pub returns : goal.returns
returns c = λ now.
    let db = c.args.chains.now.db in
    let slice : c.as_slice.result.now ≡ c.self.inside.tables.items = search rules in
    subst (λ (x : MarkedMonitor). AreNow db x.tables) c.self.view_is (subst (AreNow db) slice (c.are_now.ensures now))
