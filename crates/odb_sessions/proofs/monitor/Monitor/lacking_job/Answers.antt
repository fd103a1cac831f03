use Rattle.std.proofs.Common.{rules, ◌≡◌, List, map, subst, sym, ap, ◌∙◌}
use Rattle.std.specs.List.{All}
use Rattle.odb_chain.specs.Chains.{Chains}
use Rattle.odb_monitor.specs.Job.{updates_of}
use Rattle.odb_request.specs.Represented.Notation.{notation_of}
use Rattle.odb_sessions.specs.Composed.{IsKnown, later_job, part_to}
use Rattle.odb_sessions.specs.Marked.{MarkedMonitor, Watched, marks_in}
use Rattle.odb_sessions.specs.Tied.{AreLive}
use Rattle.odb_sessions.proofs.Theirs.{known_all}
use Rattle.odb_sessions.proofs.monitor.Monitor.lacking_job.Goals as goal

pub parts_lacking-requires : goal.parts_lacking-requires
parts_lacking-requires c =
    let k : Chains = c.args.chains.now in
    let ws : List Watched = c.self.inside.tables.items in
    let tables : c.as_slice-tables.result.now ≡ ws = search rules in
    subst (λ (vs : List Watched). All (IsKnown k) vs) (sym tables) (known_all k ws (subst (λ (x : MarkedMonitor). AreLive k (marks_in x)) (sym c.self.view_is) c.requires) c.self.invariant.0)

pub returns : goal.returns
returns c =
    let db = c.args.chains.now.db in
    let x : MarkedMonitor = c.args.self.now in
    let slice : c.as_slice-tables.result.now ≡ c.self.inside.tables.items = search rules in
    let tables : c.as_slice-tables.result.now ≡ x.tables = slice ∙ ap (λ (y : MarkedMonitor). y.tables) c.self.view_is in
    let notation : notation_of c.self.inside.notation ≡ x.notation = ap (λ (y : MarkedMonitor). y.notation) c.self.view_is in
    ap updates_of c.new.ensures ∙ c.in_ok-parts.ensures (notation_of c.self.inside.notation) ∙ (λ i. updates_of (later_job (notation i) (map (part_to db) (tables i))))
