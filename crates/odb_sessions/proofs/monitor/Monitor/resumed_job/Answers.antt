use Rattle.std.proofs.Common.{rules, ◌≡◌, true, false, List, map, take, subst, sym, ap, ◌∙◌}
use Rattle.std.specs.List.{All}
use Rattle.odb_chain.specs.Chains.{Chains}
use Rattle.odb_monitor.specs.Job.{Job}
use Rattle.odb_request.specs.Represented.Notation.{notation_of}
use Rattle.odb_sessions.specs.Composed.{IsKnown, asked_of, part_since}
use Rattle.odb_sessions.specs.Marked.{MarkedMonitor, Watched, marks_in}
use Rattle.odb_sessions.specs.Tied.{AreLive}
use Rattle.odb_sessions.proofs.Theirs.{known_all}
use Rattle.odb_sessions.proofs.monitor.Monitor.resumed_job.Goals as goal

pub parts_since-requires : goal.parts_since-requires
parts_since-requires c =
    let k : Chains = c.args.chains.now in
    let ws : List Watched = c.self.inside.tables.items in
    let slice : c.as_slice.result.now ≡ ws = search rules in
    subst (λ (vs : List Watched). All (IsKnown k) vs) (sym slice)
    (known_all k ws (subst (λ (y : MarkedMonitor). AreLive k (marks_in y)) (sym c.self.view_is) c.requires) c.self.invariant.0)

pub returns : goal.returns
returns c =
    let db = c.args.chains.now.db in
    let undos = take c.args.ago c.args.recent.now.undos in
    let x : MarkedMonitor = c.args.self.now in
    let slice : c.as_slice.result.now ≡ c.self.inside.tables.items = search rules in
    let tables : c.as_slice.result.now ≡ x.tables = slice ∙ ap (λ (y : MarkedMonitor). y.tables) c.self.view_is in
    let notation : notation_of c.self.inside.notation ≡ x.notation = ap (λ (y : MarkedMonitor). y.notation) c.self.view_is in
    let parts : c.in_ok-parts.parts.items ≡ map (part_since undos db) (asked_of x.tables) =
    c.in_ok-parts.ensures ∙ ap (λ (ws : List Watched). map (part_since undos db) (asked_of ws)) tables
    in
    c.resumed.ensures ∙ (λ i. let j : Job = record { notation = notation i; first = false; reply = true; parts = parts i } in j)
