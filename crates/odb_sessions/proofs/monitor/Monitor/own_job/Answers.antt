use Rattle.std.proofs.Common.{rules, ◌≡◌, List, map, subst, sym, ap, ◌∙◌}
use Rattle.std.specs.List.{All}
use Rattle.odb_chain.specs.Chains.{Chains}
use Rattle.odb_monitor.specs.Job.{Job}
use Rattle.odb_request.specs.Represented.Notation.{notation_of}
use Rattle.odb_sessions.specs.Composed.{IsKnown, part_in}
use Rattle.odb_sessions.specs.Marked.{MarkedMonitor, Watched, marks_in}
use Rattle.odb_sessions.specs.Tied.{AreLive}
use Rattle.odb_sessions.proofs.Theirs.{known_all}
use Rattle.odb_sessions.proofs.monitor.Monitor.own_job.Goals as goal

pub parts_of-requires : goal.parts_of-requires
parts_of-requires c =
    let k : Chains = c.args.chains.now in
    let ws : List Watched = c.self.inside.tables.items in
    let tables : c.as_slice-tables.result.now ≡ ws = search rules in
    let slice : c.as_slice.result.now ≡ c.in_ok-owed.owed.items = search rules in
    let owed : c.as_slice.result.now ≡ ws = slice ∙ c.in_ok-owed.ensures ∙ tables in
    subst (λ (vs : List Watched). All (IsKnown k) vs) (sym owed) (known_all k ws (subst (λ (x : MarkedMonitor). AreLive k (marks_in x)) (sym c.self.view_is) c.requires) c.self.invariant.0)

pub returns : goal.returns
returns c =
    let db = c.args.chains.now.db in
    let x : MarkedMonitor = c.args.self.now in
    let tables : c.as_slice-tables.result.now ≡ c.self.inside.tables.items = search rules in
    let slice : c.as_slice.result.now ≡ c.in_ok-owed.owed.items = search rules in
    let owed : c.as_slice.result.now ≡ x.tables = slice ∙ c.in_ok-owed.ensures ∙ tables ∙ ap (λ (y : MarkedMonitor). y.tables) c.self.view_is in
    let notation : notation_of c.self.inside.notation ≡ x.notation = ap (λ (y : MarkedMonitor). y.notation) c.self.view_is in
    let parts : c.in_ok-parts.parts.items ≡ map (part_in c.args.first db) x.tables = c.in_ok-parts.ensures ∙ ap (map (part_in c.args.first db)) owed in
    c.new.ensures ∙ (λ i. let j : Job = record { notation = notation i; first = c.args.first; reply = c.args.first; parts = parts i } in j)
