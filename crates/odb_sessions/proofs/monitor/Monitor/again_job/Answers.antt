use Rattle.std.proofs.Common.{rules, ◌≡◌, false, List, length, subst, sym, ap, ◌∙◌}
use Rattle.std.specs.List.{All}
use Rattle.odb_chain.specs.Chains.{Chains}
use Rattle.odb_monitor.specs.Job.{Job}
use Rattle.odb_request.specs.Represented.Notation.{notation_of}
use Rattle.odb_sessions.specs.Composed.{IsKnown}
use Rattle.odb_sessions.specs.Filtered.{Filters, all_parts_again}
use Rattle.odb_sessions.specs.Marked.{MarkedMonitor, Watched, marks_in}
use Rattle.odb_sessions.specs.Represented.Under.{filters_in}
use Rattle.odb_sessions.specs.Tied.{AreLive}
use Rattle.odb_sessions.proofs.Theirs.{as_many, known_all}
use Rattle.odb_sessions.proofs.monitor.Monitor.again_job.Goals as goal

pub parts_again-requires-clause-many : goal.parts_again-requires-clause-many
parts_again-requires-clause-many c =
    let x : MarkedMonitor = c.args.self.now in
    let fs : Filters = c.requires.requests.0 in
    let slice : c.as_slice.result.now ≡ c.self.inside.tables.items = search rules in
    let tables : c.as_slice.result.now ≡ x.tables = slice ∙ ap (λ (y : MarkedMonitor). y.tables) c.self.view_is in
    ap length c.requires.requests.1 ∙ as_many fs x.tables ∙ sym (ap length tables)

pub parts_again-requires-clause-known : goal.parts_again-requires-clause-known
parts_again-requires-clause-known c =
    let k : Chains = c.args.chains.now in
    let ws : List Watched = c.self.inside.tables.items in
    let slice : c.as_slice.result.now ≡ ws = search rules in
    subst (λ (vs : List Watched). All (IsKnown k) vs) (sym slice)
    (known_all k ws (subst (λ (y : MarkedMonitor). AreLive k (marks_in y)) (sym c.self.view_is) c.requires.live) c.self.invariant.0)

pub returns : goal.returns
returns c =
    let db = c.args.chains.now.db in
    let x : MarkedMonitor = c.args.self.now in
    let gs : Filters = filters_in c.args.told in
    let slice : c.as_slice.result.now ≡ c.self.inside.tables.items = search rules in
    let tables : c.as_slice.result.now ≡ x.tables = slice ∙ ap (λ (y : MarkedMonitor). y.tables) c.self.view_is in
    let notation : notation_of c.self.inside.notation ≡ x.notation = ap (λ (y : MarkedMonitor). y.notation) c.self.view_is in
    let parts : c.in_ok-parts.parts.items ≡ all_parts_again db gs x.tables c.args.requests.now =
    c.in_ok-parts.ensures ∙ ap (λ (ws : List Watched). all_parts_again db gs ws c.args.requests.now) tables
    in
    c.new.ensures ∙ (λ i. let j : Job = record { notation = notation i; first = false; reply = false; parts = parts i } in j)
