use Rattle.std.proofs.Common.{rules, ◌≡◌, false, List, length, map, subst, sym, ap, ◌∙◌}
use Rattle.std.specs.List.{All}
use Rattle.odb_chain.specs.Chains.{Chains}
use Rattle.odb_monitor.specs.Job.{Job}
use Rattle.odb_request.specs.Represented.Notation.{notation_of}
use Rattle.odb_service.specs.Session.{refilter}
use Rattle.odb_sessions.specs.Composed.{IsKnown, all_asked_as, asked_of, part_to}
use Rattle.odb_sessions.specs.Filtered.{Filters}
use Rattle.odb_sessions.specs.Marked.{MarkedMonitor, Watched, marks_in}
use Rattle.odb_sessions.specs.Tied.{AreLive}
use Rattle.odb_sessions.proofs.Theirs.{as_many, known_under}
use Rattle.odb_sessions.proofs.monitor.Monitor.changed_job.Goals as goal

pub all_owed_as-requires : goal.all_owed_as-requires
all_owed_as-requires c =
    let x : MarkedMonitor = c.args.self.now in
    let fs : Filters = c.requires.requests.0 in
    let slice : c.as_slice-tables.result.now ≡ c.self.inside.tables.items = search rules in
    let tables : c.as_slice-tables.result.now ≡ x.tables = slice ∙ ap (λ (y : MarkedMonitor). y.tables) c.self.view_is in
    ap length c.requires.requests.1 ∙ as_many fs x.tables ∙ sym (ap length tables)

pub parts_of-requires : goal.parts_of-requires
parts_of-requires c =
    let k : Chains = c.args.chains.now in
    let x : MarkedMonitor = c.args.self.now in
    let fs : Filters = c.requires.requests.0 in
    let ws : List Watched = c.self.inside.tables.items in
    let same : ws ≡ x.tables = ap (λ (y : MarkedMonitor). y.tables) c.self.view_is in
    let tables : c.as_slice-tables.result.now ≡ ws = search rules in
    let slice : c.as_slice.result.now ≡ c.in_ok-owed.owed.items = search rules in
    let requests : c.args.requests.now ≡ refilter fs (asked_of ws) = c.requires.requests.1 ∙ ap (λ (vs : List Watched). refilter fs (asked_of vs)) (sym same) in
    let both : all_asked_as c.as_slice-tables.result.now c.args.requests.now ≡ all_asked_as ws (refilter fs (asked_of ws)) = λ i. all_asked_as (tables i) (requests i) in
    subst (λ (vs : List Watched). All (IsKnown k) vs) (sym (slice ∙ c.in_ok-owed.ensures ∙ both))
    (known_under k fs ws (subst (λ (y : MarkedMonitor). AreLive k (marks_in y)) (sym c.self.view_is) c.requires.live) c.self.invariant.0)

pub returns : goal.returns
returns c =
    let db = c.args.chains.now.db in
    let x : MarkedMonitor = c.args.self.now in
    let tables : c.as_slice-tables.result.now ≡ x.tables = (let inside : c.as_slice-tables.result.now ≡ c.self.inside.tables.items = search rules in inside ∙ ap (λ (y : MarkedMonitor). y.tables) c.self.view_is) in
    let slice : c.as_slice.result.now ≡ c.in_ok-owed.owed.items = search rules in
    let notation : notation_of c.self.inside.notation ≡ x.notation = ap (λ (y : MarkedMonitor). y.notation) c.self.view_is in
    let parts : c.in_ok-parts.parts.items ≡ map (part_to db) (all_asked_as x.tables c.args.requests.now) =
    c.in_ok-parts.ensures ∙ ap (map (part_to db)) (slice ∙ c.in_ok-owed.ensures ∙ ap (λ (ws : List Watched). all_asked_as ws c.args.requests.now) tables)
    in
    c.new.ensures ∙ (λ i. let j : Job = record { notation = notation i; first = false; reply = false; parts = parts i } in j)
