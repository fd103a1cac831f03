use Rattle.std.proofs.Common.{rules, ◌≡◌, List, [], Some, None, ap, ◌∙◌}
use Rattle.std.proofs.lemmas.Result.{IfOk-weaker}
use Rattle.odb_service.specs.Session.{refilter}
use Rattle.odb_sessions.specs.Composed.{asked_of}
use Rattle.odb_sessions.specs.Marked.{MarkedMonitor, Watched}
use Rattle.odb_sessions.specs.Represented.Job.{asked_by, filters_by}
use Rattle.odb_sessions.specs.Represented.Under.{filters_in}
use Rattle.odb_sessions.proofs.lacking.requests_of.Goals as goal

pub returns-in_default : goal.returns-in_default
returns-in_default c =
    let none : None ≡ filters_by c.args.way = search rules in
    let empty : c.new.result.items ≡ [] = search rules in
    empty ∙ ap (asked_by c.args.monitor.now.tables) none

pub returns : goal.returns
returns c =
    let ws : List Watched = c.monitor.inside.tables.items in
    let u = c.in-Some.under in
    let some : Some (filters_in u) ≡ filters_by c.args.way = search rules in
    let slice : c.as_slice.result.now ≡ ws = search rules in
    let tables : c.as_slice.result.now ≡ c.args.monitor.now.tables = slice ∙ ap (λ (x : MarkedMonitor). x.tables) c.monitor.view_is in
    IfOk-weaker c.requests_under.result _ _
    (λ requests e. e ∙ ap (λ (vs : List Watched). refilter (filters_in u) (asked_of vs)) tables ∙ ap (asked_by c.args.monitor.now.tables) some)
    c.requests_under.ensures
