use Rattle.std.proofs.Common.{rules, ◌≡◌, List, option_map, sym, ap, ◌∙◌}
use Rattle.std.proofs.lemmas.Result.{IfOk-weaker}
use Rattle.odb_request.specs.Request.{Request}
use Rattle.odb_service.specs.Session.{refilter}
use Rattle.odb_round.specs.Jobs.{certainly}
use Rattle.odb_sessions.specs.Marked.{MarkedMonitor, monitor_of, watch_of}
use Rattle.odb_sessions.specs.Represented.Under.{filters_in}
use Rattle.odb_sessions.specs.declared.under.Under.{Under}
use Rattle.odb_sessions.specs.declared.under.Under.TheVariants as under
use Rattle.odb_round.specs.Sending.{update_sending}
use Rattle.odb_round.proofs.Updates.{refilter_none}
use Rattle.odb_round.proofs.planning.update.Goals as goal
use Rattle.odb_sessions.specs.Book.{revision_at}

pub returns-in-Asked-clause-text : goal.returns-in-Asked-clause-text
returns-in-Asked-clause-text c =
    let x : MarkedMonitor = c.args.monitor.now in
    let qs : List Request = (watch_of x).requests in
    let is : c.args.under ≡ under.Asked = search rules in
    IfOk-weaker c.update_asked.result _ _
    (λ message e. λ h all kept. e h all kept ∙ ap (λ (rs : List Request). option_map certainly (update_sending h (revision_at c.args.wanted.now.chains c.args.wanted.now.recent) rs (monitor_of x))) (sym (refilter_none qs) ∙ ap (λ (u : Under). refilter (filters_in u) qs) (sym is)))
    c.update_asked.ensures.text
