use Rattle.std.proofs.Common.{rules, ◌≡◌, Some, None, option_map, sym, ap, ◌∙◌, subst}
use Rattle.std.proofs.lemmas.Result.{IfOk-weaker}
use Rattle.odb_service.specs.Session.{refilter}
use Rattle.odb_round.specs.Foreseen.{Ahead, as_told, seen_ahead}
use Rattle.odb_round.specs.Jobs.{certainly}
use Rattle.odb_sessions.specs.Marked.{MarkedMonitor, watch_of}
use Rattle.odb_sessions.specs.Represented.Under.{filters_in}
use Rattle.odb_round.specs.Sending.{update_sending}
use Rattle.odb_round.proofs.foreseen.Ahead.update.Goals as goal
use Rattle.odb_round.specs.Represented.Served.{IsServed, place_told}
use Rattle.odb_sessions.specs.Book.{revision_at}

pub returns-in-None-clause-text : goal.returns-in-None-clause-text
returns-in-None-clause-text c =
    let db = c.args.wanted.now.chains.db in
    let revision = revision_at c.args.wanted.now.chains c.args.wanted.now.recent in
    let fs = filters_in c.args.under in
    let x : MarkedMonitor = c.self.inside.monitor.now in
    let none : c.self.inside.told ≡ None = search rules in
    let same : as_told x ≡ c.args.self.now = (λ i. let a : Ahead = record { marked = x; told = option_map filters_in (sym none i) } in a) ∙ c.self.view_is in
    IfOk-weaker c.update.result _ _
    (λ message e. λ h all kept. e h all kept ∙ ap (λ (a : Ahead). option_map certainly (update_sending h revision (refilter fs (watch_of a.marked).requests) (seen_ahead db a))) same)
    c.update.ensures.text

pub returns-in-Some-clause-text : goal.returns-in-Some-clause-text
returns-in-Some-clause-text c =
    let db = c.args.wanted.now.chains.db in
    let revision = revision_at c.args.wanted.now.chains c.args.wanted.now.recent in
    let fs = filters_in c.args.under in
    let x : MarkedMonitor = c.self.inside.monitor.now in
    let told = c.in-Some.told in
    let some : c.self.inside.told ≡ Some told = search rules in
    let last : Ahead = record { marked = x; told = Some (filters_in told) } in
    let same : last ≡ c.args.self.now = (λ i. let a : Ahead = record { marked = x; told = option_map filters_in (sym some i) } in a) ∙ c.self.view_is in
    IfOk-weaker c.update_again.result _ _
    (λ message e. λ h all kept. e h all kept ∙ ap (λ (a : Ahead). option_map certainly (update_sending h revision (refilter fs (watch_of a.marked).requests) (seen_ahead db a))) same)
    c.update_again.ensures.text

pub returns-in-None-clause-marks : goal.returns-in-None-clause-marks
returns-in-None-clause-marks c =
    IfOk-weaker c.update.result _ _
    (λ message e. subst (λ (a : Ahead). IsServed c.args.wanted.now.likenesses c.update.new.wanted.likenesses (λ h. h ≡ a.marked) (place_told message)) c.self.view_is e)
    c.update.ensures.marks

pub returns-in-Some-clause-marks : goal.returns-in-Some-clause-marks
returns-in-Some-clause-marks c =
    IfOk-weaker c.update_again.result _ _
    (λ message e. subst (λ (a : Ahead). IsServed c.args.wanted.now.likenesses c.update_again.new.wanted.likenesses (λ h. h ≡ a.marked) (place_told message)) c.self.view_is e)
    c.update_again.ensures.marks
