use Rattle.std.proofs.Common.{rules, ◌≡◌, ◌++◌, List, [], Some, flat_map, option_map, sym, ap, subst, ◌∙◌}
use Rattle.std.proofs.lemmas.Result.{on_ok_weaker}
use Rattle.std.specs.Bool.{OnTrue}
use Rattle.std.specs.Option.{option_copied}
use Rattle.odb_interest.specs.Keys.{Asked}
use Rattle.odb_sessions.specs.Marked.{MarkedMonitor, MarkedSession, seen}
use Rattle.odb_sessions.specs.Owed.{filters_asked, interest_if}
use Rattle.odb_sessions.proofs.Interests.{asks_it, kept_asks}
use Rattle.odb_sessions.proofs.interest.cover.Goals as goal

pub returns-then-are_asked-clause-ok : goal.returns-then-are_asked-clause-ok
returns-then-are_asked-clause-ok c =
    let x : MarkedSession = c.in-Some.of.now in
    let ms : List MarkedMonitor = c.as_slice-monitors.result.now in
    let there : option_copied c.args.of ≡ Some x = search rules in
    let monitors : ms ≡ x.monitors = search rules in
    let filters : List Asked = c.asked-filters.result.now in
    let same : filters ≡ flat_map filters_asked ms = subst (λ b. OnTrue b (filters ≡ flat_map filters_asked ms)) c.if-are_asked.true c.are_asked.ensures in
    sym c.asked-filters.ensures ∙ same ∙ ap (flat_map filters_asked) monitors ∙ kept_asks x ∙ ap (λ o. interest_if (option_map seen o)) (sym there)

pub returns-then-are_of_tables-clause-ok : goal.returns-then-are_of_tables-clause-ok
returns-then-are_of_tables-clause-ok c =
    let x : MarkedSession = c.in-Some.of.now in
    let ms : List MarkedMonitor = c.as_slice-monitors.result.now in
    let there : option_copied c.args.of ≡ Some x = search rules in
    let monitors : ms ≡ x.monitors = search rules in
    on_ok_weaker c.put_monitors.result
    (λ said. said ∙ ap (flat_map filters_asked) monitors ∙ kept_asks x ∙ ap (λ o. interest_if (option_map seen o)) (sym there))
    c.put_monitors.ensures.ok

pub returns-clause-ok : goal.returns-clause-ok
returns-clause-ok c =
    let x : MarkedSession = c.in-Some.of.now in
    let ms : List MarkedMonitor = c.as_slice-monitors.result.now in
    let there : option_copied c.args.of ≡ Some x = search rules in
    let monitors : ms ≡ x.monitors = search rules in
    on_ok_weaker c.add_monitors.result
    (λ more.
    more ∙ ap (λ (fs : List Asked). fs ++ flat_map filters_asked ms) (asks_it c.args.interest.now c.forget-2.new.self c.args.session [] c.forget-2.ensures)
    ∙ ap (flat_map filters_asked) monitors ∙ kept_asks x ∙ ap (λ o. interest_if (option_map seen o)) (sym there))
    c.add_monitors.ensures.ok
