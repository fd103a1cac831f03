use Rattle.std.proofs.Common.{rules, ◌≡◌, Some, None, ap, ◌∙◌}
use Rattle.std.proofs.lemmas.Result.{IfOk-weaker}
use Rattle.odb_atoms.specs.Represented.Atom.{uuid_of}
use Rattle.odb_recent.specs.Recent.{Recent, commits_ago}
use Rattle.odb_sessions.specs.Marked.{MarkedMonitor}
use Rattle.odb_round.specs.Sending.{missed_sending, sending_ago}
use Rattle.odb_round.proofs.taking.reply_since.Goals as goal

pub returns-in-None-clause-text : goal.returns-in-None-clause-text
returns-in-None-clause-text c =
    let db = c.args.wanted.now.chains.db in
    let x : MarkedMonitor = c.args.start.now.monitor in
    let r : Recent = c.args.wanted.now.recent in
    let found : None ≡ commits_ago r.most r.run r.commits (uuid_of c.args.since) = search rules in
    IfOk-weaker c.not_found.result _ _
    (λ message e. λ all kept. e all kept
    ∙ ap (λ n. Some (missed_sending n db c.args.start.now.origin x)) c.number-number.ensures
    ∙ ap (λ o. Some (sending_ago r db c.args.start.now.origin x o)) found)
    c.not_found.ensures.text

pub returns-in-Some-clause-text : goal.returns-in-Some-clause-text
returns-in-Some-clause-text c =
    let db = c.args.wanted.now.chains.db in
    let x : MarkedMonitor = c.args.start.now.monitor in
    let r : Recent = c.args.wanted.now.recent in
    let found : Some c.in-Some.ago ≡ commits_ago r.most r.run r.commits (uuid_of c.args.since) = search rules in
    IfOk-weaker c.found.result _ _
    (λ message e. λ all kept. e all kept ∙ ap (λ o. Some (sending_ago r db c.args.start.now.origin x o)) found)
    c.found.ensures.text
