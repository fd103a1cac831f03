use Rattle.std.proofs.Common.{rules, ◌≡◌, Some, None, option_map, subst, sym, ap, ◌∙◌}
use Rattle.std.proofs.lemmas.Result.{IfOk-weaker}
use Rattle.odb_atoms.specs.Represented.Atom.{uuid_of}
use Rattle.odb_sessions.specs.Marked.{MarkedMonitor}
use Rattle.odb_sessions.specs.Tied.{HasLists}
use Rattle.odb_round.proofs.NamedCommits.{AreThere, are_there, since_is, whole_is}
use Rattle.odb_round.proofs.taking.first_reply.Goals as goal

pub returns-in-None-clause-text : goal.returns-in-None-clause-text
returns-in-None-clause-text c =
    let x : MarkedMonitor = c.args.start.now.monitor in
    let none : c.since.result ≡ None = search rules in
    let since : x.since ≡ None = sym c.since.ensures.since ∙ ap (option_map uuid_of) none in
    IfOk-weaker c.whole_reply.result _ _
    (λ message e. λ h all kept. e all kept ∙ ap Some (whole_is h c.args.wanted.now.recent c.args.wanted.now.chains c.args.start.now.origin x since))
    c.whole_reply.ensures.text

pub returns-in-Some-clause-text : goal.returns-in-Some-clause-text
returns-in-Some-clause-text c =
    let k = c.args.wanted.now.chains in
    let x : MarkedMonitor = c.args.start.now.monitor in
    let v = c.in-Some.since in
    let some : c.since.result ≡ Some v = search rules in
    let since : x.since ≡ Some (uuid_of v) = sym c.since.ensures.since ∙ ap (option_map uuid_of) some in
    let lists : HasLists k = subst HasLists c.chains.ensures c.db-now.ensures.lists in
    let there : AreThere k.db x.tables = are_there k x.tables lists c.requires.live c.since.ensures.theirs in
    IfOk-weaker c.reply_since.result _ _
    (λ message e. λ h all kept. e all kept ∙ ap Some (since_is h c.args.wanted.now.recent k c.args.start.now.origin x (uuid_of v) since c.reply_since.ensures.kept there))
    c.reply_since.ensures.text
