use Rattle.std.proofs.Common.{rules, ◌≡◌, Some, None, option_and_then, sym, ap, ◌∙◌}
use Rattle.odb_atoms.specs.FinMap as finite
use Rattle.odb_sessions.specs.Marked.{MarkedSession}
use Rattle.odb_sessions.specs.Posts.{newest, without_newest}
use Rattle.odb_sessions.proofs.Posts.{changed_at, unchanged_at}
use Rattle.odb_sessions.proofs.numbered.Numbered.take_newest.Goals as goal

pub returns-in_default-clause-sessions : goal.returns-in_default-clause-sessions
returns-in_default-clause-sessions c =
    let shut : finite.get c.args.self.now c.args.session ≡ None = search rules in
    unchanged_at c.args.self.now c.args.session without_newest shut

pub returns-in_default-clause-item : goal.returns-in_default-clause-item
returns-in_default-clause-item c =
    let shut : finite.get c.args.self.now c.args.session ≡ None = search rules in
    sym (ap (option_and_then (λ (x : MarkedSession). newest x.queue)) shut)

pub returns-clause-sessions : goal.returns-clause-sessions
returns-clause-sessions c =
    let there : finite.get c.args.self.now c.args.session ≡ Some c.in-Some.of.now = search rules in
    let same : c.take_newest.new.self ≡ without_newest c.in-Some.of.now = search rules in
    changed_at c.args.self.now c.args.session without_newest c.in-Some.of.now c.take_newest.new.self there same

pub returns-clause-item : goal.returns-clause-item
returns-clause-item c =
    let there : finite.get c.args.self.now c.args.session ≡ Some c.in-Some.of.now = search rules in
    c.take_newest.ensures.item ∙ sym (ap (option_and_then (λ (x : MarkedSession). newest x.queue)) there)
