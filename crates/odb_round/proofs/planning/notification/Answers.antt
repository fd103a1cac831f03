use Rattle.std.proofs.Common.{rules, ◌≡◌, Some, None, option_map, slice_get, refl, sym, ap, ◌∙◌}
use Rattle.odb_atoms.specs.Represented.Atom.{uuid_of}
use Rattle.odb_monitor.specs.Job.{updates_of}
use Rattle.odb_sessions.specs.Composed.{notified_text}
use Rattle.odb_round.specs.Sending.{notifying, sent_with}
use Rattle.odb_round.proofs.Places.{none_told, some_told}
use Rattle.odb_round.proofs.planning.notification.Goals as goal

pub returns-in_default-clause-text : goal.returns-in_default-clause-text
returns-in_default-clause-text c = λ all job e.
    let none : c.args.place ≡ None = search rules in
    none_told job (sent_with (notifying (uuid_of c.args.number) c.args.monitor.now job)) (updates_of job) (ap (option_map (slice_get all)) (sym none) ∙ e)

pub returns-clause-text : goal.returns-clause-text
returns-clause-text c = λ all job e.
    let place = c.in-Some.at in
    let some : c.args.place ≡ Some place = search rules in
    some_told all c.in_ok-around_updates.field-0 place (notified_text (uuid_of c.args.number) c.args.monitor.now) job c.in_ok-around_updates.ensures (updates_of job) refl
    (ap (option_map (slice_get all)) (sym some) ∙ e)

pub returns-in_default-clause-place : goal.returns-in_default-clause-place
returns-in_default-clause-place c =
    let none : c.args.place ≡ None = search rules in
    sym none

pub returns-clause-place : goal.returns-clause-place
returns-clause-place c =
    let some : c.args.place ≡ Some c.in-Some.at = search rules in
    ap (λ n. Some n) c.in_ok-around_updates.ensures.0 ∙ sym some
