use Rattle.std.proofs.Common.{rules, ◌≡◌, List, Option, Some, map, slice_get, subst, sym, ap, ◌∙◌}
use Rattle.std.specs.Prelude.{option_and_then}
use Rattle.std.proofs.lemmas.Result.{IfOk-weaker}
use Rattle.odb_monitor.specs.Job.{Job}
use Rattle.odb_sessions.specs.Composed.{composition}
use Rattle.odb_sessions.specs.Represented.Composed.{bytes_in}
use Rattle.odb_round.specs.Represented.Taking.{text_around, text_coming, text_planned}
use Rattle.odb_sessions.specs.declared.composing.Envelope.{Envelope}
use Rattle.odb_round.specs.declared.taking.Coming.{Coming}
use Rattle.odb_round.specs.declared.taking.Coming.TheVariants.{Composed}
use Rattle.odb_round.proofs.Places.{body_composed}
use Rattle.odb_round.proofs.jobs.body_of.Goals as goal

pub returns-in-Some-Composed : goal.returns-in-Some-Composed
returns-in-Some-Composed c =
    let m : Envelope = c.in-Some-Composed.envelope in
    let bodies = c.args.bodies.now in
    let is : c.args.coming.now ≡ Some (Composed m) = search rules in
    IfOk-weaker c.body_at.result (λ body. bytes_in body ≡ option_and_then bytes_in (slice_get bodies m.place))
    (λ body. (js : List Job) → map bytes_in bodies ≡ map composition js → text_coming c.args.coming.now (bytes_in body) ≡ text_planned js c.args.coming.now)
    (λ body found js same.
    subst (λ (coming : Option Coming). text_coming coming (bytes_in body) ≡ text_planned js coming) (sym is)
    (ap (λ b. text_around m.before.items b m.after.items) (found ∙ body_composed bytes_in bodies js m.place same)))
    c.body_at.ensures
