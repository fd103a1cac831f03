use Rattle.std.proofs.Common.{rules, ap, ◌∙◌}
use Rattle.std.proofs.lemmas.Result.{IfOk-weaker}
use Rattle.std.specs.List.{list_any}
use Rattle.std.specs.Prelude.{◌==◌}
use Rattle.odb_interest.specs.Keys.{Interests, asked_at, is_touched}
use Rattle.odb_interest.specs.Represented.Found.{Grows}
use Rattle.odb_interest.specs.Represented.SessionsByKey.{finds_among}
use Rattle.odb_interest.proofs.Growing.{found_in_empty, session-keys}
use Rattle.odb_interest.proofs.Touching.{finds-touched}
use Rattle.odb_interest.proofs.interest.Interest.touched.Goals as goal

pub returns-clause-touched : goal.returns-clause-touched
returns-clause-touched c =
    let x = c.self.inside.index in
    let cs = c.args.change.now in
    let found = c.find.new.found in
    let grows : Grows c.new-found.result found (finds_among x cs) = search rules in
    IfOk-weaker c.ascending.result _ _
    (λ _ all session.
    ap (list_any (λ s. s == session)) all ∙ session-keys found session
    ∙ found_in_empty c.new-found.result found (finds_among x cs) c.new-found.ensures.empty grows session
    ∙ finds-touched x c.self.inside.lists c.self.invariant cs session
    ∙ ap (λ (v : Interests). is_touched cs (asked_at v session)) c.self.view_is)
    c.ascending.ensures.all
