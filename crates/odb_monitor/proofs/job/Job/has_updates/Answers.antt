use Rattle.std.proofs.Common.{◌≡◌, ◌∙◌, ◌||◌, Bool, IfOk, List, ap, is_some, not, subst, sym}
use Rattle.std.proofs.lemmas.Result.{IfOk-weaker}
use Rattle.std.specs.List.{list_any}
use Rattle.odb_monitor.specs.Job.{Job, Part, updates_of}
use Rattle.odb_monitor.specs.Represented.Part.{is_silent}
use Rattle.odb_monitor.proofs.Joined.{is_sent}
use Rattle.odb_request.specs.Represented.Notation.{notation_of}
use Rattle.odb_monitor.proofs.job.Job.has_updates.Goals as goal

pub returns : goal.returns
returns c =
    let i = c.self.inside in
    let j : Job = record { notation = notation_of i.notation; first = i.first; reply = i.reply; parts = i.parts.items } in
    let shown : List Part → Bool = list_any (λ p. not (is_silent j.first p)) in
    subst (λ (x : Job). IfOk c.has_lines.result (λ has. has ≡ is_some (updates_of x))) c.self.view_is
    (IfOk-weaker c.has_lines.result _ _ (λ found is. sym (ap (λ b. b || found) c.if-self.false) ∙ is_sent j found (is ∙ ap shown c.deref.ensures.value)) c.has_lines.ensures)
