use Rattle.std.proofs.Common.{rules, ◌≡◌, ◌<◌, ◌∙◌, ap, IfOk, Some, length, refl, slice_get, slice_index_or, subst, sym}
use Rattle.std.proofs.lemmas.Option.{same_Some, slice_get_read}
use Rattle.std.proofs.lemmas.Result.{IfOk-weaker}
use Rattle.odb_monitor.specs.Job.{Job, Part}
use Rattle.odb_monitor.specs.Listing.{listed_tokens}
use Rattle.odb_monitor.specs.Represented.Part.{part_tokens}
use Rattle.odb_request.specs.Represented.Notation.{notation_of}
use Rattle.odb_monitor.proofs.job.Job.list.Goals as goal

pub returns : goal.returns
returns g c =
    let i = c.self.inside in
    let n = notation_of i.notation in
    let low : c.args.place < length i.parts.items = subst (λ (j : Job). c.args.place < length j.parts) (sym c.self.view_is) c.requires in
    let read : c.index.result.now ≡ slice_index_or i.parts.items c.args.place c.index.result.now = search rules in
    let at : slice_get i.parts.items c.args.place ≡ Some c.index.result.now = slice_get_read i.parts.items (length i.parts.items) c.args.place c.index.result.now refl low read in
    subst (λ (j : Job). IfOk c.list.result (λ l. (p : Part) → slice_get j.parts c.args.place ≡ Some p → listed_tokens l ≡ part_tokens j.notation j.first p)) c.self.view_is
    (IfOk-weaker c.list.result _ _ (λ l h p here. h ∙ ap (part_tokens n i.first) (same_Some _ _ (sym at ∙ here))) c.list.ensures)
