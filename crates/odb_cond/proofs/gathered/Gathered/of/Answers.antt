use Rattle.std.proofs.Common.{rules, ◌≡◌, ◌<◌, ◌||◌, length, get_or, Some, sym, ap, ◌∙◌}
use Rattle.std.proofs.lemmas.List.Folds.{list_any_more}
use Rattle.std.proofs.lemmas.Option.{slice_get-get_or}
use Rattle.odb_cond.specs.Filter.{member_holds}
use Rattle.odb_cond.specs.Represented.Filter.{member_of}
use Rattle.odb_cond.proofs.gathered.Gathered.of.Goals as goal

pub loop-place-preserved : goal.loop-place-preserved
loop-place-preserved c =
    let members = c.args.members.now in
    let k = c.loop-place.place in
    let x = c.index-members-place.result in
    let low : k < length members = search rules in
    let at : x ≡ get_or members k x = c.index-members-place.is in
    λ u r.
    c.in_ok-add.ensures members (slice_get-get_or members k x low ∙ ap Some (sym at)) u r
    ∙ (λ i. c.loop-place.invariant u r i || member_holds u r (member_of (at i)))
    ∙ sym (list_any_more (λ m. member_holds u r (member_of m)) members k x low)
