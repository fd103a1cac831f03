use Rattle.std.proofs.Common.{rules, ◌≡◌, ◌<◌, false, length, sym, ◌∙◌}
use mathlib.Core.Bool.{true≢false}
use Rattle.odb_cond.specs.Represented.Filter.{member_of}
use Rattle.odb_cond.proofs.Same.{same_place}
use Rattle.odb_cond.proofs.filter.are_same.Goals as goal

pub returns-then-not-same : goal.returns-then-not-same
returns-then-not-same c =
    let members = c.args.members.now in
    let others = c.args.others.now in
    let k = c.loop-place.place in
    let low : k < length members = search rules in
    let also : k < length others = search rules in
    let differ : c.same.result ≡ false = search rules in (
      λ e. absurd (true≢false (sym e)),
      λ e. sym differ ∙ c.same.ensures.1 (same_place member_of members others k c.index-members-place.result c.index-others-place.result low also c.index-members-place.is c.index-others-place.is e),
    )
