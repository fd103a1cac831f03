use Rattle.std.proofs.Common.{rules, ◌≡◌, ◌<◌, false, length, ap, sym, ◌∙◌}
use mathlib.Core.Bool.{true≢false}
use Rattle.odb_sessions.specs.Represented.Alike.{bare_in}
use Rattle.odb_request.proofs.Shown.{same_at}
use Rattle.odb_sessions.proofs.alike.all_stand_alike.Goals as goal

pub returns-then-not-stand_alike : goal.returns-then-not-stand_alike
returns-then-not-stand_alike c =
    let tables = c.args.tables.now in
    let others = c.args.others.now in
    let k = c.loop-place.place in
    let low : k < length tables = search rules in
    let also : k < length others = search rules in
    let differ : c.stand_alike.result ≡ false = search rules in (
      λ e. absurd (true≢false (sym e)),
      λ e. sym differ ∙ c.stand_alike.ensures.1 (ap (bare_in c.args.way) c.index-tables-place.is ∙ same_at (bare_in c.args.way) (bare_in c.args.other_way) tables others k c.index-tables-place.result c.index-others-place.result low also e ∙ ap (bare_in c.args.other_way) (sym c.index-others-place.is)),
    )
