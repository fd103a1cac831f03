use Rattle.std.proofs.Common.{rules, ◌≡◌, ◌<◌, false, length, sym, ◌∙◌}
use mathlib.Core.Bool.{true≢false}
use Rattle.odb_cond.specs.Represented.Clause.{selector_of}
use Rattle.odb_request.proofs.Shown.{same_at}
use Rattle.odb_sessions.proofs.alike.same_columns.Goals as goal

pub returns-then-not-same_column : goal.returns-then-not-same_column
returns-then-not-same_column c =
    let columns = c.args.columns.now in
    let others = c.args.others.now in
    let k = c.loop-place.place in
    let low : k < length columns = search rules in
    let also : k < length others = search rules in
    let differ : c.same_column.result ≡ false = search rules in (
      λ e. absurd (true≢false (sym e)),
      λ e. sym differ ∙ c.same_column.ensures.1 (same_at selector_of selector_of columns others k _ _ low also e),
    )
