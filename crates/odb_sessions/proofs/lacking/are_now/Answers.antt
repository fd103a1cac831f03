use Rattle.std.proofs.Common.{rules, ◌≡◌, ◌<◌, true, List, [], ◌∷◌, ◌++◌, length, slice_index_or, subst, sym, ap, ◌∙◌}
use Rattle.std.proofs.lemmas.List.{map_more}
use Rattle.odb_monitor.specs.View.{Contents}
use Rattle.odb_sessions.specs.Composed.{IsKnown, part_to}
use Rattle.odb_sessions.specs.Marked.{Watched}
use Rattle.odb_sessions.proofs.lacking.are_now.Goals as goal

pub is_told-requires : goal.is_told-requires
is_told-requires c =
    let ws : List Watched = c.args.tables.now in
    let i = c.loop-table.table-index in
    let y : Watched = c.table-item.result in
    let inside : i < length ws = search rules in
    let is : y ≡ slice_index_or ws i y = search rules in
    subst (IsKnown c.args.chains.now) (sym is) (c.requires i y inside)

pub loop-table-preserved : goal.loop-table-preserved
loop-table-preserved c =
    let db = c.args.chains.now.db in
    let ws : List Watched = c.args.tables.now in
    let i = c.loop-table.table-index in
    let y : Watched = c.table-item.result in
    let inside : i < length ws = search rules in
    let is : y ≡ slice_index_or ws i y = search rules in
    let told : Watched → Contents = λ w. (part_to db w).told in
    let asked : Watched → Contents = λ w. (part_to db w).asked in
    let now : c.is_told.result ≡ true = search rules in
    let own : told y ≡ asked y = c.is_told.ensures now in
    let same : told (slice_index_or ws i y) ≡ asked (slice_index_or ws i y) = sym (ap told is) ∙ own ∙ ap asked is in
    map_more told ws i y inside ∙ (λ j. c.loop-table.invariant j ++ same j ∷ []) ∙ sym (map_more asked ws i y inside)
