use Rattle.std.proofs.Common.{rules, ◌≡◌, ◌++◌, ◌<◌, List, [], ◌∷◌, length, slice_index_or, sym, ◌∙◌}
use Rattle.odb_sessions.specs.Marked.{Watched}
use Rattle.odb_sessions.proofs.Loops.{one_more}
use Rattle.odb_sessions.proofs.owed.all_owed.Goals as goal

pub loop-table-preserved : goal.loop-table-preserved
loop-table-preserved c =
    let ws : List Watched = c.args.tables.now in
    let i = c.loop-table.table-index in
    let w : Watched = c.table-item.result in
    let inside : i < length ws = search rules in
    let is : w ≡ slice_index_or ws i w = search rules in
    let items : c.push_reserved.new.self.items ≡ c.loop-table.owed.items ++ w ∷ [] = search rules in
    (items ∙ (λ j. c.loop-table.invariant.0 j ++ w ∷ []) ∙ sym (one_more ws i w inside is), search rules, search rules)
