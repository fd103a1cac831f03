use Rattle.std.proofs.Common.{rules, ◌≡◌, ◌++◌, ◌<◌, List, [], ◌∷◌, length, slice_index_or, sym, ◌∙◌}
use Rattle.odb_request.specs.Request.{Request}
use Rattle.odb_sessions.specs.Filtered.{asked_under}
use Rattle.odb_sessions.specs.Marked.{Watched}
use Rattle.odb_sessions.specs.Represented.Under.{filters_in}
use Rattle.odb_sessions.proofs.Loops.{twice_more}
use Rattle.odb_sessions.proofs.under.requests_under.Goals as goal

pub loop-table-preserved : goal.loop-table-preserved
loop-table-preserved c =
    let fs = filters_in c.args.under in
    let ws : List Watched = c.args.tables.now in
    let i = c.loop-table.table-index in
    let w : Watched = c.table-item.result in
    let inside : i < length ws = search rules in
    let is : w ≡ slice_index_or ws i w = search rules in
    let made : Request = asked_under fs w.request in
    let items : c.push_reserved.new.self.items ≡ c.loop-table.requests.items ++ made ∷ [] = search rules in
    (items ∙ (λ j. c.loop-table.invariant.0 j ++ made ∷ []) ∙ sym (twice_more (asked_under fs) (λ (x : Watched). x.request) ws i w inside is), search rules, search rules)
