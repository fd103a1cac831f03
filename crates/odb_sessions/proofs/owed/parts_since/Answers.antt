use Rattle.std.proofs.Common.{rules, ◌≡◌, ◌≤◌, ◌++◌, ◌<◌, List, [], ◌∷◌, length, map, slice_index_or, take, take_all, subst, sym, ap, ◌∙◌}
use Rattle.odb_monitor.specs.Job.{Part}
use Rattle.odb_sessions.specs.Composed.{IsKnown, part_since}
use Rattle.odb_sessions.specs.Marked.{Watched}
use Rattle.odb_sessions.proofs.Loops.{mapped_twice, mapped_more}
use Rattle.odb_sessions.proofs.owed.parts_since.Goals as goal

pub part_since-requires : goal.part_since-requires
part_since-requires c =
    let ws : List Watched = c.args.tables.now in
    let i = c.loop-table.table-index in
    let y : Watched = c.table-item.result in
    let inside : i < length ws = search rules in
    let is : y ≡ slice_index_or ws i y = search rules in
    subst (IsKnown c.args.chains.now) (sym is) (c.requires i y inside)

pub loop-table-preserved : goal.loop-table-preserved
loop-table-preserved c =
    let of : Watched → Part = λ w. part_since (take c.args.ago c.args.recent.now.undos) c.args.chains.now.db w.request in
    let ws : List Watched = c.args.tables.now in
    let i = c.loop-table.table-index in
    let y : Watched = c.table-item.result in
    let inside : i < length ws = search rules in
    let is : y ≡ slice_index_or ws i y = search rules in
    let items : c.push_reserved.new.self.items ≡ c.loop-table.parts.items ++ of y ∷ [] = search rules in
    (items ∙ (λ j. c.loop-table.invariant.0 j ++ of y ∷ []) ∙ sym (mapped_more of ws i y inside is), search rules, search rules)

pub returns : goal.returns
returns c =
    let undos = take c.args.ago c.args.recent.now.undos in
    let db = c.args.chains.now.db in
    let ws : List Watched = c.args.tables.now in
    let past : length ws ≤ c.loop-table.table-index = search rules in
    c.loop-table.invariant.0
    ∙ ap (map (λ (w : Watched). part_since undos db w.request)) (take_all c.loop-table.table-index ws past)
    ∙ sym (mapped_twice (part_since undos db) (λ (w : Watched). w.request) ws)
