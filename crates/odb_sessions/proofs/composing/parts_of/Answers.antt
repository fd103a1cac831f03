use Rattle.std.proofs.Common.{rules, ◌≡◌, ◌++◌, ◌<◌, List, [], ◌∷◌, length, slice_index_or, subst, sym, ◌∙◌}
use Rattle.odb_monitor.specs.Job.{Part}
use Rattle.odb_sessions.specs.Composed.{IsKnown, part_in}
use Rattle.odb_sessions.specs.Marked.{Watched}
use Rattle.odb_sessions.proofs.Loops.{mapped_more}
use Rattle.odb_sessions.proofs.composing.parts_of.Goals as goal

pub part-requires : goal.part-requires
part-requires c =
    let ws : List Watched = c.args.tables.now in
    let i = c.loop-owed.owed-index in
    let y : Watched = c.owed-item.result in
    let inside : i < length ws = search rules in
    let is : y ≡ slice_index_or ws i y = search rules in
    subst (IsKnown c.args.chains.now) (sym is) (c.requires i y inside)

pub loop-owed-preserved : goal.loop-owed-preserved
loop-owed-preserved c =
    let db = c.args.chains.now.db in
    let ws : List Watched = c.args.tables.now in
    let i = c.loop-owed.owed-index in
    let y : Watched = c.owed-item.result in
    let inside : i < length ws = search rules in
    let is : y ≡ slice_index_or ws i y = search rules in
    let part : Part = part_in c.args.first db y in
    let items : c.push_reserved.new.self.items ≡ c.loop-owed.parts.items ++ part ∷ [] = search rules in
    (items ∙ (λ j. c.loop-owed.invariant.0 j ++ part ∷ []) ∙ sym (mapped_more (part_in c.args.first db) ws i y inside is), search rules, search rules)
