use Rattle.std.proofs.Common.{rules, ◌≡◌, ◌<◌, List, length, slice_index_or, subst, sym}
use Rattle.odb_sessions.specs.Composed.{IsKnown}
use Rattle.odb_sessions.specs.Marked.{Watched}
use Rattle.odb_sessions.proofs.owed.parts_again.Goals as goal

pub part_again-part-requires : goal.part_again-part-requires
part_again-part-requires c =
    let ws : List Watched = c.args.tables.now in
    let i = c.loop-place.place in
    let y : Watched = c.index-tables-place.result in
    let inside : i < length ws = search rules in
    let is : y ≡ slice_index_or ws i y = search rules in
    subst (IsKnown c.args.chains.now) (sym is) (c.requires.known i y inside)
