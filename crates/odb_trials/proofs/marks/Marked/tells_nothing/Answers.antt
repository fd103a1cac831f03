use Rattle.std.proofs.Common.{rules, ◌≡◌, ◌<◌, length, slice_index_or}
use Rattle.odb_trials.proofs.MarkLists.{each_live}
use Rattle.odb_trials.proofs.marks.Marked.tells_nothing.Goals as goal

pub since-requires : goal.since-requires
since-requires c =
    let ms = c.self.inside.marks.items in
    let m = c.in-Some.mark.now in
    let low : c.args.place < length ms = search rules in
    let at : m ≡ slice_index_or ms c.args.place m = search rules in
    each_live c.self.inside.chains ms c.args.place m low at c.self.invariant.2.0
