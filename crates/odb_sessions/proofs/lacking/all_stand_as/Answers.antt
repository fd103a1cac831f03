use Rattle.std.proofs.Common.{rules, ◌≡◌, ◌<◌, true, List, length, slice_index_or}
use Rattle.odb_sessions.specs.Marked.{Watched}
use Rattle.odb_sessions.proofs.Stands.{one_more_stands}
use Rattle.odb_sessions.proofs.lacking.all_stand_as.Goals as goal

pub loop-place-preserved : goal.loop-place-preserved
loop-place-preserved c = λ same.
    let xs : List Watched = c.args.tables.now in
    let ys : List Watched = c.args.others.now in
    let i = c.loop-place.place in
    let x : Watched = c.index-tables-place.result in
    let y : Watched = c.index-others-place.result in
    let low : i < length xs = search rules in
    let long : length xs ≡ length ys = search rules in
    let at : x ≡ slice_index_or xs i x = search rules in
    let its : y ≡ slice_index_or ys i y = search rules in
    let stands : c.stands_as.result ≡ true = search rules in
    one_more_stands xs ys i x y low long at its (c.stands_as.ensures stands) same (c.loop-place.invariant same)
