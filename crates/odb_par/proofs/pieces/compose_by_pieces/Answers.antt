use Rattle.std.proofs.Common.{rules, ◌≡◌, ◌≤◌, ◌<◌, ◌∙◌, ap, length, sym, take_all}
use Rattle.odb_monitor.specs.Represented.Part.{tables_text}
use Rattle.odb_par.proofs.OfRows.{at_place}
use Rattle.odb_par.proofs.Shares.{taken_more}
use Rattle.odb_par.proofs.pieces.compose_by_pieces.Goals as goal

pub loop-place-preserved : goal.loop-place-preserved
loop-place-preserved g c =
    let j = c.args.job.now in
    let low : c.loop-place.place < length j.parts = search rules in
    let here = at_place j.parts c.loop-place.place low in
    c.in_ok-put.ensures j.notation j.first _ here.0 c.loop-place.invariant (c.in_ok-listing.ensures here.0 here.1)
    ∙ ap (tables_text j.notation j.first) (sym (taken_more j.parts c.loop-place.place here.0 here.1))

pub finish-requires : goal.finish-requires
finish-requires g c =
    let j = c.args.job.now in
    let past : length j.parts ≤ c.loop-place.place = search rules in
    c.loop-place.invariant ∙ ap (tables_text j.notation j.first) (take_all c.loop-place.place j.parts past)
