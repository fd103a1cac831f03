use Rattle.std.proofs.Common.{refl, zero-add}
use Rattle.std.proofs.lemmas.List.{map-append}
use Rattle.std.proofs.lemmas.List.FromFn.{map-range_with_len_more}
use Rattle.odb_atoms.specs.Row.{declared}
use Rattle.odb_request.proofs.columns.all_but_uuid.Goals as goal

pub loop-place-preserved : goal.loop-place-preserved
loop-place-preserved c =
    rw (c.in_ok-push-2.ensures.items, map-append, c.loop-place.invariant, map-range_with_len_more declared 0 c.loop-place.place c.loop-place.place (zero-add c.loop-place.place)) refl
