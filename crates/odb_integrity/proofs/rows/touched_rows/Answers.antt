use Rattle.std.proofs.Common.{rules, ◌≡◌, arith, sym, ◌∙◌}
use Rattle.odb_integrity.proofs.Touched.{same_by_tables, same_so_far}
use Rattle.odb_integrity.proofs.rows.touched_rows.Goals as goal

pub loop-place-init : goal.loop-place-init
loop-place-init c k low = absurd (omega (arith, low))

pub loop-place-preserved : goal.loop-place-preserved
loop-place-preserved c =
    let at : c.at.result ≡ c.loop-place.place = search rules in
    same_so_far c.args.draft.now.old c.args.draft.now.now c.loop-place.rows.items _ c.loop-place.place c.at.result at c.loop-place.invariant c.in_ok-append_touched.ensures.table c.in_ok-append_touched.ensures.others

pub returns : goal.returns
returns c =
    same_by_tables c.args.draft.now.old c.args.draft.now.now _ c.loop-place.place (sym c.len-place-end.ensures.old ∙ c.len-place-end.ensures.now) (search rules) c.loop-place.invariant
