use Rattle.std.proofs.Common.{subst, sym}
use Rattle.odb_integrity.specs.Touched.{GainMissing}
use Rattle.odb_integrity.proofs.Concerned.{kept_gain}
use Rattle.odb_integrity.proofs.garbage.collect_garbage.Goals as goal

pub returns-clause-gaining : goal.returns-clause-gaining
returns-clause-gaining c =
    let s = c.args.schema.now in
    let gaining = c.first_waiting.new.gaining.items in
    let old = c.args.draft.now.old in
    let now = c.args.draft.now.now in
    subst (λ d. GainMissing s gaining d c.remove_unkept.new.draft.now) (sym c.in_ok-remove_unkept.ensures.base)
    (subst (GainMissing s gaining old) (sym c.in_ok-remove_unkept.ensures.kept) (kept_gain s now old gaining c.in_ok-waiting.ensures.gaining))
