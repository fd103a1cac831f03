use Rattle.std.proofs.Common.{◌≡◌, option_copied, slice_get, Some, sym, ap, subst, ◌∙◌}
use Rattle.std.specs.Prelude.{IsTrue}
use Rattle.odb_tables.proofs.KeptColumns.{is_off}
use Rattle.odb_tables.proofs.SameValues.{differ-at}
use Rattle.odb_tables.proofs.row_change.differ_at.Goals as goal

pub returns-in-Some-Some : goal.returns-in-Some-Some
returns-in-Some-Some c other =
    let old : slice_get c.args.old.now.columns c.args.place ≡ Some c.in-Some-Some.old.now = sym c.get.ensures ∙ ap option_copied c.in-Some-Some.is-0 in
    let new : slice_get c.args.new.now.columns c.args.place ≡ Some c.in-Some-Some.new.now = sym c.get-2.ensures ∙ ap option_copied c.in-Some-Some.is-1 in
    differ-at c.args.old.now.columns c.args.new.now.columns c.args.place _ _ old new (is_off _ (subst IsTrue c.ne.ensures other))
