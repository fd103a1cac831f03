use Rattle.std.proofs.Common.{◌∷◌, [], ◌++◌, not, subst, ap, ◌∙◌}
use Rattle.std.specs.List.{list_any}
use Rattle.odb_atoms.specs.Value.{same_values}
use Rattle.odb_ops.specs.Represented.Cells.{IsSetOf}
use Rattle.odb_ops.proofs.RowSets.{set-push}
use Rattle.odb_ops.proofs.contents.is_new.Goals as goal

pub returns-in-Ok : goal.returns-in-Ok
returns-in-Ok c = λ rows h. (
  c.in-Ok.ensures.added ∙ ap not (h c.values.result.now ∙ ap (λ r. list_any (same_values r) rows) c.values.ensures),
  subst (λ r. IsSetOf c.insert.new.self (rows ++ r ∷ [])) c.values.ensures (set-push c.args.seen.now c.insert.new.self c.values.result rows c.in-Ok.ensures.updates h),
)
