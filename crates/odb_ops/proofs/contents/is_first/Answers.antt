use Rattle.std.proofs.Common.{not, ap, ◌∙◌}
use Rattle.odb_ops.proofs.RowSets.{kept_by, lent-push}
use Rattle.odb_ops.proofs.contents.is_first.Goals.{in-Ok, in-Err}
use Rattle.odb_ops.proofs.contents.is_first.Goals as goal

pub returns : goal.returns
returns c = λ rows h. elim c.match-insert.branch [
  | in-Ok w ↦ rw w.result-is (
    w.in-Ok.ensures.added ∙ ap not (kept_by c.args.content c.args.seen.now.keys ∙ h c.args.content),
    lent-push c.args.seen.now c.insert.new.self c.args.content rows w.in-Ok.ensures.updates h,
  )
  | in-Err w ↦ rw w.result-is tt
]
