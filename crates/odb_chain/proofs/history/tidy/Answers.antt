use Rattle.std.proofs.Common.{subst, sym, ap, ◌∙◌}
use Rattle.odb_chain.proofs.Histories.{label_cleaned}
use Rattle.odb_chain.specs.Represented.MarkedVersions.{is_label}
use Rattle.odb_chain.specs.OldRows.{at}
use Rattle.odb_chain.specs.Represented.MarkedVersions.{Past}
use Rattle.odb_chain.proofs.Histories.{clean_same, past_cleaned}
use Rattle.odb_chain.proofs.history.tidy.Goals as goal

pub returns-clause-same : goal.returns-clause-same
returns-clause-same c = λ n p r new kept. ap (at p r) c.clean.ensures.olds ∙ clean_same n c.args.live.now r c.args.olds.now.items new p kept

pub returns-clause-past : goal.returns-clause-past
returns-clause-past c = λ v r h. subst (Past v r) (sym c.clean.ensures.olds) (past_cleaned c.args.live.now v r c.args.olds.now.items h)

pub returns-clause-labels : goal.returns-clause-labels
returns-clause-labels c = λ q e. label_cleaned c.args.live.now q c.args.olds.now.items (ap (is_label q) (sym c.clean.ensures.olds) ∙ e)
