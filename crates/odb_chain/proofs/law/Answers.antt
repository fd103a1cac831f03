use Rattle.odb_chain.proofs.Undoing.{segments_join, undone_to_marks}
use Rattle.odb_chain.proofs.law.Goals as goal

pub returns-clause-undone : goal.returns-clause-undone
returns-clause-undone c = undone_to_marks

pub returns-clause-joined : goal.returns-clause-joined
returns-clause-joined c = segments_join
