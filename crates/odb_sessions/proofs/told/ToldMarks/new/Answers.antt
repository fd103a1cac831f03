use Rattle.odb_sessions.proofs.Lent.{are_all_marks}
use Rattle.odb_sessions.proofs.told.ToldMarks.new.Goals as goal

pub invariant_of-result : goal.invariant_of-result
invariant_of-result c = are_all_marks c.args.chains.now c.args.sessions.now c.requires
