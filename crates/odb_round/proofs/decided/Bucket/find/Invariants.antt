use Rattle.std.proofs.Common.{take}
use Rattle.std.specs.List.{All}
use Rattle.odb_sessions.specs.Represented.Alike.{likeness_in}
use Rattle.odb_round.specs.Represented.Decided.{Differs}
use Rattle.odb_round.proofs.decided.Bucket.find.Given as goal

abbrev pub invariant-loop-decision : goal.invariant-loop-decision
invariant-loop-decision l = All (Differs (likeness_in l.monitor l.way)) (take l.decision-index l.decision-items)
