use Rattle.std.proofs.Common.{◌≡◌, take}
use Rattle.odb_monitor.specs.Represented.Part.{tables_text}
use Rattle.odb_par.proofs.pieces.compose_by_pieces.Given as goal

abbrev pub invariant-loop-place : goal.invariant-loop-place
invariant-loop-place g l = l.joining ≡ tables_text l.job.notation l.job.first (take l.place l.job.parts)
