use Rattle.std.proofs.Common.{length}
use Rattle.odb_atoms.specs.FinMap as finite
use Rattle.odb_atoms.specs.Uuid.{Uuid}
use Rattle.odb_tables.specs.Represented.Keyed.{keyed}
use Rattle.odb_chain.specs.OldRows.{History}
use Rattle.odb_chain.specs.Represented.Log.{AreRecorded}
use Rattle.odb_chain.specs.Represented.MarkedVersions.{StaysOrGoes}
use Rattle.odb_chain.proofs.old_rows.OldRows.forget_before.Given as goal

abbrev pub invariant-loop-key : goal.invariant-loop-key
invariant-loop-key l = record {
  rows : (u : Uuid) → StaysOrGoes l.version (finite.get l.fn.self.rows u) (finite.get (keyed (λ (h : History). h) l.self-inside.rows) u);
  recorded : AreRecorded (keyed (λ (h : History). h) l.self-inside.rows) l.self-inside.log;
}

abbrev pub decreases-loop-key : goal.decreases-loop-key
decreases-loop-key l = length l.self-inside.log
