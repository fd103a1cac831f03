use Rattle.std.proofs.Common.{◌≡◌, drop, IsTrue}
use Rattle.odb_atoms.specs.Row.{Row}
use Rattle.odb_atoms.specs.Uuid.{Uuid}
use Rattle.odb_cond.specs.Condition.{holds_all}
use Rattle.odb_tables.specs.Indexed.{cells_at}
use Rattle.odb_tables.specs.Represented.Digest.{after_values}
use Rattle.odb_tables.proofs.digest.of_matches.Given as goal

abbrev pub invariant-loop-place : goal.invariant-loop-place
invariant-loop-place l = (u : Uuid) (r : Row) → IsTrue (holds_all l.conditions u r) → after_values l.state (cells_at (drop l.place-index l.places) r) ≡ after_values l.initial.state (cells_at l.places r)
