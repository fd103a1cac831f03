use Rattle.std.proofs.Common.{◌≡◌, drop}
use Rattle.odb_tables.specs.Indexed.{cells_at}
use Rattle.odb_tables.specs.Represented.Digest.{after_values}
use Rattle.odb_tables.proofs.digest.of_row.Given as goal

abbrev pub invariant-loop-place : goal.invariant-loop-place
invariant-loop-place l = after_values l.state (cells_at (drop l.place-index l.places) l.row) ≡ after_values l.initial.state (cells_at l.places l.row)
