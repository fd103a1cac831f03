use Rattle.std.proofs.Common.{◌≡◌, drop, map}
use Rattle.odb_sessions.specs.Represented.Alike.{stand_in}
use Rattle.odb_sessions.specs.Represented.Digest.{after_stands}
use Rattle.odb_sessions.proofs.digest.with_tables.Given as goal

abbrev pub invariant-loop-table : goal.invariant-loop-table
invariant-loop-table l = after_stands l.digest (map (stand_in l.way) (drop l.table-index l.tables)) ≡ after_stands l.initial.digest (map (stand_in l.way) l.tables)
