use Rattle.std.proofs.Common.{◌≡◌, ◌≤◌, length, map, take}
use Rattle.std.specs.Prelude.{vec_len, vec_capacity}
use Rattle.odb_sessions.specs.Composed.{part_in}
use Rattle.odb_sessions.proofs.composing.parts_of.Given as goal

abbrev pub invariant-loop-owed : goal.invariant-loop-owed
invariant-loop-owed l = (l.parts.items ≡ map (part_in l.first l.chains.db) (take l.owed-index l.tables)) × (vec_len l.parts ≤ l.owed-index) × (length l.tables ≤ vec_capacity l.parts)
