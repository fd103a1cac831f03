use Rattle.std.proofs.Common.{length, ◌-◌, ◌+◌, ◌<◌, ◌≤◌, take}
use Rattle.odb_wire.specs.Scanning.{state_of, GoesOn}
use Rattle.odb_wire.proofs.scan.Scan.end_in.Given as goal

abbrev pub invariant-loop-next : goal.invariant-loop-next
invariant-loop-next l =
    record { within : 0 < l.depth; inside : l.next ≤ length l.bytes; bound : l.depth ≤ l.self.depth + l.next; further : GoesOn (state_of l.self.state) l.self.depth (take l.next l.bytes) (state_of l.state) l.depth }

abbrev pub decreases-loop-next : goal.decreases-loop-next
decreases-loop-next l = length l.bytes - l.next
