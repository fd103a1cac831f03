use Rattle.std.proofs.Common.{◌≡◌, ◌≤◌, length}
use Rattle.std.specs.Prelude.{min}
use Rattle.std.specs.VecDeque.{deque_capacity}
use Rattle.odb_hub.specs.Room.{IsLooked, total}
use Rattle.odb_hub.proofs.load.RingLoad.cut.Given as goal

abbrev pub invariant-loop-self : goal.invariant-loop-self
invariant-loop-self l =
    IsLooked l.initial.self-inside.sizes.items l.self-inside.sizes.items × (min l.left (length l.initial.self-inside.sizes.items) ≤ length l.self-inside.sizes.items)
    × (l.self-inside.bytes ≡ total l.self-inside.sizes.items) × (64 ≤ deque_capacity l.self-inside.sizes)

abbrev pub decreases-loop-self : goal.decreases-loop-self
decreases-loop-self l = length l.self-inside.sizes.items
