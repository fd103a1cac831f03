use Rattle.std.proofs.Common.{◌≡◌, ◌++◌, map}
use Rattle.std.specs.Arc.{arc_value}
use Rattle.odb_service.specs.Session.{sync}
use Rattle.odb_sessions.specs.Marked.{plain}
use Rattle.odb_sessions.specs.Represented.Item.{marked_item_of}
use Rattle.odb_sessions.proofs.asked.ending.Given as goal

abbrev pub invariant-loop-id : goal.invariant-loop-id
invariant-loop-id l =
    map marked_item_of l.items.items ++ map (λ i. plain (sync (arc_value i))) l.id-iterator.rest.items
    ≡ map (λ i. plain (sync (arc_value i))) l.initial.id-iterator.rest.items
