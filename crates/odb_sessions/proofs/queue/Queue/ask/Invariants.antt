use Rattle.std.proofs.Common.{◌≡◌, ◌++◌, map}
use Rattle.std.specs.Arc.{arc_value}
use Rattle.odb_sessions.specs.Asked.{ids_after}
use Rattle.odb_sessions.specs.Marked.{item_seen}
use Rattle.odb_sessions.specs.Represented.Item.{marked_item_of}
use Rattle.odb_sessions.proofs.queue.Queue.ask.Given as goal

abbrev pub invariant-loop-item : goal.invariant-loop-item
invariant-loop-item l =
    ids_after (map item_seen (map marked_item_of (l.item-iterator.head.now ++ l.item-iterator.wrapped.now))) (map arc_value l.ids.items)
    ≡ ids_after (map item_seen (map marked_item_of (l.initial.item-iterator.head.now ++ l.initial.item-iterator.wrapped.now))) (map arc_value l.initial.ids.items)
