use Rattle.std.proofs.Common.{◌≡◌, ◌++◌, map}
use Rattle.odb_sessions.specs.Marked.{item_seen}
use Rattle.odb_sessions.specs.Named.{named_after}
use Rattle.odb_sessions.specs.Represented.Item.{marked_item_of}
use Rattle.odb_sessions.proofs.queue.Queue.ask_of.Given as goal

abbrev pub invariant-loop-item : goal.invariant-loop-item
invariant-loop-item l =
    named_after (map item_seen (map marked_item_of (l.item-iterator.head.now ++ l.item-iterator.wrapped.now))) l.named.items
    ≡ named_after (map item_seen (map marked_item_of (l.initial.item-iterator.head.now ++ l.initial.item-iterator.wrapped.now))) l.initial.named.items
