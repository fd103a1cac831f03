use Rattle.std.proofs.Common.{◌++◌, map}
use Rattle.odb_sessions.specs.Marked.{marks_due}
use Rattle.odb_sessions.specs.Represented.Item.{marked_item_of}
use Rattle.odb_sessions.proofs.Lent.{Lends}
use Rattle.odb_sessions.proofs.queue.Queue.lend.Given as goal

abbrev pub invariant-loop-item : goal.invariant-loop-item
invariant-loop-item l =
    Lends marks_due l.initial.marks.items (map marked_item_of (l.initial.item-iterator.head.now ++ l.initial.item-iterator.wrapped.now))
    l.marks.items (map marked_item_of (l.item-iterator.head.now ++ l.item-iterator.wrapped.now))
