use Rattle.std.proofs.Common.{◌≡◌, ◌++◌}
use Rattle.odb_chunks.proofs.chunked_list.ChunkedList.push_items.Given as goal

abbrev pub invariant-loop-item : goal.invariant-loop-item
invariant-loop-item g l =
    l.self ++ (l.chunk.items ++ l.item-iterator.rest.items) ≡ l.fn.self ++ l.fn.items.items
