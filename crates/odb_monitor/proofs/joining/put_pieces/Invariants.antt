use Rattle.std.proofs.Common.{◌≡◌, fold, length, map, take}
use Rattle.odb_monitor.specs.Represented.Joining.{with_piece}
use Rattle.odb_monitor.proofs.joining.put_pieces.Given as goal

abbrev pub invariant-loop-piece : goal.invariant-loop-piece
invariant-loop-piece l = l.text.items ≡ fold (with_piece (length l.initial.text.items)) l.initial.text.items (map (λ piece. piece.items) (take l.piece-index l.pieces))
