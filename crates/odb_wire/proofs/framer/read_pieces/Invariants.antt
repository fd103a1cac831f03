use Rattle.std.proofs.Common.{◌≡◌}
use Rattle.odb_wire.specs.Feeding.{fault_of}
use Rattle.odb_wire.specs.Stream.{messages}
use Rattle.odb_wire.proofs.Pieces.{ReadUpTo}
use Rattle.odb_wire.proofs.framer.read_pieces.Given as goal

abbrev pub invariant-loop-piece : goal.invariant-loop-piece
invariant-loop-piece l = (l.framer.most ≡ l.most) × ReadUpTo l.most l.pieces l.piece-index l.framer.bytes l.messages.items × (l.fault ≡ fault_of (messages l.most l.framer.bytes).1)
