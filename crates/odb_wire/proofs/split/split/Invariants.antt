use Rattle.std.proofs.Common.{◌≡◌, All, length, map}
use Rattle.odb_wire.specs.Stream.{skip_blanks}
use Rattle.odb_wire.specs.Shown.{message_data, IsOfItsKind}
use Rattle.odb_wire.proofs.Steps.{SoFar}
use Rattle.odb_wire.proofs.split.split.Given as goal

abbrev pub invariant-loop-left : goal.invariant-loop-left
invariant-loop-left l =
    record {
      clean : skip_blanks l.left ≡ l.left;
      so_far : SoFar l.most (map message_data l.fn.messages.items) l.bytes (map message_data l.messages.items) l.left;
      kinds : All IsOfItsKind l.fn.messages.items → All IsOfItsKind l.messages.items;
    }

abbrev pub decreases-loop-left : goal.decreases-loop-left
decreases-loop-left l = length l.left
