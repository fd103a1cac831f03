use Rattle.std.proofs.Common.{rules, ◌≡◌, ◌++◌, arith}
use Rattle.odb_wire.specs.Standing.{IsUnfinished}
use Rattle.odb_wire.proofs.Rests.{unfinished, front_of-completed, reads_too_long, reads_on}
use Rattle.odb_wire.proofs.split.Unfinished.advance.Goals as goal

pub overflow_sub-room : goal.overflow_sub-room
overflow_sub-room c =
    let begun : IsUnfinished c.args.most c.args.self.text.items c.args.self.scan = unfinished _ _ _ _ c.requires (omega arith) c.if-is_empty.ensures in
    omega (arith, begun.short)

pub complete-requires : goal.complete-requires
complete-requires c =
    let begun : IsUnfinished c.args.most c.args.self.text.items c.args.self.scan = unfinished _ _ _ _ c.requires (omega arith) c.if-is_empty.ensures in
    front_of-completed c.args.most _ _ _ _ _ _ begun (omega arith) c.in-Some.ensures.end c.split_at.ensures.front

pub returns-then-piece-room-clause-ok : goal.returns-then-piece-room-clause-ok
returns-then-piece-room-clause-ok c =
    let begun : IsUnfinished c.args.most c.args.self.text.items c.args.self.scan = unfinished _ _ _ _ c.requires (omega arith) c.if-is_empty.ensures in
    rw c.stopped.ensures (reads_too_long c.args.most _ _ _ _ _ _ _ begun (omega arith) (omega arith) c.in_default.ensures.on c.new-then-piece-room.ensures.items)

pub returns-in_default-clause-ok : goal.returns-in_default-clause-ok
returns-in_default-clause-ok c =
    let begun : IsUnfinished c.args.most c.args.self.text.items c.args.self.scan = unfinished _ _ _ _ c.requires (omega arith) c.if-is_empty.ensures in
    let longer : c.extend_from_slice.new.self.items ≡ c.args.self.text.items ++ c.args.piece.now = search rules in
    rw c.going.ensures (reads_on c.args.most _ _ _ _ _ _ begun (omega arith) (omega arith) c.in_default.ensures.on c.in_default.ensures.bound longer c.new-in_default.ensures.items)
