use Rattle.std.proofs.Common.{rules, ◌≡◌, true, ◌++◌}
use Rattle.odb_hub.specs.Outbox.{MovesSome}
use Rattle.odb_hub.proofs.Writing.{longer_after, moves_more, writes_more}
use Rattle.odb_hub.proofs.outbox.Outbox.write_to.Goals as goal

pub returns-in_err-write_piece-clause-moves : goal.returns-in_err-write_piece-clause-moves
returns-in_err-write_piece-clause-moves g c =
    moves_more c.loop.invariant.0 c.args.self.now c.loop.self c.write_piece.new.self (g.W.Write.contents c.args.writer.now) (g.W.Write.contents c.loop.writer) (g.W.Write.contents c.write_piece.new.writer) c.loop.invariant.1 c.write_piece.ensures.moves

pub returns-then-not-branch-clause-moves : goal.returns-then-not-branch-clause-moves
returns-then-not-branch-clause-moves g c =
    moves_more c.loop.invariant.0 c.args.self.now c.loop.self c.write_piece.new.self (g.W.Write.contents c.args.writer.now) (g.W.Write.contents c.loop.writer) (g.W.Write.contents c.write_piece.new.writer) c.loop.invariant.1 c.write_piece.ensures.moves

pub loop-preserved : goal.loop-preserved
loop-preserved g c =
    let a = g.W.Write.contents c.args.writer.now in
    let b = g.W.Write.contents c.loop.writer in
    let d = g.W.Write.contents c.write_piece.new.writer in
    let wrote : c.in_ok-write_piece.field-0 ≡ true = search rules in
    let some : MovesSome c.loop.self c.write_piece.new.self b d = c.in_ok-write_piece.ensures.some wrote in
    (c.loop.invariant.0 ++ some.0, writes_more c.loop.invariant.0 some.0 c.args.self.now c.loop.self c.write_piece.new.self a b d c.loop.invariant.1 some.2, λ _. longer_after c.loop.invariant.0 some.0 some.1)
