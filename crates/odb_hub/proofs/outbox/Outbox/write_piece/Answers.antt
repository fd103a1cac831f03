use Rattle.odb_hub.proofs.Writing.{moves_after, some_moves}
use Rattle.odb_hub.proofs.outbox.Outbox.write_piece.Goals as goal

pub returns-clause-moves : goal.returns-clause-moves
returns-clause-moves g c =
    let a = g.W.Write.contents c.args.writer.now in
    let b = g.W.Write.contents c.write_buffer.new.writer in
    some_moves c.args.self.now c.write_buffer.new.self a b (moves_after c.args.self.now c.fill.new.self c.write_buffer.new.self a b c.fill.ensures.takes c.in_ok-write_buffer.ensures.ok)

pub returns-clause-some : goal.returns-clause-some
returns-clause-some g c = λ _. moves_after c.args.self.now c.fill.new.self c.write_buffer.new.self (g.W.Write.contents c.args.writer.now) (g.W.Write.contents c.write_buffer.new.writer) c.fill.ensures.takes c.in_ok-write_buffer.ensures.ok
