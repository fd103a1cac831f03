use Rattle.std.proofs.Common.{sym, subst}
use Rattle.odb_hub.specs.Outbox.{Takes}
use Rattle.odb_hub.proofs.Writing.{takes_more}
use Rattle.odb_hub.proofs.outbox.Outbox.fill.Goals as goal

pub returns-then-not-has_next-clause-takes : goal.returns-then-not-has_next-clause-takes
returns-then-not-has_next-clause-takes c = subst (Takes c.args.self.now) (sym c.give_back_if_empty.ensures.same) (takes_more c.args.self.now c.loop.self c.has_next.new.self c.loop.invariant c.has_next.ensures)

pub returns-in_err-move_message-clause-takes : goal.returns-in_err-move_message-clause-takes
returns-in_err-move_message-clause-takes c = subst (Takes c.args.self.now) (sym c.move_message.ensures.same) (takes_more c.args.self.now c.loop.self c.has_next.new.self c.loop.invariant c.has_next.ensures)

pub loop-preserved : goal.loop-preserved
loop-preserved c = subst (Takes c.args.self.now) (sym c.move_message.ensures.same) (takes_more c.args.self.now c.loop.self c.has_next.new.self c.loop.invariant c.has_next.ensures)
