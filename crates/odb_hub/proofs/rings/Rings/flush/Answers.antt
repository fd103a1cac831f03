use Rattle.std.proofs.Common.{sym, subst}
use Rattle.odb_atoms.specs.FinMap.{get}
use Rattle.odb_hub.specs.Rings.{IsFlushedAt, Rings}
use Rattle.odb_hub.proofs.HandingOver.{flushed_twice}
use Rattle.odb_hub.proofs.rings.Rings.flush.Goals as goal

pub loop-session-preserved : goal.loop-session-preserved
loop-session-preserved c s =
    let one : IsFlushedAt (get c.loop-session.self s) (get c.add_if_holding.new.self s) = subst (λ (m : Rings). IsFlushedAt (get c.loop-session.self s) (get m s)) (sym c.add_if_holding.ensures) (c.flush_at.ensures.flushed s) in
    flushed_twice _ (get c.loop-session.self s) _ (c.loop-session.invariant s) one
