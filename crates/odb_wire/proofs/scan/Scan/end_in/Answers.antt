use Rattle.odb_wire.proofs.Scans.{is_end-take}
use Rattle.odb_wire.proofs.scan.Scan.end_in.Goals as goal

pub returns-then-open-eq0-clause-end : goal.returns-then-open-eq0-clause-end
returns-then-open-eq0-clause-end c = is_end-take _ _ _ _ _ _ _ c.loop-next-test.true c.loop-next.invariant.further c.after-further.ensures.depth c.if-open-eq0.true
