use Rattle.std.proofs.Common.{arith}
use Rattle.odb_wire.proofs.Fronts.{is_whole-scanned, is_unfinished-scanned, front_of-scanned}
use Rattle.odb_wire.proofs.split.front_at.Goals as goal

pub returns-in-Some : goal.returns-in-Some
returns-in-Some c =
    is_whole-scanned c.args.most _ _ _ _ _ _ _ c.in-Some-eq123-default.ensures.cases.0 c.in-Some-eq123-default.field-0-0-test (omega (arith, c.min.ensures, c.saturating_sub.ensures)) c.begun-scan.ensures.state c.begun-scan.ensures.depth c.in-Some.ensures.end

pub returns-then-bytes-most : goal.returns-then-bytes-most
returns-then-bytes-most c =
    is_unfinished-scanned c.args.most _ _ _ _ _ _ _ c.in-Some-eq123-default.ensures.cases.0 c.in-Some-eq123-default.field-0-0-test (omega (arith, c.min.ensures, c.saturating_sub.ensures)) c.begun-scan.ensures.state c.begun-scan.ensures.depth c.in-None.ensures.on c.in-None.ensures.bound c.if-bytes-most.true

pub returns-else-bytes-most : goal.returns-else-bytes-most
returns-else-bytes-most c =
    front_of-scanned c.args.most _ _ _ _ _ _ _ _ c.in-Some-eq123-default.ensures.cases.0 c.in-Some-eq123-default.field-0-0-test (omega (arith, c.min.ensures, c.saturating_sub.ensures)) c.begun-scan.ensures.state c.begun-scan.ensures.depth c.in-None.ensures.on c.if-bytes-most.false
