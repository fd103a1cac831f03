use Rattle.std.proofs.Common.{length, ◌-◌, drop, arith}
use Rattle.std.proofs.lemmas.List.{length-drop, take_all}
use Rattle.odb_wire.proofs.Scans.{passes_over}
use Rattle.odb_wire.proofs.scan.telling.Goals as goal

pub returns-in-Inside-clause-passed : goal.returns-in-Inside-clause-passed
returns-in-Inside-clause-passed c =
    let rest = take_all (length c.args.bytes.now - c.args.from) (drop c.args.from c.args.bytes.now) (rw (length-drop c.args.from c.args.bytes.now) (omega arith)) in
    rw c.in-Inside.is (passes_over c.args.bytes.now c.args.from c.plain.result (omega arith) (rw rest at c.plain.ensures.inside))
