use Rattle.std.proofs.Common.{rules, ◌≡◌, [], length}
use Rattle.odb_atoms.specs.FinMap.{empty}
use Rattle.odb_core.specs.Represented.Core.{empty_world}
use Rattle.odb_core.specs.Represented.Rounds.{book_in}
use Rattle.odb_core.proofs.ValidSteps.{whole_new}
use Rattle.odb_core.proofs.server.Core.with_run.Goals as goal

pub invariant_of-result : goal.invariant_of-result
invariant_of-result c =
    let s = c.args.schema in
    let served : c.in-Ok-new.served ≡ s = search rules in
    let made : c.in-Ok.sessions ≡ book_in (empty_world c.args.run c.args.most (length s.tables)) = search rules in
    let none : c.new-2.result ≡ [] = search rules in
    let free : c.new-3.result ≡ empty = search rules in
    whole_new c.args.run c.args.most s c.in-Ok-new.served c.in-Ok.sessions c.new-2.result c.new-3.result served made none free
