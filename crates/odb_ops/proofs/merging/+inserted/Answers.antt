use Rattle.std.proofs.Common.{IfSome, subst}
use Rattle.std.proofs.lemmas.Result.{IfOk-weaker}
use Rattle.odb_atoms.specs.Represented.ColType.{type_of}
use Rattle.odb_ops.specs.Represented.Merged.{Inserts}
use Rattle.odb_ops.proofs.Insertions.{may_insert}
use Rattle.odb_ops.proofs.merging.+inserted.Goals as goal

pub returns : goal.returns
returns t c =
    let sets = type_of c.args.sets.now in
    let front = c.halves.result.0.now in
    let back = c.halves.result.1.now in
    let left : Inserts sets front c.in-Some.left = subst (λ o. IfSome o (Inserts sets front)) c.in-Some.is c.in_ok-left.ensures in
    let right : Inserts sets back c.in-Some-2.right = subst (λ o. IfSome o (Inserts sets back)) c.in-Some-2.is c.in_ok-right.ensures in
    IfOk-weaker c.united.result _ _ (λ found h. may_insert sets front back c.args.mutations.now c.in-Some.left c.in-Some-2.right found c.requires.flat c.halves.ensures.whole left right h) c.united.ensures
