use Rattle.std.proofs.Common.{rules, ◌≡◌, ◌==◌, Ok, false, ap, ◌∙◌}
use Rattle.odb_atoms.specs.ColType.{has_kind}
use Rattle.odb_atoms.specs.FinSet as set
use Rattle.odb_atoms.specs.Represented.ColType.{type_of}
use Rattle.odb_atoms.specs.Value.{set_of, size}
use Rattle.odb_mutate.specs.Mutation.{mutate}
use Rattle.odb_ops.proofs.Insertions.{inserts_one, nothing_is_taken, some_left}
use Rattle.odb_ops.proofs.merging.operand.Goals as goal

pub on-requires-clause-kind : goal.on-requires-clause-kind
on-requires-clause-kind c =
    let t = type_of c.args.sets.now in
    ap (has_kind t) c.empty_set-nothing.ensures ∙ nothing_is_taken t c.requires.flat

pub returns : goal.returns
returns c =
    let t = type_of c.args.sets.now in
    let m = c.args.mutation.now in
    let v = c.in-Ok.value in
    let made : mutate m.mutator m.value t (set_of set.empty) ≡ Ok v = search rules in
    let several : (size v == 0) ≡ false = search rules in
    inserts_one t m v c.requires.taken made (some_left (size v) several)
