use Rattle.std.proofs.Common.{◌≡◌, IfSome, true, subst, sym}
use Rattle.odb_atoms.specs.Represented.Atom.{kind_in}
use Rattle.odb_atoms.specs.Represented.ColType.{type_of}
use Rattle.odb_ops.specs.Represented.Merged.{Inserts, StandsFor, all_take}
use Rattle.odb_ops.proofs.Insertions.{all_taken}
use Rattle.odb_ops.proofs.merging.merged.Goals as goal

pub inserted-found-requires-clause-taken : goal.inserted-found-requires-clause-taken
inserted-found-requires-clause-taken c =
    let ms = c.args.mutations.now in
    let found = c.in-Some-element_kind in
    subst (λ t. all_take t ms ≡ true) (sym c.sets_of-sets.ensures) (all_taken c.args.columns.now c.in-Some.place (kind_in found.kind) ms found.ensures.set found.ensures.kind c.in-Some.ensures c.requires)

pub returns : goal.returns
returns c =
    let ms = c.args.mutations.now in
    let sets = type_of c.sets_of-sets.result in
    let all : Inserts sets ms c.in-Some-2.value = subst (λ o. IfSome o (Inserts sets ms)) c.in-Some-2.is c.in_ok-value.ensures in
    subst (λ m. StandsFor m ms) (sym c.new.ensures) (all.2 c.in-Some.place c.in-Some.ensures)
