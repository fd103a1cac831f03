use mathlib.Core.Path.{◌∙◌}
use Rattle.std.proofs.Common.{rules, ◌≡◌, true, None, Some}
use Rattle.odb_atoms.specs.ColType.{is_a}
use Rattle.odb_atoms.specs.Represented.Atom.{atom_of, kind_in}
use Rattle.odb_atoms.proofs.KindOrder.{kind_within, some_last}
use Rattle.odb_chunks.specs.Represented.Chunks.{last_of}
use Rattle.odb_atoms.proofs.value.are_within.Goals as goal

pub returns-in_default-last : goal.returns-in_default-last
returns-in_default-last c =
    let none : None ≡ last_of c.args.elements.now = search rules in
    absurd (some_last c.args.elements.now c.in-Some.first.now c.in-Some.ensures none)

pub returns : goal.returns
returns c =
    let here : is_a (kind_in c.args.kind) (atom_of c.in-Some.first.now) ≡ true = search rules in
    let last : last_of c.args.elements.now ≡ Some c.in-Some-last.last.now = search rules in
    c.is_a-2.ensures ∙ kind_within (kind_in c.args.kind) c.args.elements.now c.in-Some.first.now c.in-Some-last.last.now c.in-Some.ensures c.requires last here
