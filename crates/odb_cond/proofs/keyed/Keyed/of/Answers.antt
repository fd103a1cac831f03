use Rattle.std.proofs.Common.{rules, sym}
use Rattle.std.specs.Prelude.{IsPermutation}
use Rattle.std.proofs.lemmas.List.Sorted.{list_any-IsPermutation}
use Rattle.odb_atoms.specs.Represented.Atom.{atom_of}
use Rattle.odb_atoms.specs.Row.{cell}
use Rattle.odb_cond.specs.Represented.Clause.{selector_of}
use Rattle.odb_cond.specs.Represented.Keyed.{asks}
use Rattle.odb_cond.proofs.keyed.Keyed.of.Goals as goal

pub returns : goal.returns
returns c =
    let list = c.args.list in
    let sorted : IsPermutation list.atoms.items c.of.result = search rules in
    λ u r. sym (list_any-IsPermutation (λ a. asks list.is_equality (cell u r (selector_of list.column)) (atom_of a)) list.atoms.items c.of.result sorted)
