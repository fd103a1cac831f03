use mathlib.Core.Path.{ap, ◌∙◌}
use Rattle.odb_atoms.specs.ColType.{is_a}
use Rattle.odb_atoms.specs.Represented.Atom.{atom_of, kind_in}
use Rattle.odb_atoms.specs.Represented.Value.{each_element}
use Rattle.odb_atoms.proofs.Represented.Entries.{one_kind-front}
use Rattle.odb_atoms.proofs.Rising.{front}
use Rattle.odb_atoms.proofs.value.are_of_one_kind.Goals as goal

pub returns-in-len1-up : goal.returns-in-len1-up
returns-in-len1-up c = c.are_all_a.ensures ∙ ap (each_element (is_a (kind_in c.kind.result))) c.of.ensures ∙ one_kind-front atom_of c.args.elements.now c.first-item.result _ _ (front _ _ c.in-len1-up.len_at_least c.first-item.is) c.kind.ensures
