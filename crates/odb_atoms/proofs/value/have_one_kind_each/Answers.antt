use mathlib.Core.Path.{ap, ◌∙◌}
use Rattle.odb_atoms.specs.ColType.{is_a}
use Rattle.odb_atoms.specs.Represented.Atom.{kind_in}
use Rattle.odb_atoms.specs.Represented.Value.{each_pair}
use Rattle.odb_atoms.proofs.Represented.Entries.{one_kind_each-front}
use Rattle.odb_atoms.proofs.Rising.{front}
use Rattle.odb_atoms.proofs.value.have_one_kind_each.Goals as goal

pub returns-in-len1-up : goal.returns-in-len1-up
returns-in-len1-up c = c.are_all_pairs_of.ensures ∙ ap (each_pair (is_a (kind_in c.kind.result)) (is_a (kind_in c.kind-in-len1-up.result))) c.of.ensures ∙ one_kind_each-front c.args.pairs.now c.first-item.result _ _ _ (front _ _ c.in-len1-up.len_at_least c.first-item.is) c.kind.ensures c.kind-in-len1-up.ensures
