use mathlib.Core.Path.{◌∙◌}
use Rattle.odb_atoms.proofs.Represented.Entries.{elements_rise}
use Rattle.odb_atoms.proofs.Represented.Merged.{merged_ascend, merged_set}
use Rattle.odb_atoms.proofs.update.changed_elements.Goals as goal

pub changed-requires : goal.changed-requires
changed-requires c = record { old_rising = elements_rise c.args.old.now c.requires.old; new_rising = elements_rise c.args.new.now c.requires.new }

pub of_elements-requires : goal.of_elements-requires
of_elements-requires c = merged_ascend c.args.old.now c.args.new.now c.in_ok-changed.field-0.items c.requires.old c.requires.new c.in_ok-changed.ensures

pub returns : goal.returns
returns c = c.of_elements.ensures ∙ merged_set c.args.old.now c.args.new.now c.in_ok-changed.field-0.items c.requires.old c.requires.new c.in_ok-changed.ensures
