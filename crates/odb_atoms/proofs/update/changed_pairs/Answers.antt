use mathlib.Core.Path.{◌∙◌}
use Rattle.odb_atoms.proofs.Represented.Entries.{pairs_rise}
use Rattle.odb_atoms.proofs.Represented.Merged.{merged_keys_ascend, merged_map}
use Rattle.odb_atoms.proofs.update.changed_pairs.Goals as goal

pub changed-requires : goal.changed-requires
changed-requires c = record { old_rising = pairs_rise c.args.old.now c.requires.old; new_rising = pairs_rise c.args.new.now c.requires.new }

pub of_pairs-requires : goal.of_pairs-requires
of_pairs-requires c = merged_keys_ascend c.args.old.now c.args.new.now c.in_ok-changed.field-0.items c.requires.old c.requires.new c.in_ok-changed.ensures

pub returns : goal.returns
returns c = c.of_pairs.ensures ∙ merged_map c.args.old.now c.args.new.now c.in_ok-changed.field-0.items c.requires.old c.requires.new c.in_ok-changed.ensures
