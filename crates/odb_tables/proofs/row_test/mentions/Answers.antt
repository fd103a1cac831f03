use Rattle.std.proofs.Common.{◌∙◌}
use Rattle.odb_atoms.specs.Represented.Atom.{uuid_of}
use Rattle.odb_tables.proofs.Twins.{mentioned_in_pairs}
use Rattle.odb_tables.proofs.row_test.mentions.Goals as goal

pub returns : goal.returns
returns c = c.is_in_pairs.ensures ∙ mentioned_in_pairs (uuid_of c.args.uuid) c.in-Map.pairs c.args.value.now c.in-Map.ensures.listed
