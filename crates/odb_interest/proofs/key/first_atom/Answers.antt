use Rattle.std.proofs.Common.{ap, ◌∙◌}
use Rattle.odb_interest.specs.Keys.{first_in}
use Rattle.odb_interest.proofs.Listed.{keys-listed}
use Rattle.odb_interest.proofs.key.first_atom.Goals as goal

pub returns-in-Map : goal.returns-in-Map
returns-in-Map c = c.first_key.ensures ∙ ap first_in (keys-listed c.in-Map.pairs c.args.value.now c.in-Map.ensures.listed)
