use Rattle.std.proofs.Common.{◌∙◌}
use Rattle.odb_tables.proofs.Digests.{fed_elements, fed_entries}
use Rattle.odb_tables.proofs.digest.feed_value.Goals as goal

pub returns-in-Set : goal.returns-in-Set
returns-in-Set c = c.feed_elements.ensures ∙ fed_elements c.args.state.now c.in-Set.elements c.args.value.now c.in-Set.ensures.listed

pub returns-in-Map : goal.returns-in-Map
returns-in-Map c = c.feed_pairs.ensures ∙ fed_entries c.args.state.now c.in-Map.pairs c.args.value.now c.in-Map.ensures.listed
