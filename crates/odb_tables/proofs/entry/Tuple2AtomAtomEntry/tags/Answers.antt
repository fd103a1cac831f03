use Rattle.odb_tables.proofs.Mentions.{pair-tags}
use Rattle.odb_tables.proofs.entry.Tuple2AtomAtomEntry.tags.Goals as goal

pub returns : goal.returns
returns c tag e = pair-tags tag c.args.self.now c.key_of.result c.key_of-2.result c.key_of.ensures c.key_of-2.ensures e
