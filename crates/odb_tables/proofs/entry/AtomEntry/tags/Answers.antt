use mathlib.Core.Logic.{inl}
use Rattle.odb_tables.proofs.Mentions.{element-tag}
use Rattle.odb_tables.proofs.entry.AtomEntry.tags.Goals as goal

pub returns : goal.returns
returns c tag e = inl (element-tag tag c.args.self.now c.key_of.result c.key_of.ensures e)
