use Rattle.std.proofs.Common.{sym, ap, ◌∙◌}
use Rattle.std.specs.Option.{option_copied}
use Rattle.odb_tables.specs.Represented.Entry.{mentions_now}
use Rattle.odb_tables.proofs.Mentions.{pairs-mention}
use Rattle.odb_tables.proofs.entry.pairs_of.Goals as goal

pub returns-in-Map : goal.returns-in-Map
returns-in-Map c tag e = ap (λ o. mentions_now tag (option_copied o)) c.in-Some.is ∙ sym (pairs-mention tag c.in-Map.pairs c.in-Some.value.now c.in-Map.ensures.listed) ∙ e
