use Rattle.std.proofs.Common.{sym, ap, ◌∙◌}
use Rattle.std.specs.Option.{option_copied}
use Rattle.odb_tables.specs.Represented.Entry.{mentions_now}
use Rattle.odb_tables.proofs.Mentions.{elements-mention}
use Rattle.odb_tables.proofs.entry.elements_of.Goals as goal

pub returns-in-Set : goal.returns-in-Set
returns-in-Set c tag e = ap (λ o. mentions_now tag (option_copied o)) c.in-Some.is ∙ sym (elements-mention tag c.in-Set.elements c.in-Some.value.now c.in-Set.ensures.listed) ∙ e
