use Rattle.std.proofs.Common.{◌∙◌}
use Rattle.std.proofs.lemmas.Result.{on_ok_weaker}
use Rattle.odb_tables.proofs.Mentions.{elements-mention, onward, pairs-mention}
use Rattle.odb_tables.proofs.mentioned.add_gained.Goals as goal

pub returns-in-Set-clause-ok : goal.returns-in-Set-clause-ok
returns-in-Set-clause-ok c = on_ok_weaker c.add_entries.result (λ added tag h. onward (λ k. c.elements_of.ensures tag k) (λ k. k) (added tag (elements-mention tag c.in-Set.elements c.args.value.now c.in-Set.ensures.listed ∙ h))) c.add_entries.ensures.ok

pub returns-in-Map-clause-ok : goal.returns-in-Map-clause-ok
returns-in-Map-clause-ok c = on_ok_weaker c.add_entries-in-Map.result (λ added tag h. onward (λ k. c.pairs_of.ensures tag k) (λ k. k) (added tag (pairs-mention tag c.in-Map.entries c.args.value.now c.in-Map.ensures.listed ∙ h))) c.add_entries-in-Map.ensures.ok
