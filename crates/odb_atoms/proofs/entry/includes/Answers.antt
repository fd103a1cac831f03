use mathlib.Core.Path.{sym, ◌∙◌}
use Rattle.std.proofs.Common.{rules, map}
use Rattle.std.proofs.lemmas.Iterator.Consumers.{YieldsList-from_first}
use Rattle.std.proofs.lemmas.Iterator.Search.{all_from_yields_List}
use Rattle.std.proofs.lemmas.List.Folds.{list_all-map}
use Rattle.odb_atoms.specs.Represented.Entry.{has_entry}
use Rattle.odb_atoms.proofs.entry.includes.Goals as goal

pub returns-then-are_few : goal.returns-then-are_few
returns-then-are_few g c =
    let entry = g.E.Entry.entry in
    let found = has_entry (map entry c.args.entries.now) in
    all_from_yields_List (λ e. found (entry e)) _ _ c.all.result c.all.ensures.ran (YieldsList-from_first (λ y. y.now) (λ rest. rest) c.args.wanted.now c.iter.ensures) (λ x b q k. search rules)
    ∙ sym (list_all-map found entry c.args.wanted.now)
