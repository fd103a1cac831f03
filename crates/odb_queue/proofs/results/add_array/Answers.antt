use Rattle.std.proofs.Common.{rules, ◌≡◌, ◌++◌, ◌∷◌, [], ◌∙◌}
use Rattle.odb_queue.specs.Represented.Results.{item_texts}
use Rattle.odb_queue.proofs.ResultTexts.{around_items}
use Rattle.odb_queue.proofs.results.add_array.Goals as goal

pub returns : goal.returns
returns c =
    let old = c.args.text.now.items in
    let ds = c.args.results.now in
    let built : c.push-2.new.self.items ≡ ((old ++ 91 ∷ []) ++ item_texts ds) ++ 93 ∷ [] = search rules in
    built ∙ around_items old ds
