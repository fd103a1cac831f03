use Rattle.std.proofs.Common.{rules, ◌≡◌, ◌<◌, [], List, length, slice_index_or, sym, ap, ◌∙◌}
use Rattle.std.proofs.lemmas.List.{nil_from_length}
use Rattle.odb_sessions.specs.declared.item.Item.{Item}
use Rattle.odb_round.specs.Taken.{begins_finished}
use Rattle.odb_round.proofs.Finished.{first_finished}
use Rattle.odb_round.proofs.Leading.{all_seen}
use Rattle.odb_round.proofs.round.begins_finished.Goals as goal

pub returns : goal.returns
returns c =
    let xs : List Item = c.args.items.now.items in
    let x : Item = c.in-Some.first.now in
    let low : 0 < length xs = search rules in
    let at : x ≡ slice_index_or xs 0 x = search rules in
    c.is_finished.ensures ∙ first_finished xs x low at

pub returns-in_default : goal.returns-in_default
returns-in_default c =
    let xs : List Item = c.args.items.now.items in
    let zero : length xs ≡ 0 = search rules in
    ap (λ (ys : List Item). begins_finished (all_seen ys)) (sym (nil_from_length xs zero))
