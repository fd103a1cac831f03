use Rattle.std.proofs.Common.{rules, ◌≡◌, ◌∙◌, ◌∷◌, [], ℕ, List, ap, false, map, sym, true}
use Rattle.std.proofs.lemmas.Result.{on_ok_weaker}
use Rattle.std.specs.List.{list_all}
use Rattle.json.specs.Print.{print}
use Rattle.json.specs.Token.{begin_object, key}
use Rattle.odb_monitor.specs.Represented.Joining.{with_table}
use Rattle.odb_monitor.specs.View.{is_empty}
use Rattle.odb_monitor.proofs.Finished.{put_none, put_some}
use Rattle.odb_monitor.proofs.Pieces.{all_mapped}
use Rattle.odb_monitor.proofs.joining.Joining.put.Goals as goal

pub returns-then-are_empty : goal.returns-then-are_empty
returns-then-are_empty c =
    let pieces = c.args.pieces.now in
    let texts : List (List ℕ) = map (λ piece. piece.items) pieces in
    let tested : list_all (λ piece. is_empty piece.items) pieces ≡ true = search rules in
    let none : list_all is_empty texts ≡ true = sym (all_mapped is_empty (λ piece. piece.items) pieces) ∙ tested in
    λ n first ps p is listed. put_none c.args.listing.now texts c.args.self.now n first ps p c.in_ok-head.ensures.rows c.requires none is listed

pub returns : goal.returns
returns c =
    let pieces = c.args.pieces.now in
    let l = c.args.listing.now in
    let old : List ℕ = c.self.inside.text.items in
    let texts : List (List ℕ) = map (λ piece. piece.items) pieces in
    let tested : list_all (λ piece. is_empty piece.items) pieces ≡ false = search rules in
    let some : list_all is_empty texts ≡ false = sym (all_mapped is_empty (λ piece. piece.items) pieces) ∙ tested in
    let head : c.deref.result.now ≡ print (key l.name ∷ begin_object ∷ []) = c.deref.ensures.value ∙ c.in_ok-head.ensures.text in
    on_ok_weaker c.put_table.result
    (λ e n first ps p is listed. e ∙ ap (λ h. with_table old h texts) head ∙ put_some l texts old n first ps p c.in_ok-head.ensures.rows c.requires some (c.self.view_is ∙ is) listed)
    c.put_table.ensures
