use Rattle.std.proofs.Common.{rules, ◌≡◌, ◌∙◌, ap, drop, flat_map, subst, take}
use Rattle.json.specs.Print.{print}
use Rattle.odb_monitor.specs.Listing.{Listing, rows_text}
use Rattle.odb_monitor.specs.Represented.Listing.{layout_of, side_tokens}
use Rattle.odb_monitor.proofs.Pieces.{rows_cut}
use Rattle.odb_request.specs.Represented.Notation.{notation_of}
use Rattle.odb_monitor.proofs.listing.Listing.piece.Goals as goal

pub returns : goal.returns
returns c =
    let i = c.self.inside in
    let by = i.comparison in
    let layout : c.of-layout.result ≡ layout_of (notation_of i.notation) by = search rules in
    let cut : c.between-sides.result.now ≡ take c.args.count (drop c.args.first i.sides.items) = search rules in
    let built : c.finish.result.items ≡ print (flat_map (side_tokens c.of-layout.result by) c.between-sides.result.now) = search rules in
    subst (λ (l : Listing). c.finish.result.items ≡ rows_text (take c.args.count (drop c.args.first l.rows))) c.self.view_is
    (built ∙ (λ j. print (flat_map (side_tokens (layout j) by) (cut j))) ∙ ap print (rows_cut (side_tokens (layout_of (notation_of i.notation) by) by) c.args.count c.args.first i.sides.items))
