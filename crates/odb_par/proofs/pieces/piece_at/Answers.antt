use Rattle.std.proofs.Common.{rules, ◌≡◌, ◌-◌, ◌*◌, ◌^◌, ◌<◌, arith, drop, length, min, take, ap, ◌∙◌}
use Rattle.std.proofs.lemmas.Result.{IfOk-weaker}
use Rattle.odb_monitor.specs.Listing.{rows_text}
use Rattle.odb_par.proofs.OfRows.{begun_at}
use Rattle.odb_par.proofs.pieces.piece_at.Goals as goal

pub returns : goal.returns
returns c =
    let rows = c.args.listing.now.rows in
    let place = c.args.place * c.args.size in
    let len : c.len.result ≡ length rows = search rules in
    let few : c.len.result < 2 ^ 64 = search rules in
    let first : c.min-first.result ≡ min (min place (2 ^ 64 - 1)) (length rows) = search rules in
    IfOk-weaker c.piece.result _ _ (λ text is. is ∙ ap (λ n. rows_text (take c.args.size (drop n rows))) first ∙ ap (λ xs. rows_text (take c.args.size xs)) (begun_at place (2 ^ 64 - 1) rows (omega (arith, len, few)))) c.piece.ensures
