use Rattle.std.proofs.Common.{subst, sym}
use Rattle.std.proofs.lemmas.Result.{IfOk-weaker}
use Rattle.odb_par.specs.Pieces.{AreTexts}
use Rattle.odb_par.proofs.OfRows.{of_rows}
use Rattle.odb_par.proofs.pieces.pieces_of.Goals as goal

pub returns : goal.returns
returns g c =
    let rows = c.args.listing.now.rows in
    IfOk-weaker c.all_of.result _ _ (λ all same. of_rows c.max-size.result rows all.items (subst (λ ts. AreTexts c.max-size.result rows ts) (sym same) c.in_ok-texts.ensures)) c.all_of.ensures
