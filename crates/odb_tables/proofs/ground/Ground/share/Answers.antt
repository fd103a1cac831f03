use Rattle.std.proofs.Common.{rules, ◌≡◌, Some, None, option_copied, sym, ap, ◌∙◌}
use Rattle.odb_atoms.specs.FinMap as finite
use Rattle.odb_tables.specs.Database.{Table}
use Rattle.odb_tables.specs.Represented.Draft.{ground, laid, overlaid}
use Rattle.odb_tables.specs.Represented.Overlay.{Touched, row_of}
use Rattle.odb_tables.proofs.Overlays.{get-overlaid}
use Rattle.odb_tables.proofs.ground.Ground.share.Goals as goal

pub returns-in-Some-share : goal.returns-in-Some-share
returns-in-Some-share c =
    let t : Table = c.self.inside.table.now in
    let o : Touched = c.in-Some.under.now in
    let k = c.args.key in
    let got : Some (row_of (option_copied c.in-Some-share.row)) ≡ finite.get o k = search rules in
    let whole : overlaid t o ≡ c.args.self.now = ap (λ u. ground t (option_copied u)) (sym c.in-Some.is) ∙ c.self.view_is in
    ap (laid (finite.get t k)) got ∙ sym (get-overlaid t o k) ∙ ap (λ x. finite.get x k) whole

pub returns-in-None : goal.returns-in-None
returns-in-None c =
    let t : Table = c.self.inside.table.now in
    let o : Touched = c.in-Some.under.now in
    let k = c.args.key in
    let got : None ≡ finite.get o k = search rules in
    let whole : overlaid t o ≡ c.args.self.now = ap (λ u. ground t (option_copied u)) (sym c.in-Some.is) ∙ c.self.view_is in
    c.share-in-None.ensures ∙ ap (laid (finite.get t k)) got ∙ sym (get-overlaid t o k) ∙ ap (λ x. finite.get x k) whole
