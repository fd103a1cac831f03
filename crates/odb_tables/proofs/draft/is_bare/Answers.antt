use Rattle.std.proofs.Common.{rules, ◌≡◌, Some, None, slice_get, ap, ◌∙◌}
use Rattle.odb_atoms.specs.FinMap as finite
use Rattle.odb_tables.specs.Represented.Draft.{ground, overlaid}
use Rattle.odb_tables.proofs.Overlays.{overlaid-empty}
use Rattle.odb_tables.proofs.draft.is_bare.Goals as goal

pub returns-in-Some : goal.returns-in-Some
returns-in-Some c empty t =
    let there : slice_get c.args.overlays.now c.args.place ≡ Some c.in-Some.over.now = search rules in
    let none : c.in-Some.over.now ≡ finite.empty = c.is_empty.ensures empty in
    ap (ground t) there ∙ ap (overlaid t) none ∙ overlaid-empty t

pub returns-in-None : goal.returns-in-None
returns-in-None c _ t =
    let none : slice_get c.args.overlays.now c.args.place ≡ None = search rules in
    ap (ground t) none
