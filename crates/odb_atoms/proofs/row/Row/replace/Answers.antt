use Rattle.std.proofs.Common.{Some, ◌<◌, ◌∙◌, ap, length, refl, slice_get, subst, sym}
use Rattle.std.proofs.lemmas.Option.{slice_get_read}
use Rattle.odb_atoms.specs.Row.{Row}
use Rattle.odb_atoms.proofs.row.Row.replace.Goals as goal

pub returns-clause-old : goal.returns-clause-old
returns-clause-old c =
    let items = c.self.inside.columns.items in
    let within = subst (λ (r : Row). c.args.place < length r.columns) (sym c.self.view_is) c.requires in
    ap (λ (r : Row). slice_get r.columns c.args.place) (sym c.self.view_is) ∙ slice_get_read items (length items) c.args.place c.index_mut.result.now refl within c.index_mut.ensures.value ∙ ap Some (sym c.replace.ensures.value)
