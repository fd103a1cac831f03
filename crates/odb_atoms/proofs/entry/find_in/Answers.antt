use mathlib.Core.Path.{sym, ap, ◌∙◌}
use Rattle.std.proofs.Common.{rules, Some}
use Rattle.std.proofs.lemmas.Fn.{always_returns_same}
use Rattle.odb_atoms.specs.Atom.{atom_cmp}
use Rattle.odb_atoms.specs.Represented.Atom.{atom_of}
use Rattle.odb_atoms.specs.Represented.AtomOrder.{atom_cmp_total}
use Rattle.odb_atoms.proofs.Rising.{find-missed, find-tied, searchable}
use Rattle.odb_atoms.proofs.entry.find_in.Goals as goal

pub returns-in-Ok : goal.returns-in-Ok
returns-in-Ok g c =
    let entry = g.E.Entry.entry in
    let tied = c.in-Ok.ensures.position (λ e. atom_cmp (entry e).0 (atom_of c.args.key.now)) (always_returns_same _ _ _ (λ a r f' k. search rules)) in
    let found = find-tied atom_cmp_total entry _ _ c.in-Ok.place c.index-entries-place.result c.requires c.in-Ok.ensures.bound (tied c.index-entries-place.result) in
    ap (λ e. Some (entry e).1) c.index-entries-place.is ∙ sym found

pub returns-in-Err : goal.returns-in-Err
returns-in-Err g c =
    let entry = g.E.Entry.entry in
    let key = atom_of c.args.key.now in
    let missed = c.in-Err.ensures.position (λ e. atom_cmp (entry e).0 key) (always_returns_same _ _ _ (λ a r f' k. search rules)) (searchable atom_cmp_total entry key _ c.requires) in
    sym (find-missed atom_cmp_total entry key _ _ missed)
