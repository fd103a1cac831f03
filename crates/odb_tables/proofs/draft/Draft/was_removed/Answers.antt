use Rattle.std.proofs.Common.{rules, ◌≡◌, ◌<◌, ◌≤◌, List, length, slice_index_or, is_some, sym, ap, ◌∙◌}
use Rattle.odb_atoms.specs.FinSet as set
use Rattle.odb_atoms.specs.Represented.Atom.{uuid_of}
use Rattle.odb_atoms.specs.Uuid.{uuid_cmp}
use Rattle.odb_atoms.proofs.FinMaps.{get-empty}
use Rattle.odb_tables.specs.Draft.{removed_at}
use Rattle.odb_tables.specs.Represented.Draft.{taken_out, touched_at}
use Rattle.odb_tables.specs.Represented.Overlay.{Touched}
use Rattle.odb_tables.proofs.Overlays.{removed-all, taken_out-empty, touched-is, untouched-past}
use Rattle.odb_tables.proofs.draft.Draft.was_removed.Goals as goal

pub returns-in-None : goal.returns-in-None
returns-in-None c =
    let os : List Touched = c.self.inside.overlays.items in
    let k = c.args.table in
    let u = uuid_of c.args.uuid in
    let past : length os ≤ k = search rules in
    let none : taken_out (touched_at os k) ≡ set.empty = ap taken_out (untouched-past os k past) ∙ taken_out-empty in
    sym (ap is_some (get-empty uuid_cmp u)) ∙ ap (λ s. set.contains s u) (sym none ∙ sym (removed-all os k)) ∙ ap (λ d. set.contains (removed_at d k) u) c.self.view_is

pub returns-in-Some : goal.returns-in-Some
returns-in-Some c =
    let os : List Touched = c.self.inside.overlays.items in
    let o : Touched = c.in-Some.overlay.now in
    let k = c.args.table in
    let u = uuid_of c.args.uuid in
    let inside : k < length os = search rules in
    let at : o ≡ slice_index_or os k o = search rules in
    c.is_removed.ensures ∙ ap (λ t. set.contains (taken_out t) u) (touched-is os k o inside at) ∙ ap (λ s. set.contains s u) (sym (removed-all os k)) ∙ ap (λ d. set.contains (removed_at d k) u) c.self.view_is
