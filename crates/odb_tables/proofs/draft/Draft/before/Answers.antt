use Rattle.std.proofs.Common.{rules, ◌≡◌, Some, None, slice_get, unwrap_or, sym, ap, ◌∙◌}
use Rattle.odb_atoms.specs.FinMap as finite
use Rattle.odb_atoms.specs.Represented.Atom.{uuid_of}
use Rattle.odb_atoms.specs.Uuid.{uuid_cmp}
use Rattle.odb_atoms.proofs.FinMaps.{get-empty}
use Rattle.odb_tables.proofs.draft.Draft.before.Goals as goal

pub returns-in-Some : goal.returns-in-Some
returns-in-Some c =
    let here : Some c.in-Some.ground ≡ slice_get c.args.self.now.old c.args.table = search rules in
    c.get.ensures ∙ ap (λ o. finite.get (unwrap_or o finite.empty) (uuid_of c.args.uuid)) here

pub returns-in-None : goal.returns-in-None
returns-in-None c =
    let none : None ≡ slice_get c.args.self.now.old c.args.table = search rules in
    sym (get-empty uuid_cmp (uuid_of c.args.uuid)) ∙ ap (λ o. finite.get (unwrap_or o finite.empty) (uuid_of c.args.uuid)) none
