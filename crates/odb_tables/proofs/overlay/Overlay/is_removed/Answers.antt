use Rattle.std.proofs.Common.{rules, ◌≡◌, Some, None, is_some, option_and_then, sym, ap, ◌∙◌}
use Rattle.odb_atoms.specs.FinMap as finite
use Rattle.odb_atoms.specs.Represented.Atom.{uuid_of}
use Rattle.odb_tables.specs.Represented.Draft.{if_none}
use Rattle.odb_tables.proofs.Overlays.{get-taken_out}
use Rattle.odb_tables.proofs.overlay.Overlay.is_removed.Goals as goal

pub returns-in-None : goal.returns-in-None
returns-in-None c =
    let got : None ≡ finite.get c.args.self.now (uuid_of c.args.uuid) = search rules in
    sym (ap is_some (get-taken_out c.args.self.now (uuid_of c.args.uuid) ∙ ap (option_and_then if_none) (sym got)))

pub returns-in-Some-None : goal.returns-in-Some-None
returns-in-Some-None c =
    let got : Some None ≡ finite.get c.args.self.now (uuid_of c.args.uuid) = search rules in
    sym (ap is_some (get-taken_out c.args.self.now (uuid_of c.args.uuid) ∙ ap (option_and_then if_none) (sym got)))

pub returns-in-Some-Some : goal.returns-in-Some-Some
returns-in-Some-Some c =
    let got : Some (Some c.in-Some-Some.field-0-0.now) ≡ finite.get c.args.self.now (uuid_of c.args.uuid) = search rules in
    sym (ap is_some (get-taken_out c.args.self.now (uuid_of c.args.uuid) ∙ ap (option_and_then if_none) (sym got)))
