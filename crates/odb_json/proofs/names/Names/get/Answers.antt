use Rattle.std.proofs.Common.{sym, ap, ◌∙◌, option_map}
use Rattle.odb_atoms.specs.FinMap as finite
use Rattle.odb_atoms.specs.Represented.Atom.{uuid_of}
use Rattle.odb_atoms.proofs.TextMaps.{get-text_map}
use Rattle.odb_schema.specs.Notation.{Names}
use Rattle.odb_json.proofs.names.Names.get.Goals as goal

pub returns : goal.returns
returns c =
    ap (option_map uuid_of) (c.copied.ensures ∙ c.get.ensures.value)
    ∙ sym (get-text_map uuid_of c.self.inside.names c.args.name.now)
    ∙ ap (λ (names : Names). finite.get names c.args.name.now) c.self.view_is
