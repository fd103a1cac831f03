use Rattle.std.proofs.Common.{sym, ap, ◌∙◌, string_bytes, option_map}
use Rattle.std.proofs.lemmas.Result.{IfOk-weaker}
use Rattle.odb_atoms.specs.FinMap as finite
use Rattle.odb_atoms.specs.Represented.Atom.{uuid_of}
use Rattle.odb_atoms.proofs.TextMaps.{get-text_map, inserted}
use Rattle.odb_schema.specs.Notation.{Names}
use Rattle.odb_json.proofs.names.Names.insert.Goals as goal

pub returns-clause-ok : goal.returns-clause-ok
returns-clause-ok c =
    IfOk-weaker c.insert.result _ _
    (λ before updates. inserted uuid_of (string_bytes c.args.name) c.self.inside.names c.insert.new.self c.args.uuid updates ∙ ap (λ (names : Names). finite.insert names (string_bytes c.args.name) (uuid_of c.args.uuid)) c.self.view_is)
    c.insert.ensures.updates

pub returns-clause-before : goal.returns-clause-before
returns-clause-before c =
    IfOk-weaker c.insert.result _ _
    (λ before is. ap (option_map uuid_of) is ∙ sym (get-text_map uuid_of c.self.inside.names (string_bytes c.args.name)) ∙ ap (λ (names : Names). finite.get names (string_bytes c.args.name)) c.self.view_is)
    c.insert.ensures.old
