use Rattle.std.proofs.Common.{◌≡◌, ◌∙◌, ◌∷◌, [], IfOk, ap, subst}
use Rattle.std.specs.Prelude.{codes}
use Rattle.std.specs.Int.{to_be_bytes, w128}
use Rattle.uuid.specs.Text.{hyphenated_text, lower}
use Rattle.serde_json.specs.View.{view}
use Rattle.odb_atoms.specs.Uuid.{uuid_text}
use Rattle.odb_atoms.specs.Represented.Atom.{uuid_of}
use Rattle.odb_atoms.proofs.Represented.Atoms.{number-uuid_of}
use Rattle.odb_schema.specs.Json.{array_of, string}
use Rattle.odb_schema.proofs.notation.write_uuid.Goals as goal

pub returns : goal.returns
returns c =
    let is_number : to_be_bytes w128 c.as_u128.result ≡ to_be_bytes w128 (uuid_of c.args.uuid).number = ap (to_be_bytes w128) (number-uuid_of c.args.uuid c.as_u128.result c.as_u128.ensures c.as_u128.type_inv) in
    let is_text : c.encode_lower-text.result.now ≡ uuid_text (uuid_of c.args.uuid) = c.encode_lower-text.ensures.text ∙ ap (hyphenated_text lower) (c.hyphenated.ensures ∙ c.from_u128-by_number.ensures ∙ is_number) in
    subst (λ d. IfOk c.write_tagged.result (λ v. view v ≡ array_of (string (codes "uuid") ∷ d ∷ []))) (c.in_ok-content.ensures ∙ ap string is_text) c.write_tagged.ensures
