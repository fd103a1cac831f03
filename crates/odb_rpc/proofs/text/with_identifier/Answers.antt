use Rattle.std.proofs.Common.{◌≡◌, ◌∙◌, ◌++◌, IfOk, ap, subst}
use Rattle.std.specs.Int.{to_be_bytes, w128}
use Rattle.uuid.specs.Text.{hyphenated_text, lower}
use Rattle.serde_json.specs.Data.{string}
use Rattle.serde_json.specs.Written.{compact_text}
use Rattle.odb_atoms.specs.Uuid.{uuid_text}
use Rattle.odb_atoms.specs.Represented.Atom.{uuid_of}
use Rattle.odb_atoms.proofs.Represented.Atoms.{number-uuid_of}
use Rattle.odb_rpc.proofs.text.with_identifier.Goals as goal

pub returns : goal.returns
returns c =
    let is_number : to_be_bytes w128 c.as_u128.result ≡ to_be_bytes w128 (uuid_of c.args.identifier).number = ap (to_be_bytes w128) (number-uuid_of c.args.identifier c.as_u128.result c.as_u128.ensures c.as_u128.type_inv) in
    let is_text : c.encode_lower-content.result.now ≡ uuid_text (uuid_of c.args.identifier) = c.encode_lower-content.ensures.text ∙ ap (hyphenated_text lower) (c.hyphenated.ensures ∙ c.from_u128-by_number.ensures ∙ is_number) in
    subst (λ s. IfOk c.with_string.result (λ longer. longer.items ≡ c.args.text.items ++ compact_text (string s))) is_text c.with_string.ensures
