use Rattle.std.proofs.Common.{◌≡◌, ◌∙◌, ◌++◌, ◌∷◌, [], OnOk, ap, subst}
use Rattle.std.specs.Int.{to_be_bytes, w128}
use Rattle.uuid.specs.Text.{hyphenated_text, lower}
use Rattle.json.specs.Token as token
use Rattle.odb_atoms.specs.Uuid.{uuid_text}
use Rattle.odb_atoms.specs.Represented.Atom.{uuid_of}
use Rattle.odb_atoms.proofs.Represented.Atoms.{number-uuid_of}
use Rattle.odb_print.proofs.value.put_key.Goals as goal

pub returns : goal.returns
returns c =
    let is_number : to_be_bytes w128 c.as_u128.result ≡ to_be_bytes w128 (uuid_of c.args.uuid).number = ap (to_be_bytes w128) (number-uuid_of c.args.uuid c.as_u128.result c.as_u128.ensures c.as_u128.type_inv) in
    let is_text : c.encode_lower-text.result.now ≡ uuid_text (uuid_of c.args.uuid) = c.encode_lower-text.ensures.text ∙ ap (hyphenated_text lower) (c.hyphenated.ensures ∙ c.from_u128-by_number.ensures ∙ is_number) in
    subst (λ s. OnOk c.put.result (c.put.new.self ≡ c.args.out.now ++ token.key s ∷ [])) is_text c.put.ensures
