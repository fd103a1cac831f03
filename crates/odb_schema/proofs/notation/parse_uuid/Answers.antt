use Rattle.std.proofs.Common.{ap, ◌∙◌}
use Rattle.odb_atoms.specs.Represented.Atom.{uuid_of}
use Rattle.std.specs.Prelude.{option_map}
use Rattle.odb_schema.proofs.Uuids.{parsed_is}
use Rattle.odb_schema.proofs.notation.parse_uuid.Goals as goal

pub returns : goal.returns
returns c =
    ap (option_map uuid_of) c.ok.ensures.value
    ∙ parsed_is c.args.text.now c.parse_str.result c.if-text-ne36.false c.parse_str.ensures.bytes (λ u found. c.parse_str.ensures.ok.1 (u, found))
