use Rattle.std.proofs.Common.{rules, ◌≡◌, ap, ◌∙◌}
use Rattle.std.specs.Int.{w128, to_be_bytes}
use Rattle.std.proofs.Math.Facts.{ltb_yes}
use Rattle.uuid.proofs.OrderLemmas.{from_be_bytes-to_be_bytes_16}
use Rattle.odb_atoms.specs.Represented.Atom.{uuid_of}
use Rattle.odb_atoms.specs.Uuid.{uuid_from}
use Rattle.odb_tables.proofs.key.Key.uuid.Goals as goal

pub returns : goal.returns
returns c =
    let bytes : c.from_u128.result ≡ to_be_bytes w128 c.self.inside.number = search rules in
    ap uuid_of bytes ∙ ap uuid_from (from_be_bytes-to_be_bytes_16 c.self.inside.number (ltb_yes c.self.invariant)) ∙ c.self.view_is
