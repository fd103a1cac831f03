use Rattle.std.proofs.Common.{rules, ◌≡◌, ◌<◌, ◌^◌, ap, ◌∙◌}
use Rattle.std.specs.Int.{w128, to_be_bytes}
use Rattle.uuid.proofs.OrderLemmas.{from_be_bytes-to_be_bytes_16}
use Rattle.odb_atoms.specs.Represented.Atom.{uuid_of}
use Rattle.odb_atoms.specs.Uuid.{uuid_from}
use Rattle.odb_commit.proofs.transaction.version.Goals as goal

pub returns : goal.returns
returns c =
    let low : c.args.number < 2 ^ 128 = search rules in
    let bytes : c.from_u128.result ≡ to_be_bytes w128 c.args.number = search rules in
    ap uuid_of bytes ∙ ap uuid_from (from_be_bytes-to_be_bytes_16 c.args.number low)
