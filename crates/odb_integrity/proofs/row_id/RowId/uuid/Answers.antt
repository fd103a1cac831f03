use Rattle.std.proofs.Common.{rules, ◌≡◌, ap, ◌∙◌}
use Rattle.std.specs.Int.{w128, to_be_bytes}
use Rattle.std.proofs.Math.Facts.{ltb_yes}
use Rattle.uuid.proofs.OrderLemmas.{from_be_bytes-to_be_bytes_16}
use Rattle.odb_atoms.specs.Represented.Atom.{uuid_of}
use Rattle.odb_atoms.specs.Uuid.{uuid_from}
use Rattle.odb_integrity.specs.Settlement.{RowId}
use Rattle.odb_integrity.proofs.row_id.RowId.uuid.Goals as goal

pub returns : goal.returns
returns c =
    let n = c.self.inside.number in
    let bytes : c.from_u128.result ≡ to_be_bytes w128 n = search rules in
    ap uuid_of bytes ∙ ap uuid_from (from_be_bytes-to_be_bytes_16 n (ltb_yes c.self.invariant)) ∙ ap (λ (x : RowId). x.1) c.self.view_is
