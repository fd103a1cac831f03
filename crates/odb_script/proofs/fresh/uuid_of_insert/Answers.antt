use Rattle.std.proofs.Common.{rules, ◌≡◌, ℕ, ◌+◌, ◌<◌, ◌^◌, ap, ◌∙◌, arith}
use Rattle.std.specs.Int.{w128, to_be_bytes}
use Rattle.uuid.proofs.OrderLemmas.{from_be_bytes-to_be_bytes_16}
use Rattle.odb_atoms.specs.Represented.Atom.{uuid_of}
use Rattle.odb_atoms.specs.Uuid.{uuid_from}
use Rattle.odb_script.proofs.fresh.uuid_of_insert.Goals as goal

pub returns : goal.returns
returns c =
    let n : ℕ = 302240678275694148452352 + c.from.result in
    let low : c.from.result < 2 ^ 48 = search rules in
    let bytes : c.from_u128.result ≡ to_be_bytes w128 n = search rules in
    ap uuid_of bytes ∙ ap uuid_from (from_be_bytes-to_be_bytes_16 n (omega (arith, low))) ∙ ap (λ k. uuid_from (302240678275694148452352 + k)) c.from.ensures
