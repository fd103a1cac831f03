use Rattle.std.proofs.Common.{rules, ◌≡◌, ℕ, ◌<◌, ◌^◌, Some, option_map, sym, ap, ◌∙◌}
use Rattle.std.specs.Int.{w128, to_be_bytes}
use Rattle.uuid.proofs.OrderLemmas.{from_be_bytes-to_be_bytes_16}
use Rattle.odb_atoms.specs.Represented.Atom.{uuid_of}
use Rattle.odb_atoms.specs.Uuid.{uuid_from}
use Rattle.odb_sessions.proofs.starting.identifier_of.Goals as goal

pub returns-in-Some : goal.returns-in-Some
returns-in-Some c =
    let n : ℕ = c.in-Some.number in
    let bytes : c.from_u128.result ≡ to_be_bytes w128 n = search rules in
    let small : n < 2 ^ 128 = search rules in
    let some : c.args.number ≡ Some n = search rules in
    ap Some (ap uuid_of bytes ∙ ap uuid_from (from_be_bytes-to_be_bytes_16 n small)) ∙ sym (ap (option_map uuid_from) some)
