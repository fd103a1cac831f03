use Rattle.std.proofs.Common.{rules, ◌≡◌, ℕ, ◌+◌, ◌*◌, ◌<◌, ◌^◌, arith, ap, ◌∙◌}
use Rattle.std.specs.Int.{w128, to_be_bytes}
use Rattle.uuid.proofs.OrderLemmas.{from_be_bytes-to_be_bytes_16}
use Rattle.odb_atoms.specs.Represented.Atom.{uuid_of}
use Rattle.odb_atoms.specs.Uuid.{uuid_from}
use Rattle.odb_recent.specs.Recent.{Recent, number_of}
use Rattle.odb_recent.proofs.recent.Recent.number.Goals as goal

pub returns : goal.returns
returns c =
    let run : ℕ = c.self.inside.run in
    let commits : ℕ = c.self.inside.commits in
    let bytes : c.from_u64_pair.result ≡ to_be_bytes w128 (run * 2 ^ 64 + commits) = search rules in
    let above : run < 2 ^ 64 = search rules in
    let below : commits < 2 ^ 64 = search rules in
    ap uuid_of bytes ∙ ap uuid_from (from_be_bytes-to_be_bytes_16 (run * 2 ^ 64 + commits) (omega (arith, above, below)))
    ∙ ap (λ (r : Recent). number_of r.run r.commits) c.self.view_is
