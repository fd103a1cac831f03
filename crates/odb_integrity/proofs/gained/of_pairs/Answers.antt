use Rattle.std.proofs.Common.{◌≡◌, ◌∷◌, rules}
use Rattle.odb_atoms.specs.Represented.Value.{pair_of}
use Rattle.odb_integrity.specs.Gained.{gained_of_pair}
use Rattle.odb_integrity.proofs.Named.{flat_next}
use Rattle.odb_integrity.proofs.gained.of_pairs.Goals as goal

pub loop-pair-preserved : goal.loop-pair-preserved
loop-pair-preserved c =
    let at = c.loop-pair in
    let step : at.pair-iterator ≡ c.in-Some.pair.now ∷ c.next.new.self = search rules in
    flat_next (λ p. gained_of_pair c.args.targets.now.keys c.args.targets.now.values c.args.now.now (pair_of p)) at.rows.items c.append_pair.new.rows.items _ at.pair-iterator _ c.in-Some.pair.now step at.invariant c.in_ok-append_pair.ensures
