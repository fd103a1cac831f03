use Rattle.std.proofs.Common.{◌≡◌, ◌∷◌, map, rules, Some}
use Rattle.odb_atoms.specs.Represented.Atom.{atom_of}
use Rattle.odb_integrity.specs.Represented.PairSide.{atom_at}
use Rattle.odb_integrity.proofs.Named.{named_more, nothing_added}
use Rattle.odb_integrity.proofs.references.append_side.Goals as goal

pub returns-in_default : goal.returns-in_default
returns-in_default c = nothing_added c.args.target c.args.rows.now.items (map (λ pair. atom_of (atom_at c.args.side pair)) c.args.pairs.now) c.in_default.is

pub loop-pair-preserved : goal.loop-pair-preserved
loop-pair-preserved c =
    let at = c.loop-pair in
    let x = c.in-Some-pair.pair.now in
    let step : at.pair-iterator ≡ x ∷ c.next.new.self = search rules in
    let side : c.atom_at.result.now ≡ atom_at c.args.side x = search rules in
    named_more (λ pair. atom_of (atom_at c.args.side pair)) (Some c.in-Some.table) at.rows.items _ _ at.pair-iterator _ x step at.invariant (search (rules, side))
