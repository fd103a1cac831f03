use Rattle.std.proofs.Common.{◌≡◌, ◌∷◌, map, rules, Some}
use Rattle.odb_atoms.specs.Represented.Atom.{atom_of}
use Rattle.odb_integrity.proofs.Named.{named_more, nothing_added}
use Rattle.odb_integrity.proofs.references.append_elements.Goals as goal

pub returns-in_default : goal.returns-in_default
returns-in_default c = nothing_added c.args.target c.args.rows.now.items (map atom_of c.args.elements.now) c.in_default.is

pub loop-atom-preserved : goal.loop-atom-preserved
loop-atom-preserved c =
    let at = c.loop-atom in
    let step : at.atom-iterator ≡ c.in-Some-atom.atom.now ∷ c.next.new.self = search rules in
    named_more atom_of (Some c.in-Some.table) at.rows.items _ _ at.atom-iterator _ c.in-Some-atom.atom.now step at.invariant (search rules)
