use Rattle.std.proofs.Common.{rules, ◌≡◌, ◌++◌, ◌∷◌, [], ap, ◌∙◌}
use Rattle.odb_atoms.specs.Row.{cell}
use Rattle.odb_cond.specs.Represented.Clause.{selector_of}
use Rattle.odb_cond.specs.Represented.Keyed.{asks_some}
use Rattle.odb_cond.proofs.Searches.{one_atom_more}
use Rattle.odb_cond.proofs.gathered.Listed.push.Goals as goal

pub returns : goal.returns
returns c =
    let self = c.args.self.now in
    let added : c.push.new.self.items ≡ self.atoms.items ++ c.args.atom ∷ [] = search rules in
    λ u r.
    ap (λ ks. asks_some self.is_equality ks (cell u r (selector_of self.column))) added
    ∙ one_atom_more self.is_equality (cell u r (selector_of self.column)) self.atoms.items c.args.atom
