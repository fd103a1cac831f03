use Rattle.std.proofs.Common.{rules, ◌≡◌, slice_get, unwrap_or, Option, None, ap, sym, ◌∙◌}
use Rattle.odb_atoms.specs.FinSet as set
use Rattle.odb_atoms.specs.Represented.Atom.{uuid_of}
use Rattle.odb_atoms.specs.Row.{cell}
use Rattle.odb_atoms.specs.Value.{Value, set_of}
use Rattle.odb_cond.specs.Represented.Clause.{selector_of}
use Rattle.odb_cond.specs.Represented.Keyed.{asks_some}
use Rattle.odb_cond.proofs.Searches.{none_in_nothing}
use Rattle.odb_cond.proofs.keyed.Keyed.holds.Goals as goal

pub returns-in-None : goal.returns-in-None
returns-in-None c =
    let self = c.args.self.now in
    let u = uuid_of c.args.uuid in
    let gone : slice_get c.args.row.now.columns c.in-Declared.place ≡ None = search rules in
    sym ((λ i. asks_some self.is_equality self.atoms (cell u c.args.row.now (selector_of (c.in-Declared.is i))))
    ∙ ap (λ (o : Option Value). asks_some self.is_equality self.atoms (unwrap_or o (set_of set.empty))) gone
    ∙ none_in_nothing self.is_equality self.atoms)
