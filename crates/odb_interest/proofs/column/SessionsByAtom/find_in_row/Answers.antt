use Rattle.std.proofs.Common.{rules, ◌≡◌, slice_get, unwrap_or, Option, None, ap, ◌∙◌}
use Rattle.std.specs.List.{list_any}
use Rattle.std.specs.Option.{option_copied}
use Rattle.odb_atoms.specs.FinSet as set
use Rattle.odb_atoms.specs.Represented.Atom.{uuid_of}
use Rattle.odb_atoms.specs.Value.{Value, set_of}
use Rattle.odb_cond.specs.Represented.Clause.{selector_of}
use Rattle.odb_interest.specs.Keys.{atoms_in}
use Rattle.odb_interest.specs.Represented.SessionsByAtom.{names}
use Rattle.odb_interest.specs.Represented.Found.{names_in}
use Rattle.odb_interest.proofs.Growing.{nothing}
use Rattle.odb_interest.proofs.Listed.{none_there}
use Rattle.odb_interest.proofs.column.SessionsByAtom.find_in_row.Goals as goal

pub returns-in-None : goal.returns-in-None
returns-in-None c =
    let u = uuid_of c.args.uuid in
    let self = c.args.self.now in
    let gone : slice_get c.in-Some.row.now.columns c.in-Declared.place ≡ None = search rules in
    nothing c.args.found.now (names_in self (selector_of c.args.column) u (option_copied c.args.row))
    (λ s.
    (λ i. names_in self (selector_of (c.in-Declared.is i)) u (option_copied (c.in-Some.is i)) s)
    ∙ ap (λ (o : Option Value). list_any (λ a. names self a s) (atoms_in (unwrap_or o (set_of set.empty)))) gone
    ∙ ap (list_any (λ a. names self a s)) none_there)
