use Rattle.std.proofs.Common.{sym, ap, ◌∙◌, map, option_map, Ok}
use Rattle.serde_json.specs.View.{items_view}
use Rattle.odb_atoms.specs.Value.{atoms}
use Rattle.odb_atoms.specs.Represented.Atom.{atom_of, kind_in}
use Rattle.odb_atoms.specs.Represented.Error.{error_of}
use Rattle.odb_atoms.specs.Represented.Refused.{list_fault_of}
use Rattle.odb_json.specs.Represented.Parts.{set_value}
use Rattle.odb_json.proofs.Fronts.{answer}
use Rattle.odb_json.proofs.Sets.{elements_made, elements_twice}
use Rattle.odb_json.proofs.elements.read_elements.Goals as goal

pub returns-in_default : goal.returns-in_default
returns-in_default c =
    elements_twice (option_map (λ n. n.now) c.args.names) (kind_in c.args.kind) (items_view c.args.items.now) (map atom_of c.in_ok-front.front.elements.items) (option_map error_of c.in_ok-front.front.fault) c.in_ok-front.ensures.elements c.in_ok-front.ensures.fault (list_fault_of c.in_default.field-0.fault) c.in_default.ensures.fault

pub returns-in-None : goal.returns-in-None
returns-in-None c =
    elements_made (option_map (λ n. n.now) c.args.names) (kind_in c.args.kind) (items_view c.args.items.now) (map atom_of c.in_ok-front.front.elements.items) (option_map error_of c.in_ok-front.front.fault) c.in_ok-front.ensures.elements c.in_ok-front.ensures.fault c.in-Ok.ensures.fault
    ∙ ap (λ o. set_value (answer (option_map error_of o) (atoms (map atom_of c.in_ok-front.front.elements.items)))) c.in-None.is
    ∙ ap Ok (sym c.in-Ok.ensures.value)

pub returns-in-Some : goal.returns-in-Some
returns-in-Some c =
    elements_made (option_map (λ n. n.now) c.args.names) (kind_in c.args.kind) (items_view c.args.items.now) (map atom_of c.in_ok-front.front.elements.items) (option_map error_of c.in_ok-front.front.fault) c.in_ok-front.ensures.elements c.in_ok-front.ensures.fault c.in-Ok.ensures.fault
    ∙ ap (λ o. set_value (answer (option_map error_of o) (atoms (map atom_of c.in_ok-front.front.elements.items)))) c.in-Some.is
