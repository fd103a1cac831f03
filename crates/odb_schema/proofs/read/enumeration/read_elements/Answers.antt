use Rattle.std.proofs.Common.{sym, ap, ◌∙◌, map, Ok}
use Rattle.std.proofs.lemmas.Result.{err_from_is_err_and}
use Rattle.serde_json.specs.View.{items_view}
use Rattle.odb_atoms.specs.Represented.Atom.{atom_of, kind_in}
use Rattle.odb_atoms.specs.Represented.Refused.{list_fault_of}
use Rattle.odb_schema.specs.Represented.Parts.{as_value, atoms_in, elements_in}
use Rattle.odb_schema.proofs.Elements.{elements_fault, elements_made, elements_refused}
use Rattle.odb_schema.proofs.Faults.{passed_on}
use Rattle.odb_schema.proofs.read.enumeration.read_elements.Goals as goal

pub returns-in_err-atoms : goal.returns-in_err-atoms
returns-in_err-atoms c =
    let p = err_from_is_err_and c.from_residual.result c.from_residual.ensures.1 in
    let k = kind_in c.args.kind in
    rw (p.1, p.2)
    (passed_on c.in_err-atoms.field-0.0 (atoms_in k (items_view c.args.items.now)) (as_value (elements_in k (items_view c.args.items.now))) (λ f is. ap as_value (elements_fault k (items_view c.args.items.now) f is)) c.in_err-atoms.ensures)

pub returns-in-Ok : goal.returns-in-Ok
returns-in-Ok c =
    let k = kind_in c.args.kind in
    ap as_value (elements_made k (items_view c.args.items.now) (map atom_of c.in_ok-atoms.atoms.items) c.in_ok-atoms.ensures c.in-Ok.ensures.fault) ∙ ap Ok (sym c.in-Ok.ensures.value)

pub returns : goal.returns
returns c = ap as_value (elements_refused (kind_in c.args.kind) (items_view c.args.items.now) (map atom_of c.in_ok-atoms.atoms.items) (list_fault_of c.in-Err.field-0.fault) c.in_ok-atoms.ensures c.in-Err.ensures.fault)
