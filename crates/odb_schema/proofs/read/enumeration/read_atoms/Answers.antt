use Rattle.std.proofs.Common.{add-one, map}
use Rattle.std.proofs.lemmas.List.{map-append}
use Rattle.std.proofs.lemmas.Result.{err_from_is_err_and}
use Rattle.serde_json.specs.View.{items_view, view}
use Rattle.odb_atoms.specs.Represented.Atom.{atom_of, kind_in}
use Rattle.odb_schema.specs.Represented.Parts.{atom_in, atoms_in}
use Rattle.odb_schema.proofs.Faults.{first_fault, one_more, passed_on}
use Rattle.odb_schema.proofs.read.enumeration.read_atoms.Goals as goal

pub loop-item-preserved : goal.loop-item-preserved
loop-item-preserved c =
    let more = one_more (kind_in c.args.kind) c.args.items.now c.loop-item.item-index c.item-item.result (map atom_of c.loop-item.atoms.items) (atom_of c.in_ok-read_atom.field-0) c.loop-item-test.true c.item-item.is c.loop-item.invariant c.in_ok-read_atom.ensures in
    rw (add-one, c.in_ok-push.ensures.items, map-append) more

pub returns-in_err-read_atom : goal.returns-in_err-read_atom
returns-in_err-read_atom c =
    let p = err_from_is_err_and c.from_residual-in_err-read_atom.result c.from_residual-in_err-read_atom.ensures.1 in
    let k = kind_in c.args.kind in
    rw (p.1, p.2)
    (passed_on c.in_err-read_atom.field-0.0 (atom_in k (view c.item-item.result)) (atoms_in k (items_view c.args.items.now)) (λ f is. first_fault k c.args.items.now c.loop-item.item-index c.item-item.result (map atom_of c.loop-item.atoms.items) f c.loop-item-test.true c.item-item.is c.loop-item.invariant is) c.in_err-read_atom.ensures)
