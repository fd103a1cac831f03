use Rattle.std.proofs.Common.{add-one, ap, map, option_map, sym}
use Rattle.odb_atoms.specs.Represented.Atom.{atom_of, kind_in}
use Rattle.odb_atoms.specs.Represented.Error.{error_of}
use Rattle.odb_json.specs.Represented.Parts.{atom_front}
use Rattle.odb_json.proofs.Fronts.{front_end, front_fault, front_more, front_next}
use Rattle.odb_json.proofs.elements.read_front.Goals as goal

pub loop-item-preserved : goal.loop-item-preserved
loop-item-preserved c =
    let read = atom_front (option_map (λ n. n.now) c.args.names) (kind_in c.args.kind) in
    let done = map atom_of c.loop-item.elements.items in
    let new = map atom_of c.append.new.elements.items in
    let next = front_next read c.args.items.now c.loop-item.item-index c.item-item.result done new error_of c.in_ok-fault.fault c.loop-item.invariant c.loop-item-test.true c.item-item.is in
    rw add-one
    (front_more read c.args.items.now c.loop-item.item-index c.item-item.result done new error_of c.in_ok-fault.fault next c.in_ok-fault.ensures.elements c.in_ok-fault.ensures.fault (sym c.if-is_some.ensures))

pub returns-then-is_some-clause-elements : goal.returns-then-is_some-clause-elements
returns-then-is_some-clause-elements c =
    let read = atom_front (option_map (λ n. n.now) c.args.names) (kind_in c.args.kind) in
    let done = map atom_of c.loop-item.elements.items in
    let new = map atom_of c.append.new.elements.items in
    let next = front_next read c.args.items.now c.loop-item.item-index c.item-item.result done new error_of c.in_ok-fault.fault c.loop-item.invariant c.loop-item-test.true c.item-item.is in
    sym (ap (λ whole. whole.0) (front_fault read c.args.items.now c.loop-item.item-index c.item-item.result done new error_of c.in_ok-fault.fault next c.in_ok-fault.ensures.elements c.in_ok-fault.ensures.fault (sym c.if-is_some.ensures)))

pub returns-then-is_some-clause-fault : goal.returns-then-is_some-clause-fault
returns-then-is_some-clause-fault c =
    let read = atom_front (option_map (λ n. n.now) c.args.names) (kind_in c.args.kind) in
    let done = map atom_of c.loop-item.elements.items in
    let new = map atom_of c.append.new.elements.items in
    let next = front_next read c.args.items.now c.loop-item.item-index c.item-item.result done new error_of c.in_ok-fault.fault c.loop-item.invariant c.loop-item-test.true c.item-item.is in
    sym (ap (λ whole. whole.1) (front_fault read c.args.items.now c.loop-item.item-index c.item-item.result done new error_of c.in_ok-fault.fault next c.in_ok-fault.ensures.elements c.in_ok-fault.ensures.fault (sym c.if-is_some.ensures)))

pub returns-clause-elements : goal.returns-clause-elements
returns-clause-elements c =
    let read = atom_front (option_map (λ n. n.now) c.args.names) (kind_in c.args.kind) in
    sym (ap (λ whole. whole.0) (front_end read c.args.items.now c.loop-item.item-index (map atom_of c.loop-item.elements.items) c.loop-item.invariant c.loop-item-test.false))

pub returns-clause-fault : goal.returns-clause-fault
returns-clause-fault c =
    let read = atom_front (option_map (λ n. n.now) c.args.names) (kind_in c.args.kind) in
    sym (ap (λ whole. whole.1) (front_end read c.args.items.now c.loop-item.item-index (map atom_of c.loop-item.elements.items) c.loop-item.invariant c.loop-item-test.false))
