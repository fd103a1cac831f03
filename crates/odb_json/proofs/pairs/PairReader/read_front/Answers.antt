use Rattle.std.proofs.Common.{add-one, ap, map, option_map, sym}
use Rattle.odb_atoms.specs.Represented.Atom.{kind_in}
use Rattle.odb_atoms.specs.Represented.Error.{error_of}
use Rattle.odb_atoms.specs.Represented.Value.{pair_of}
use Rattle.odb_json.specs.Represented.Parts.{pair_front}
use Rattle.odb_json.proofs.Fronts.{front_end, front_fault, front_more, front_next}
use Rattle.odb_json.proofs.pairs.PairReader.read_front.Goals as goal

pub loop-item-preserved : goal.loop-item-preserved
loop-item-preserved c =
    let read = pair_front (option_map (λ n. n.now) c.args.self.names) (kind_in c.args.self.kinds.key) (kind_in c.args.self.kinds.value) in
    let done = map pair_of c.loop-item.pairs.items in
    let new = map pair_of c.append.new.pairs.items in
    let next = front_next read c.args.items.now c.loop-item.item-index c.item-item.result done new error_of c.in_ok-fault.fault c.loop-item.invariant c.loop-item-test.true c.item-item.is in
    rw add-one
    (front_more read c.args.items.now c.loop-item.item-index c.item-item.result done new error_of c.in_ok-fault.fault next c.in_ok-fault.ensures.pairs c.in_ok-fault.ensures.fault (sym c.if-is_some.ensures))

pub returns-then-is_some-clause-pairs : goal.returns-then-is_some-clause-pairs
returns-then-is_some-clause-pairs c =
    let read = pair_front (option_map (λ n. n.now) c.args.self.names) (kind_in c.args.self.kinds.key) (kind_in c.args.self.kinds.value) in
    let done = map pair_of c.loop-item.pairs.items in
    let new = map pair_of c.append.new.pairs.items in
    let next = front_next read c.args.items.now c.loop-item.item-index c.item-item.result done new error_of c.in_ok-fault.fault c.loop-item.invariant c.loop-item-test.true c.item-item.is in
    sym (ap (λ whole. whole.0) (front_fault read c.args.items.now c.loop-item.item-index c.item-item.result done new error_of c.in_ok-fault.fault next c.in_ok-fault.ensures.pairs c.in_ok-fault.ensures.fault (sym c.if-is_some.ensures)))

pub returns-then-is_some-clause-fault : goal.returns-then-is_some-clause-fault
returns-then-is_some-clause-fault c =
    let read = pair_front (option_map (λ n. n.now) c.args.self.names) (kind_in c.args.self.kinds.key) (kind_in c.args.self.kinds.value) in
    let done = map pair_of c.loop-item.pairs.items in
    let new = map pair_of c.append.new.pairs.items in
    let next = front_next read c.args.items.now c.loop-item.item-index c.item-item.result done new error_of c.in_ok-fault.fault c.loop-item.invariant c.loop-item-test.true c.item-item.is in
    sym (ap (λ whole. whole.1) (front_fault read c.args.items.now c.loop-item.item-index c.item-item.result done new error_of c.in_ok-fault.fault next c.in_ok-fault.ensures.pairs c.in_ok-fault.ensures.fault (sym c.if-is_some.ensures)))

pub returns-clause-pairs : goal.returns-clause-pairs
returns-clause-pairs c =
    let read = pair_front (option_map (λ n. n.now) c.args.self.names) (kind_in c.args.self.kinds.key) (kind_in c.args.self.kinds.value) in
    sym (ap (λ whole. whole.0) (front_end read c.args.items.now c.loop-item.item-index (map pair_of c.loop-item.pairs.items) c.loop-item.invariant c.loop-item-test.false))

pub returns-clause-fault : goal.returns-clause-fault
returns-clause-fault c =
    let read = pair_front (option_map (λ n. n.now) c.args.self.names) (kind_in c.args.self.kinds.key) (kind_in c.args.self.kinds.value) in
    sym (ap (λ whole. whole.1) (front_end read c.args.items.now c.loop-item.item-index (map pair_of c.loop-item.pairs.items) c.loop-item.invariant c.loop-item-test.false))
