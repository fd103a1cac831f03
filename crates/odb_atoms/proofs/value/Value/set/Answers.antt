use mathlib.Core.Path.{sym, ap, ◌∙◌}
use Rattle.std.proofs.Common.{Some, not, map, true, false}
use Rattle.odb_atoms.specs.Members.{repeats}
use Rattle.odb_atoms.specs.Represented.Atom.{atom_of}
use Rattle.odb_atoms.specs.Represented.Refused.{list_fault_of}
use Rattle.odb_atoms.proofs.Represented.Entries.{elements_ascend, keys-elements, set_fault-by, set_in-sorted}
use Rattle.odb_atoms.proofs.value.Value.set.Goals as goal

pub of_elements-requires : goal.of_elements-requires
of_elements-requires c = elements_ascend c.sort.new.entries.items (c.sort.ensures.rising c.if-not-sort.false)

pub returns-then-not-sort-clause-fault : goal.returns-then-not-sort-clause-fault
returns-then-not-sort-clause-fault c =
    let kinds = sym c.are_of_one_kind.ensures ∙ c.if-not-are_of_one_kind.false in
    let apart = sym c.if-not-sort.true ∙ c.sort.ensures.distinct ∙ ap (λ keys. not (repeats keys)) (keys-elements c.args.elements.items) in
    ap (λ f. Some (list_fault_of f)) c.new-then-not-sort.ensures.fault ∙ sym (set_fault-by (map atom_of c.args.elements.items) true false (rw c.deref.ensures.value at kinds) apart)

pub returns : goal.returns
returns c =
    let kinds = sym c.are_of_one_kind.ensures ∙ c.if-not-are_of_one_kind.false in
    let apart = sym c.if-not-sort.false ∙ c.sort.ensures.distinct ∙ ap (λ keys. not (repeats keys)) (keys-elements c.args.elements.items) in
    record {
      value = c.of_elements.ensures ∙ set_in-sorted c.args.elements.items c.sort.new.entries.items c.sort.ensures.permutation (elements_ascend c.sort.new.entries.items (c.sort.ensures.rising c.if-not-sort.false));
      fault = sym (set_fault-by (map atom_of c.args.elements.items) true true (rw c.deref.ensures.value at kinds) apart);
      handed_back = tt;
    }
