use mathlib.Core.Path.{sym, ap, ◌∙◌}
use Rattle.std.proofs.Common.{Some, not, map, true, false}
use Rattle.odb_atoms.specs.Members.{repeats}
use Rattle.odb_atoms.specs.Represented.Refused.{list_fault_of}
use Rattle.odb_atoms.specs.Represented.Value.{pair_of}
use Rattle.odb_atoms.proofs.Represented.Entries.{pairs_ascend, keys-pairs, map_fault-by, map_in-sorted}
use Rattle.odb_atoms.proofs.value.Value.map.Goals as goal

pub of_pairs-requires : goal.of_pairs-requires
of_pairs-requires c = pairs_ascend c.sort.new.entries.items (c.sort.ensures.rising c.if-not-sort.false)

pub returns-then-not-sort-clause-fault : goal.returns-then-not-sort-clause-fault
returns-then-not-sort-clause-fault c =
    let kinds = sym c.have_one_kind_each.ensures ∙ c.if-not-have_one_kind_each.false in
    let apart = sym c.if-not-sort.true ∙ c.sort.ensures.distinct ∙ ap (λ keys. not (repeats keys)) (keys-pairs c.args.pairs.items) in
    ap (λ f. Some (list_fault_of f)) c.new-then-not-sort.ensures.fault ∙ sym (map_fault-by (map pair_of c.args.pairs.items) true false (rw c.deref.ensures.value at kinds) apart)

pub returns : goal.returns
returns c =
    let kinds = sym c.have_one_kind_each.ensures ∙ c.if-not-have_one_kind_each.false in
    let apart = sym c.if-not-sort.false ∙ c.sort.ensures.distinct ∙ ap (λ keys. not (repeats keys)) (keys-pairs c.args.pairs.items) in
    record {
      value = c.of_pairs.ensures ∙ map_in-sorted c.args.pairs.items c.sort.new.entries.items c.sort.ensures.permutation (pairs_ascend c.sort.new.entries.items (c.sort.ensures.rising c.if-not-sort.false));
      fault = sym (map_fault-by (map pair_of c.args.pairs.items) true true (rw c.deref.ensures.value at kinds) apart);
      handed_back = tt;
    }
