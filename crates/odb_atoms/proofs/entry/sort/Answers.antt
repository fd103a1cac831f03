use mathlib.Core.Path.{sym, subst, ◌∙◌}
use Rattle.std.proofs.Common.{rules, ◌≡◌, T, is_lt, map, true}
use Rattle.std.specs.FinMap.Entries.{is_sorted}
use Rattle.std.proofs.lemmas.Fn.{always_returns_same}
use Rattle.std.proofs.lemmas.List.Sorted.{ranks_by, sorted_far}
use Rattle.odb_atoms.specs.Atom.{atom_cmp}
use Rattle.odb_atoms.specs.Represented.AtomOrder.{atom_cmp_total}
use Rattle.odb_atoms.proofs.Sorts.{IsOrdered-sorted, distinct-rising, rising-sorted}
use Rattle.odb_atoms.proofs.entry.sort.Goals as goal

pub returns : goal.returns
returns g c =
    let entry = g.E.Entry.entry in
    let sorted = c.sort_unstable_by.new.self.items in
    let order = ranks_by atom_cmp_total (λ x. (entry x).0) in
    let up = c.sort_unstable_by.ensures.sorted (λ x y. is_lt (atom_cmp (entry x).0 (entry y).0)) order (always_returns_same _ _ _ (λ a r f' k. search rules)) in
    let ordered = IsOrdered-sorted entry sorted (sorted_far _ order sorted up) in
    let answer : c.is_rising-2.result ≡ is_sorted atom_cmp (map entry sorted) = search rules in
    record {
      permutation = c.sort_unstable_by.ensures.permutation;
      distinct = answer ∙ rising-sorted entry c.args.entries.now.items sorted c.sort_unstable_by.ensures.permutation ordered;
      rising = λ yes. subst T (sym (sym answer ∙ yes)) tt;
    }

pub returns-then-is_rising-clause-distinct : goal.returns-then-is_rising-clause-distinct
returns-then-is_rising-clause-distinct g c =
    let entry = g.E.Entry.entry in
    let up : true ≡ is_sorted atom_cmp (map entry c.args.entries.now.items) = search rules in
    distinct-rising (map entry c.args.entries.now.items) up
