use Rattle.std.proofs.Common.{rules, ◌≡◌, map, ap, ◌∙◌}
use Rattle.std.proofs.lemmas.Map.Iter.{iter_end}
use Rattle.std.specs.BTreeMap.{IsOrdered}
use Rattle.std.specs.List.{list_any}
use Rattle.std.specs.Map.Iter.{deref_pair}
use Rattle.std.specs.Ordering.{nat_cmp}
use Rattle.odb_atoms.specs.Row.{declared}
use Rattle.odb_interest.specs.Represented.Found.{names_some}
use Rattle.odb_interest.proofs.Growing.{entries-keys, same_test}
use Rattle.odb_interest.proofs.watched.find_declared.Goals as goal

pub returns : goal.returns
returns c =
    let all : map deref_pair c.loop-place.yielded ≡ c.args.columns.now.entries = search (rules, iter_end) in
    let ordered : IsOrdered nat_cmp c.args.columns.now = search rules in
    same_test _ _ _ _
    (λ s. ap (list_any (λ e. names_some e.1 (declared e.0) c.args.rows.now s)) all ∙ entries-keys c.args.columns.now (λ i x. names_some x (declared i) c.args.rows.now s) ordered)
    c.loop-place.invariant
