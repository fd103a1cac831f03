use Rattle.std.proofs.Common.{rules, ◌≡◌, map, sym, ap, subst, ◌∙◌}
use Rattle.std.proofs.lemmas.Map.Iter.{iter_end}
use Rattle.std.specs.Arc.{arc_value}
use Rattle.std.specs.List.{IsDistinct}
use Rattle.std.specs.Map.{keys_of}
use Rattle.std.specs.Map.Iter.{deref_pair}
use Rattle.std.specs.Ordering.{eq_by_cmp}
use Rattle.odb_atoms.specs.Uuid.{uuid_cmp}
use Rattle.odb_tables.specs.Represented.Keyed.{shown}
use Rattle.odb_tables.specs.Represented.Table.{listed}
use Rattle.odb_tables.proofs.KeyedMaps.{keys-shown}
use Rattle.odb_tables.proofs.table.Table.list.Goals as goal

pub returns-clause-distinct : goal.returns-clause-distinct
returns-clause-distinct c =
    let es = c.self.inside.rows.entries in
    let all : map deref_pair c.loop-key.yielded ≡ es = search (rules, iter_end) in
    let items : map listed c.loop-key.rows.items ≡ map (shown arc_value) (map deref_pair c.loop-key.yielded) = c.loop-key.invariant in
    subst (IsDistinct (eq_by_cmp uuid_cmp)) (keys-shown arc_value es ∙ sym (ap keys_of (items ∙ ap (map (shown arc_value)) all))) c.iter-key-items.ensures.unique
