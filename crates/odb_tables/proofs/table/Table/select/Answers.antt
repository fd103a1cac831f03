use Rattle.std.proofs.Common.{rules, ◌≡◌, filter, map, sym, ap, subst, ◌∙◌}
use Rattle.std.proofs.lemmas.Map.Iter.{iter_end}
use Rattle.std.specs.Arc.{arc_value}
use Rattle.std.specs.List.{IsDistinct}
use Rattle.std.specs.Map.{keys_of}
use Rattle.std.specs.Map.Iter.{deref_pair}
use Rattle.std.specs.Ordering.{eq_by_cmp}
use Rattle.odb_atoms.specs.FinMap as finite
use Rattle.odb_atoms.specs.Uuid.{uuid_cmp}
use Rattle.odb_tables.specs.Represented.Found.{passing}
use Rattle.odb_tables.specs.Represented.Keyed.{shown}
use Rattle.odb_tables.specs.Represented.Table.{listed}
use Rattle.odb_tables.proofs.KeyedMaps.{keys-shown}
use Rattle.odb_tables.proofs.Selected.{distinct-filter, passes, passing-filter}
use Rattle.odb_tables.proofs.table.Table.select.Goals as goal

pub returns-clause-rows : goal.returns-clause-rows
returns-clause-rows g c =
    let p = g.T.Test.passes c.args.test.now in
    let es = map (shown arc_value) c.self.inside.rows.entries in
    let all : map deref_pair c.loop-key.yielded ≡ c.self.inside.rows.entries = search (rules, iter_end) in
    let found : map listed c.loop-key.rows.items ≡ filter (passes p) es = c.loop-key.invariant ∙ ap (λ xs. filter (passes p) (map (shown arc_value) xs)) all in
    let distinct : IsDistinct (eq_by_cmp uuid_cmp) (keys_of es) = subst (IsDistinct (eq_by_cmp uuid_cmp)) (keys-shown arc_value c.self.inside.rows.entries) c.iter-key-items.ensures.unique in
    ap (finite.from_entries {R = uuid_cmp}) found ∙ passing-filter p es distinct ∙ ap (passing p) c.self.view_is

pub returns-clause-distinct : goal.returns-clause-distinct
returns-clause-distinct g c =
    let p = g.T.Test.passes c.args.test.now in
    let es = map (shown arc_value) c.self.inside.rows.entries in
    let all : map deref_pair c.loop-key.yielded ≡ c.self.inside.rows.entries = search (rules, iter_end) in
    let found : map listed c.loop-key.rows.items ≡ filter (passes p) es = c.loop-key.invariant ∙ ap (λ xs. filter (passes p) (map (shown arc_value) xs)) all in
    let distinct : IsDistinct (eq_by_cmp uuid_cmp) (keys_of es) = subst (IsDistinct (eq_by_cmp uuid_cmp)) (keys-shown arc_value c.self.inside.rows.entries) c.iter-key-items.ensures.unique in
    subst (λ xs. IsDistinct (eq_by_cmp uuid_cmp) (keys_of xs)) (sym found) (distinct-filter p es distinct)
