use Rattle.std.proofs.Common.{rules, ◌≡◌, ◌++◌, List, [], ◌∷◌, Some, None, map, sym, ap, subst, ◌∙◌}
use Rattle.std.proofs.lemmas.List.{map-append}
use Rattle.std.proofs.lemmas.Map.Iter.{iter_end}
use Rattle.std.proofs.lemmas.Map.Keys.{IsDistinct-from_sorted}
use Rattle.std.specs.List.{IsDistinct}
use Rattle.std.specs.List.Sorted.{IsStrictlySortedBy}
use Rattle.std.specs.Map.{keys_of}
use Rattle.std.specs.Map.Iter.{deref}
use Rattle.std.specs.Ordering.{eq_by_cmp}
use Rattle.odb_atoms.specs.FinMap as finite
use Rattle.odb_atoms.specs.Represented.Atom.{uuid_of}
use Rattle.odb_atoms.specs.Row.{Row}
use Rattle.odb_atoms.specs.Uuid.{Uuid, uuid_cmp}
use Rattle.odb_cond.specs.Filter.{selects}
use Rattle.odb_tables.specs.Database.{Table}
use Rattle.odb_tables.specs.Matching.{selected}
use Rattle.odb_tables.specs.Represented.Table.{entries_at, listed}
use Rattle.odb_tables.proofs.Selected.{covered-found, distinct-entries_at, entries-none, entries-some}
use Rattle.odb_tables.proofs.table.Table.select_among.Goals as goal

pub loop-key-preserved-in_default : goal.loop-key-preserved-in_default
loop-key-preserved-in_default c =
    let t : Table = selected c.args.filter.now c.args.self.now in
    let us : List Uuid = map deref c.loop-key.yielded in
    let u : Uuid = c.in-Some.key.now in
    let none : finite.get t u ≡ None = search rules in
    c.loop-key.invariant ∙ entries-none t us u none ∙ ap (entries_at t) (sym (map-append deref c.loop-key.yielded (c.in-Some.key ∷ [])))

pub loop-key-preserved : goal.loop-key-preserved
loop-key-preserved c =
    let t : Table = selected c.args.filter.now c.args.self.now in
    let us : List Uuid = map deref c.loop-key.yielded in
    let u : Uuid = c.in-Some.key.now in
    let r : Row = c.in-Some-get_selected.row.now in
    let some : finite.get t u ≡ Some r = search rules in
    let e : Uuid × Row = (u, r) in
    let old = c.loop-key.rows.items in
    let pushed : c.push.new.self.items ≡ old ++ (c.uuid.result, c.in-Some-get_selected.row) ∷ [] = search rules in
    let named : uuid_of c.uuid.result ≡ u = search rules in
    ap (map listed) pushed ∙ map-append listed old ((c.uuid.result, c.in-Some-get_selected.row) ∷ [])
    ∙ (λ i. let d : Uuid × Row = (named i, r) in map listed old ++ d ∷ []) ∙ ap (λ es. es ++ e ∷ []) c.loop-key.invariant ∙ entries-some t us u r some ∙ ap (entries_at t) (sym (map-append deref c.loop-key.yielded (c.in-Some.key ∷ [])))

pub returns-clause-rows : goal.returns-clause-rows
returns-clause-rows c =
    let p = selects c.args.filter.now in
    let t : Table = selected c.args.filter.now c.args.self.now in
    let all : map deref c.loop-key.yielded ≡ c.args.keys.now.keys = search (rules, iter_end) in
    ap (finite.from_entries {R = uuid_cmp}) (c.loop-key.invariant ∙ ap (entries_at t) all) ∙ covered-found p c.args.self.now c.args.keys.now.keys c.requires

pub returns-clause-distinct : goal.returns-clause-distinct
returns-clause-distinct c =
    let t : Table = selected c.args.filter.now c.args.self.now in
    let all : map deref c.loop-key.yielded ≡ c.args.keys.now.keys = search (rules, iter_end) in
    let ordered : IsStrictlySortedBy uuid_cmp c.args.keys.now.keys = search rules in
    let distinct : IsDistinct (eq_by_cmp uuid_cmp) c.args.keys.now.keys = IsDistinct-from_sorted uuid_cmp c.args.keys.now.keys ordered in
    subst (λ es. IsDistinct (eq_by_cmp uuid_cmp) (keys_of es)) (sym (c.loop-key.invariant ∙ ap (entries_at t) all)) (distinct-entries_at t c.args.keys.now.keys distinct)
