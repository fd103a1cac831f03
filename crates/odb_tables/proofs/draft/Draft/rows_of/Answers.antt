use Rattle.std.proofs.Common.{rules, ◌≡◌, ◌++◌, ◌+◌, List, ℕ, [], ◌∷◌, Some, None, map, take, sym, ap, ◌∙◌}
use Rattle.std.proofs.lemmas.List.{map-append}
use Rattle.odb_atoms.specs.FinMap as finite
use Rattle.odb_atoms.specs.Represented.Atom.{uuid_of}
use Rattle.odb_atoms.specs.Row.{Row}
use Rattle.odb_atoms.specs.Uuid.{Uuid}
use Rattle.odb_tables.specs.Database.{Table, table_at}
use Rattle.odb_tables.specs.Represented.Table.{entries_at, listed}
use Rattle.odb_tables.proofs.Selected.{entries-none, entries-some}
use Rattle.odb_tables.proofs.Steps.{mapped_more}
use Rattle.odb_tables.proofs.draft.Draft.rows_of.Goals as goal

pub loop-uuid-preserved-in_default : goal.loop-uuid-preserved-in_default
loop-uuid-preserved-in_default c =
    let t : Table = table_at c.args.self.now.now c.args.table in
    let xs : List (List ℕ) = c.args.uuids.now in
    let i = c.loop-uuid.uuid-index in
    let u : Uuid = uuid_of c.uuid-item.result in
    let none : finite.get t u ≡ None = search rules in
    c.loop-uuid.invariant ∙ entries-none t (map uuid_of (take i xs)) u none ∙ ap (entries_at t) (sym (mapped_more uuid_of xs i c.uuid-item.result c.loop-uuid-test.true c.uuid-item.is))

pub loop-uuid-preserved : goal.loop-uuid-preserved
loop-uuid-preserved c =
    let t : Table = table_at c.args.self.now.now c.args.table in
    let xs : List (List ℕ) = c.args.uuids.now in
    let i = c.loop-uuid.uuid-index in
    let u : Uuid = uuid_of c.uuid-item.result in
    let r : Row = c.in-Some.row.now in
    let some : finite.get t u ≡ Some r = search rules in
    let e : Uuid × Row = (u, r) in
    let old = c.loop-uuid.rows.items in
    let pushed : c.push.new.self.items ≡ old ++ (c.uuid-item.result, c.in-Some.row) ∷ [] = search rules in
    ap (map listed) pushed ∙ map-append listed old ((c.uuid-item.result, c.in-Some.row) ∷ [])
    ∙ ap (λ es. es ++ e ∷ []) c.loop-uuid.invariant ∙ entries-some t (map uuid_of (take i xs)) u r some
    ∙ ap (entries_at t) (sym (mapped_more uuid_of xs i c.uuid-item.result c.loop-uuid-test.true c.uuid-item.is))
