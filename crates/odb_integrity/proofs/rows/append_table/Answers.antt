use Rattle.std.proofs.Common.{rules, ◌≡◌, ◌++◌, map, sym, ap, ◌∙◌}
use Rattle.std.proofs.lemmas.List.{take_all}
use Rattle.odb_atoms.proofs.Represented.Values.{map-map}
use Rattle.odb_atoms.specs.FinMap as finite
use Rattle.odb_atoms.specs.Represented.Atom.{uuid_of}
use Rattle.odb_atoms.specs.Uuid.{Uuid}
use Rattle.odb_integrity.specs.Settlement.{RowId}
use Rattle.odb_tables.specs.Database.{table_at}
use Rattle.odb_integrity.proofs.rows.append_table.Goals as goal

pub returns : goal.returns
returns c =
    let t = c.args.table in
    let uuids = c.deref-uuid-items.result.now in
    let all : c.loop-uuid.rows.items ≡ c.args.rows.now.items ++ map (λ uuid. let x : RowId = (t, uuid_of uuid) in x) uuids = c.loop-uuid.invariant ∙ ap (λ us. c.args.rows.now.items ++ map (λ uuid. let x : RowId = (t, uuid_of uuid) in x) us) (take_all c.loop-uuid.uuid-index uuids (search rules)) in
    let keys : map uuid_of uuids ≡ finite.keys (table_at c.args.draft.now.now t) = ap (map uuid_of) c.deref-uuid-items.ensures.value ∙ c.in_ok-uuids.ensures in
    all ∙ ap (λ ys. c.args.rows.now.items ++ ys) (sym (map-map (λ (u : Uuid). let x : RowId = (t, u) in x) uuid_of uuids) ∙ ap (map (λ u. let x : RowId = (t, u) in x)) keys)
