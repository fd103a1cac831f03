use Rattle.std.proofs.Common.{rules, ◌≡◌, ◌<◌, length, refl, slice_index_or, slice_set, subst, sym, ap, ◌∙◌}
use Rattle.std.proofs.lemmas.List.{take_all}
use Rattle.odb_atoms.specs.FinMap as finite
use Rattle.odb_atoms.specs.Represented.Atom.{uuid_of}
use Rattle.odb_tables.specs.Database.{Db, table_at}
use Rattle.odb_tables.specs.Draft.{Draft, without_row}
use Rattle.odb_integrity.specs.Settlement.{RowId}
use Rattle.odb_integrity.specs.Steps.{without_rows}
use Rattle.odb_integrity.proofs.Databases.{without_more, without_none}
use Rattle.odb_integrity.proofs.rows.remove_all.Goals as goal

pub loop-row-init : goal.loop-row-init
loop-row-init c = record {
  removed = without_none c.args.draft.now.now;
  base = refl;
  sized = sym c.len-tables.ensures.old ∙ c.len-tables.ensures.now;
}

pub loop-row-preserved : goal.loop-row-preserved
loop-row-preserved c =
    let db = c.args.draft.now.now in
    let draft : Draft = c.loop-row.draft in
    let rows = c.args.rows.now in
    let i = c.loop-row.row-index in
    let y = c.row-item.result in
    let inside : i < length rows = search rules in
    let is : y ≡ slice_index_or rows i y = search rules in
    let table : c.table.result ≡ y.0 = search rules in
    let uuid : uuid_of c.uuid.result ≡ y.1 = search rules in
    let made : c.remove.new.self ≡ without_row c.table.result (uuid_of c.uuid.result) draft = search rules in
    let low : y.0 < length db = subst (λ (x : RowId). x.0 < length db) (sym is) (c.requires.in_tables i y inside) in
    record {
      removed =
          ap (λ (d : Draft). d.now) made
          ∙ (λ j. slice_set draft.now (table j) (finite.remove (table_at draft.now (table j)) (uuid j)))
          ∙ ap (λ (d : Db). slice_set d y.0 (finite.remove (table_at d y.0) y.1)) c.loop-row.invariant.removed
          ∙ without_more db rows i y inside is low;
      base = ap (λ (d : Draft). d.old) made ∙ c.loop-row.invariant.base;
      sized = ap (λ (d : Draft). length d.old) made ∙ c.loop-row.invariant.sized;
    }

pub returns-clause-removed : goal.returns-clause-removed
returns-clause-removed c = c.loop-row.invariant.removed ∙ ap (λ xs. without_rows xs c.args.draft.now.now) (take_all c.loop-row.row-index c.args.rows.now (search rules))
