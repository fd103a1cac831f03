use Rattle.std.proofs.Common.{rules, ◌≡◌, ◌<◌, ◌∷◌, List, length, slice_set, sym, ap, ◌∙◌}
use Rattle.std.proofs.lemmas.List.Elements.{All-rest}
use Rattle.odb_atoms.specs.FinMap as finite
use Rattle.odb_atoms.specs.Represented.Atom.{uuid_of}
use Rattle.odb_atoms.specs.Row.{Row}
use Rattle.odb_tables.specs.Database.{table_at}
use Rattle.odb_tables.specs.Draft as model
use Rattle.odb_integrity.specs.Settlement.{RowId}
use Rattle.odb_integrity.specs.Steps.{with_rows}
use Rattle.odb_integrity.proofs.pruning.put_all.Goals as goal

pub loop-id-preserved : goal.loop-id-preserved
loop-id-preserved c =
    let draft : model.Draft = c.loop-id.draft in
    let e : RowId × Row = (c.in-Some.id, c.in-Some.row) in
    let rest : List (RowId × Row) = c.next.new.self.rest.items in
    let step : c.loop-id.id-iterator.rest.items ≡ e ∷ rest = search rules in
    let table : c.table.result ≡ c.in-Some.id.0 = search rules in
    let uuid : uuid_of c.uuid.result ≡ c.in-Some.id.1 = search rules in
    let made : c.put.new.self ≡ model.with_row c.table.result (uuid_of c.uuid.result) c.in-Some.row draft = search rules in
    record {
      put =
          ap (with_rows rest) (ap (λ (d : model.Draft). d.now) made ∙ (λ j. slice_set draft.now (table j) (finite.insert (table_at draft.now (table j)) (uuid j) c.in-Some.row)))
          ∙ ap (λ es. with_rows es draft.now) (sym step) ∙ c.loop-id.invariant.put;
      base = ap (λ (d : model.Draft). d.old) made ∙ c.loop-id.invariant.base;
      sized = ap (λ (d : model.Draft). length d.old) made ∙ c.loop-id.invariant.sized;
      in_tables = All-rest (λ c'. c'.0.0 < length c.args.draft.now.now) e rest c.loop-id.id-iterator.rest.items step c.loop-id.invariant.in_tables;
    }
