use Rattle.std.proofs.Common.{rules, ◌≡◌, false, unwrap_or, option_map, Some, sym, ap, ◌∙◌}
use Rattle.std.proofs.lemmas.Result.{IfOk-weaker}
use Rattle.std.specs.List.{list_any}
use Rattle.odb_atoms.specs.FinMap as finite
use Rattle.odb_atoms.specs.Represented.Atom.{uuid_of}
use Rattle.odb_tables.specs.Database.{table_at}
use Rattle.odb_tables.specs.Indexed.{is_twin}
use Rattle.odb_tables.proofs.draft.Draft.has_twin.Goals as goal

pub returns : goal.returns
returns c =
    let t = table_at c.args.self.now.now c.args.table in
    let places = c.args.places.now in
    let u = uuid_of c.args.uuid in
    let row = c.in-Some.row.now in
    let here : finite.get t u ≡ Some row = search rules in
    IfOk-weaker c.has_any.result _ _ (λ any is. is ∙ sym (ap (λ o. unwrap_or (option_map (λ r. list_any (is_twin places u r) (finite.entries_of t)) o) false) here)) c.has_any.ensures
