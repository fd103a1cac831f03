use Rattle.std.proofs.Common.{rules, ◌≡◌, Some, None, sym, ◌∙◌}
use Rattle.odb_atoms.specs.FinMap as finite
use Rattle.odb_atoms.specs.Represented.Atom.{uuid_of}
use Rattle.odb_tables.specs.Database.{table_at}
use Rattle.odb_tables.specs.Indexed.{cells_at}
use Rattle.odb_tables.proofs.Touching.{alike_gone, alike_row}
use Rattle.odb_tables.proofs.draft.Draft.is_alike.Goals as goal

pub returns-in-Some-before : goal.returns-in-Some-before
returns-in-Some-before c passed =
    let was : finite.get (table_at c.args.self.now.old c.args.table) (uuid_of c.args.uuid) ≡ Some c.in-Some-before.old.now = search rules in
    let is : finite.get (table_at c.args.self.now.now c.args.table) (uuid_of c.args.uuid) ≡ Some c.in-Some.row.now = search rules in
    alike_row c.args.places.now _ _ (uuid_of c.args.uuid) c.in-Some-before.old.now c.in-Some.row.now was is (sym c.have_same.ensures ∙ passed)

pub returns-in-None : goal.returns-in-None
returns-in-None c passed =
    let gone : finite.get (table_at c.args.self.now.now c.args.table) (uuid_of c.args.uuid) ≡ None = search rules in
    alike_gone (cells_at c.args.places.now) _ _ (uuid_of c.args.uuid) gone
