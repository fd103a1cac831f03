use Rattle.std.proofs.Common.{rules, ◌≡◌, sym, ap, ◌∙◌}
use Rattle.odb_atoms.specs.Represented.Atom.{uuid_of}
use Rattle.odb_tables.specs.Indexed.{cells_at}
use Rattle.odb_tables.specs.Represented.Digest.{digest}
use Rattle.odb_tables.proofs.Facets.{twin-cells, values-tag}
use Rattle.odb_tables.proofs.row_test.TwinsTest.tag.Goals as goal

pub returns-else-ne : goal.returns-else-ne
returns-else-ne c v s e =
    let keys = c.in-Values.hashing in
    let places = c.args.self.now.places.now in
    let same : c.in-Values.places.items ≡ places = search rules in
    values-tag c.args.facet.now keys c.in-Values.places s c.of_row.result c.in-Values.is
    (c.of_row.ensures ∙ ap (digest keys) (twin-cells places (uuid_of c.args.self.now.uuid) v c.args.self.now.row.now s e) ∙ ap (λ ps. digest keys (cells_at ps s)) (sym same))
