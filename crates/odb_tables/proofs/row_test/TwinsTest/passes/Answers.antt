use Rattle.std.proofs.Common.{rules, ◌≡◌, true, not, ◌&&◌, sym, ap, ◌∙◌}
use Rattle.odb_atoms.specs.Represented.Atom.{uuid_of}
use Rattle.odb_atoms.specs.Uuid.{same_uuid}
use Rattle.odb_atoms.specs.Value.{same_values}
use Rattle.odb_tables.specs.Indexed.{cells_at}
use Rattle.odb_tables.proofs.Twins.{same_cells}
use Rattle.odb_tables.proofs.row_test.TwinsTest.passes.Goals as goal

pub returns-then-ne : goal.returns-then-ne
returns-then-ne c =
    let places = c.args.self.now.places.now in
    let left = c.args.self.now.row.now in
    let right = c.args.row.now in
    let apart : not (same_uuid (uuid_of c.args.self.now.uuid) (uuid_of c.args.uuid)) ≡ true = search rules in
    c.have_same.ensures ∙ same_cells left right places ∙ ap (λ b. b && same_values (cells_at places left) (cells_at places right)) (sym apart)
