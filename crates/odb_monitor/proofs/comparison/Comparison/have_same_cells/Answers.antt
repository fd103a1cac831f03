use Rattle.std.proofs.Common.{rules, ◌≡◌, ◌∙◌}
use Rattle.std.specs.List.{list_all}
use Rattle.odb_atoms.specs.Represented.Atom.{uuid_of}
use Rattle.odb_monitor.specs.Represented.Sides.{is_same_in}
use Rattle.odb_monitor.proofs.SameCells.{same_cut}
use Rattle.odb_monitor.proofs.comparison.Comparison.have_same_cells.Goals as goal

pub returns : goal.returns
returns c =
    let u = uuid_of c.args.uuid in
    let p = c.args.old.now in
    let q = c.args.new.now in
    let tested : c.are_same-same.result ≡ list_all (is_same_in (u, p) (u, q)) c.columns.result.now = search rules in
    tested ∙ same_cut c.columns.result.now c.args.self.now.request.now.shape.columns u p q c.columns.ensures
