use Rattle.std.proofs.Common.{rules, ◌≤◌, length, sym, ap, ◌∙◌}
use Rattle.odb_atoms.specs.FinMap as finite
use Rattle.odb_atoms.specs.Represented.Atom.{uuid_of}
use Rattle.odb_tables.proofs.Overlays.{untouched-past}
use Rattle.odb_atoms.specs.Uuid.{uuid_cmp}
use Rattle.odb_atoms.proofs.FinMaps.{get-empty}
use Rattle.odb_tables.proofs.draft.touched.Goals as goal

pub returns-in-None : goal.returns-in-None
returns-in-None c =
    let past : length c.args.overlays.now ≤ c.args.table = search rules in
    sym (ap (λ t. finite.get t (uuid_of c.args.uuid)) (untouched-past c.args.overlays.now c.args.table past) ∙ get-empty uuid_cmp (uuid_of c.args.uuid))
