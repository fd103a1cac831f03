use Rattle.std.proofs.Common.{rules, ◌≡◌, slice_get, None, unwrap_or, sym, ap, ◌∙◌}
use Rattle.odb_atoms.specs.FinMap as finite
use Rattle.odb_atoms.specs.Represented.Atom.{uuid_of}
use Rattle.odb_atoms.specs.Uuid.{uuid_cmp}
use Rattle.odb_atoms.proofs.FinMaps.{get-empty}
use Rattle.odb_tables.proofs.database.Db.get.Goals as goal

pub returns-in-None : goal.returns-in-None
returns-in-None c =
    let none : slice_get c.args.self.now c.args.table ≡ None = search rules in
    sym (ap (λ o. finite.get (unwrap_or o finite.empty) (uuid_of c.args.uuid)) none ∙ get-empty uuid_cmp (uuid_of c.args.uuid))
