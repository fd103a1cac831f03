use Rattle.std.proofs.Common.{rules, ◌≡◌, slice_get, unwrap_or, None, sym, ap, ◌∙◌}
use Rattle.odb_atoms.specs.Represented.Atom.{uuid_of}
use Rattle.odb_tables.specs.Indexed.{mentions}
use Rattle.odb_tables.proofs.Twins.{mentions-nothing, nothing_in}
use Rattle.odb_tables.proofs.row_test.refers.Goals as goal

pub returns-in-None : goal.returns-in-None
returns-in-None c =
    let none : slice_get c.args.row.now.columns c.args.place ≡ None = search rules in
    sym (ap (λ o. mentions (uuid_of c.args.uuid) (unwrap_or o nothing_in)) none ∙ mentions-nothing (uuid_of c.args.uuid))
