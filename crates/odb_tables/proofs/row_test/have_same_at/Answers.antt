use Rattle.std.proofs.Common.{rules, ◌≡◌, slice_get, unwrap_or, None, sym, ◌∙◌}
use Rattle.odb_atoms.specs.Value.{same_value}
use Rattle.odb_atoms.proofs.Equal.{same_value-itself}
use Rattle.odb_tables.proofs.Twins.{nothing_in}
use Rattle.odb_tables.proofs.row_test.have_same_at.Goals as goal

pub returns-in-None-None : goal.returns-in-None-None
returns-in-None-None c =
    let left : slice_get c.args.left.now.columns c.args.place ≡ None = search rules in
    let right : slice_get c.args.right.now.columns c.args.place ≡ None = search rules in
    sym ((λ i. same_value (unwrap_or (left i) nothing_in) (unwrap_or (right i) nothing_in)) ∙ same_value-itself nothing_in)
