use Rattle.std.proofs.Common.{rules, ◌≡◌, ◌∙◌}
use Rattle.odb_atoms.specs.ColType.{has_kind}
use Rattle.odb_atoms.specs.Represented.ColType.{type_of}
use Rattle.odb_atoms.specs.Row.{cell, declared}
use Rattle.odb_atoms.specs.Uuid.{zero_uuid}
use Rattle.odb_ops.proofs.Fits.{cell_has_kind}
use Rattle.odb_schema.specs.Schema.{column_type}
use Rattle.odb_ops.proofs.mutate.new_value.Goals as goal

pub on-made-requires-clause-kind : goal.on-made-requires-clause-kind
on-made-requires-clause-kind c =
    let cs = c.args.columns.now in
    let r = c.args.row.now in
    let i = c.args.mutation.now.column in
    let type : type_of c.type_at-column_type.result.now ≡ column_type cs i = search rules in
    let value : c.value_at-value.result.now ≡ cell zero_uuid r (declared i) = search rules in
    (λ j. has_kind (type j) (value j)) ∙ cell_has_kind cs r i c.requires.fits
