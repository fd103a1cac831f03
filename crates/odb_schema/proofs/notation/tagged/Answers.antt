use Rattle.std.proofs.Common.{arith, ◌≡◌, length}
use Rattle.odb_schema.proofs.Uuids.{untagged}
use Rattle.odb_schema.proofs.notation.tagged.Goals as goal
use Rattle.odb_schema.proofs.notation.tagged.Goals.{in_default-via-then-as_slice-lt2, in_default-via-else-as_slice-lt2+else-this-lt3}

pub returns-in_default : goal.returns-in_default
returns-in_default c =
    untagged c.args.tag.now _ c.in_ok-as_array.field-0.now.items c.in_ok-as_array.ensures
    (λ two. let long : length c.as_slice.result.now ≡ 2 = rw c.as_slice.ensures.value two in
    elim c.in_default.branch [ in_default-via-then-as_slice-lt2 w ↦ absurd (grind arith) | in_default-via-else-as_slice-lt2+else-this-lt3 w ↦ absurd (grind arith) ])
