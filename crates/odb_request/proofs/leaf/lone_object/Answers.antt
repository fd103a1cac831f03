use Rattle.std.proofs.Common.{arith}
use Rattle.odb_request.proofs.Objects.{not_one}
use Rattle.odb_request.proofs.leaf.lone_object.Goals as goal
use Rattle.odb_request.proofs.leaf.lone_object.Goals.{in_default-via-then-items-lt1, in_default-via-else-items-lt1+else-items-lt2}

pub returns-in_default : goal.returns-in_default
returns-in_default c =
    not_one c.args.items.now (λ long. elim c.in_default.branch [ in_default-via-then-items-lt1 w ↦ absurd (grind arith) | in_default-via-else-items-lt1+else-items-lt2 w ↦ absurd (grind arith) ])
