use Rattle.std.proofs.Common.{arith, ◌≡◌, length}
use Rattle.serde_json.specs.View.{view}
use Rattle.odb_json.proofs.Triples.{no_triple}
use Rattle.odb_json.proofs.clause.triple.Goals as goal
use Rattle.odb_json.proofs.clause.triple.Goals.{in_default-via-then-as_slice-lt3, in_default-via-else-as_slice-lt3+else-this-lt4}

pub returns-in_default : goal.returns-in_default
returns-in_default c =
    no_triple (view c.args.value.now) c.in_ok-as_array.field-0.now.items c.in_ok-as_array.ensures
    (λ three. let long : length c.as_slice.result.now ≡ 3 = rw c.as_slice.ensures.value three in
    elim c.in_default.branch [ in_default-via-then-as_slice-lt3 w ↦ absurd (grind arith) | in_default-via-else-as_slice-lt3+else-this-lt4 w ↦ absurd (grind arith) ])
