use Rattle.std.proofs.Common.{rules, ◌≡◌, false}
use Rattle.serde_json.specs.View.{view}
use Rattle.serde_json.specs.Written.{has_float}
use Rattle.odb_wire.specs.Message.{has_left_out}
use Rattle.odb_rpc.proofs.LeftOut.{no_float}
use Rattle.odb_rpc.proofs.printable.Printable.to_vec.Goals as goal

-- src/printable.rt:58:5
pub returns-in-Some : goal.returns-in-Some
returns-in-Some c =
    let whole : has_left_out (view c.in-Some.value.now) ≡ false = search rules in
    let exact : has_float (view c.in-Some.value.now) ≡ false = no_float (view c.in-Some.value.now) whole in
    search rules
