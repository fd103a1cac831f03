use Rattle.std.proofs.Common.{rules, List, ℕ}
use Rattle.odb_sessions.specs.Represented.Out.{text_of_out}
use Rattle.odb_hub.specs.Rings.{IsPut}
use Rattle.odb_hub.proofs.HandingOver.{put_again}
use Rattle.odb_hub.proofs.ring.Ring.put.Goals as goal

pub returns-in-Err : goal.returns-in-Err
returns-in-Err c =
    let text : List ℕ = text_of_out c.args.out in
    let again : IsPut text c.send.new.self c.put_again.new.self = search rules in
    put_again text c.args.self.now c.send.new.self c.put_again.new.self (search rules) again
