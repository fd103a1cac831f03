use Rattle.std.proofs.Common.{rules, ◌≡◌, None, ap}
use Rattle.std.specs.Prelude.{option_map}
use Rattle.odb_wire.specs.Shown.{request_data}
use Rattle.odb_queue.specs.Represented.Answer.{said}
use Rattle.odb_core.proofs.ServerSteps.{placed}
use Rattle.odb_core.proofs.WorldPosts.{none_posted}
use Rattle.odb_core.proofs.server.Core.answer.Goals as goal

pub returns-in-None-clause-ok : goal.returns-in-None-clause-ok
returns-in-None-clause-ok c = λ found is.
    let none : None ≡ option_map (said (request_data c.args.request.now)) found = search rules in
    ap (placed c.args.self.now) (none_posted c.args.session _ c.args.self.now.world none)
