use Rattle.std.proofs.Common.{rules, ◌≡◌, ◌+◌, ◌≤◌, arith, map}
use Rattle.std.proofs.lemmas.Result.{on_ok_weaker}
use Rattle.odb_service.specs.Session.{replies_in}
use Rattle.odb_sessions.specs.Carried.{all_begin}
use Rattle.odb_sessions.specs.Marked.{item_seen}
use Rattle.odb_sessions.proofs.Used.{few_begin}
use Rattle.odb_sessions.proofs.session.make_room.Goals as goal

pub returns-clause-room : goal.returns-clause-room
returns-clause-room c =
    let more : c.in-Some.more ≡ replies_in (map item_seen c.args.queue.now) + 1 = search rules in
    let few : all_begin c.args.queue.now ≤ replies_in (map item_seen c.args.queue.now) = few_begin c.args.queue.now in
    on_ok_weaker c.reserve.result (λ ok. omega (arith, ok, more, few)) c.reserve.ensures.ok
