use Rattle.std.proofs.Common.{rules, ◌≡◌, Some, None, position, sym}
use Rattle.std.specs.Arc.{arc_value}
use Rattle.odb_sessions.specs.Asked.{is_same}
use Rattle.odb_sessions.proofs.Replays.{put_found, put_nowhere}
use Rattle.odb_sessions.proofs.asked.rename.Goals as goal

pub returns-in_default : goal.returns-in_default
returns-in_default c =
    let none : position (λ x. is_same c.args.old.now (arc_value x)) c.args.ids.now.items ≡ None = search rules in
    sym (put_nowhere arc_value (is_same c.args.old.now) c.args.new c.args.ids.now.items none)

pub returns : goal.returns
returns c =
    let some : position (λ x. is_same c.args.old.now (arc_value x)) c.args.ids.now.items ≡ Some c.in-Some.place = search rules in
    sym (put_found arc_value (is_same c.args.old.now) c.args.new c.args.ids.now.items c.in-Some.place some)
