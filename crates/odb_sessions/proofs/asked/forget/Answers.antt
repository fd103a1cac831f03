use Rattle.std.proofs.Common.{rules, ◌≡◌, Some, None, position, map, sym, ap, ◌∙◌}
use Rattle.std.specs.Arc.{arc_value}
use Rattle.std.specs.List.{remove}
use Rattle.odb_sessions.specs.Asked.{is_same}
use Rattle.odb_sessions.proofs.Replays.{taken_found, taken_nowhere}
use Rattle.odb_sessions.proofs.asked.forget.Goals as goal

pub returns-in_default : goal.returns-in_default
returns-in_default c =
    let none : position (λ x. is_same c.args.id.now (arc_value x)) c.args.ids.now.items ≡ None = search rules in
    sym (taken_nowhere arc_value (is_same c.args.id.now) c.args.ids.now.items none)

pub returns : goal.returns
returns c =
    let taken : c.remove.new.self.items ≡ remove c.args.ids.now.items c.in-Some.place = search rules in
    let some : position (λ x. is_same c.args.id.now (arc_value x)) c.args.ids.now.items ≡ Some c.in-Some.place = search rules in
    ap (map arc_value) taken ∙ sym (taken_found arc_value (is_same c.args.id.now) c.args.ids.now.items c.in-Some.place some)
