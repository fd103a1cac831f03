use Rattle.std.proofs.Common.{rules, ◌≡◌, ◌+◌, ◌≤◌, [], ◌∷◌, arith, false, ap, ◌∙◌}
use Rattle.std.specs.Prelude.{is_err, vec_capacity, vec_len}
use Rattle.odb_sessions.specs.Carried.{all_begin, begins}
use Rattle.odb_sessions.specs.Marked.{MarkedItem}
use Rattle.odb_sessions.specs.Represented.Item.{marked_item_of}
use Rattle.odb_sessions.proofs.Ties.{either}
use Rattle.odb_sessions.proofs.Used.{begin-++, given_ok}
use Rattle.odb_sessions.proofs.session.Session.push.Goals as goal

pub invariant_of-self-2 : goal.invariant_of-self-2
invariant_of-self-2 c =
    let q : MarkedItem = marked_item_of c.args.item in
    let made : is_err c.make_room_for.result ≡ false = search rules in
    let room : vec_len c.make_room_for.new.monitors + (all_begin c.self.inside.queue + begins q) ≤ vec_capacity c.make_room_for.new.monitors = given_ok c.make_room_for.result made c.make_room_for.ensures.room in
    let kept : vec_len c.make_room_for.new.monitors + all_begin c.self.inside.queue ≤ vec_capacity c.make_room_for.new.monitors = c.make_room_for.ensures.kept in
    either c.push.result c.push.ensures.ok c.push.ensures.err
    (λ ok. let all : all_begin c.push.new.self ≡ all_begin c.self.inside.queue + all_begin (q ∷ []) = ap all_begin ok ∙ begin-++ c.self.inside.queue (q ∷ []) in omega (arith, all, room))
    (λ err. let all : all_begin c.push.new.self ≡ all_begin c.self.inside.queue = ap all_begin err in omega (arith, all, kept))
