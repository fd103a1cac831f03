use Rattle.std.proofs.Common.{◌≡◌, ◌+◌, ◌≤◌, arith, List, ap, ◌∙◌}
use Rattle.std.specs.Prelude.{option_map, option_to_list, vec_capacity, vec_len}
use Rattle.odb_sessions.specs.Carried.{all_begin}
use Rattle.odb_sessions.specs.Marked.{MarkedItem, MarkedSession}
use Rattle.odb_sessions.specs.Posts.{newest, without_newest}
use Rattle.odb_sessions.specs.Represented.Item.{marked_item_of}
use Rattle.odb_sessions.proofs.Newest.{newest_found, newest_out}
use Rattle.odb_sessions.proofs.Used.{begin-++}
use Rattle.odb_sessions.proofs.session.Session.take_newest.Goals as goal

pub returns-clause-session : goal.returns-clause-session
returns-clause-session c =
    (λ i. let x : MarkedSession = record { queue = newest_out c.self.inside.queue c.pop_newest.new.self c.pop_newest.result c.pop_newest.ensures.last c.pop_newest.ensures.none i; monitors = c.self.inside.monitors.items; watch = option_map (λ w. w.number) c.self.inside.watch } in x)
    ∙ ap without_newest c.self.view_is

pub returns-clause-item : goal.returns-clause-item
returns-clause-item c =
    newest_found c.self.inside.queue c.pop_newest.new.self c.pop_newest.result c.pop_newest.ensures.last c.pop_newest.ensures.none
    ∙ ap (λ (x : MarkedSession). newest x.queue) c.self.view_is

pub invariant_of-self : goal.invariant_of-self
invariant_of-self c =
    let last : List MarkedItem = option_to_list (option_map marked_item_of c.pop_newest.result) in
    let all : all_begin c.self.inside.queue ≡ all_begin c.pop_newest.new.self + all_begin last = ap all_begin c.pop_newest.ensures.last ∙ begin-++ c.pop_newest.new.self last in
    let room : vec_len c.self.inside.monitors + all_begin c.self.inside.queue ≤ vec_capacity c.self.inside.monitors = c.self.invariant in
    omega (arith, all, room)
