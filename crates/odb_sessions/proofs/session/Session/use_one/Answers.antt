use Rattle.std.proofs.Common.{rules, ◌≡◌, ◌+◌, ◌≤◌, arith, ℕ, List, [], ◌∷◌, map, Option, Some, None, option_map, sym, ap, subst, ◌∙◌}
use Rattle.std.specs.Prelude.{vec_capacity, vec_len}
use Rattle.odb_chain.specs.Chains.{Chains}
use Rattle.odb_service.specs.Server.{served_by}
use Rattle.odb_service.specs.Session.{Session}
use Rattle.odb_sessions.specs.Carried.{Carries, IsReady, all_begin, begins, last_finished, used_by}
use Rattle.odb_sessions.specs.Marked.{MarkedItem, MarkedMonitor, MarkedSession, item_seen, marks_of, monitor_of, seen}
use Rattle.odb_sessions.specs.Represented.Item.{marked_item_of}
use Rattle.odb_sessions.proofs.Carried.{nothing_carried}
use Rattle.odb_sessions.proofs.Used.{item_carried, item_ready}
use Rattle.odb_sessions.proofs.session.Session.use_one.Goals as goal
use Rattle.odb_sessions.specs.Watches.{asking_in, asking_of, watch_after}
use Rattle.odb_sessions.proofs.WatchNumbers.{keeps_so, leaves_asks}
use Rattle.odb_sessions.proofs.AnySchema.{no_schema}

pub carry_out-requires-clause-ready : goal.carry_out-requires-clause-ready
carry_out-requires-clause-ready c =
    let q : MarkedItem = marked_item_of c.in-Some.item in
    let xs : List MarkedMonitor = c.self.inside.monitors.items in
    let first : c.self.inside.queue ≡ q ∷ c.pop.new.self = search rules in
    let is : c.args.self.now ≡ (let x : MarkedSession = record { queue = q ∷ c.pop.new.self; monitors = xs; watch = option_map (λ w. w.number) c.self.inside.watch } in x) = sym c.self.view_is ∙ (λ i. let x : MarkedSession = record { queue = first i; monitors = xs; watch = option_map (λ w. w.number) c.self.inside.watch } in x) in
    item_ready c.args.past.now q c.pop.new.self xs (subst (λ (x : MarkedSession). IsReady c.args.past.now (marks_of x)) is c.requires)

pub carry_out-requires-clause-room : goal.carry_out-requires-clause-room
carry_out-requires-clause-room c =
    let q : MarkedItem = marked_item_of c.in-Some.item in
    let first : c.self.inside.queue ≡ q ∷ c.pop.new.self = search rules in
    let all : all_begin c.self.inside.queue ≡ begins q + all_begin c.pop.new.self = ap all_begin first in
    let room : vec_len c.self.inside.monitors + all_begin c.self.inside.queue ≤ vec_capacity c.self.inside.monitors = c.self.invariant in
    omega (arith, all, room)

pub invariant_of-self-2 : goal.invariant_of-self-2
invariant_of-self-2 c =
    let q : MarkedItem = marked_item_of c.in-Some.item in
    let first : c.self.inside.queue ≡ q ∷ c.pop.new.self = search rules in
    let all : all_begin c.self.inside.queue ≡ begins q + all_begin c.pop.new.self = ap all_begin first in
    let room : vec_len c.self.inside.monitors + all_begin c.self.inside.queue ≤ vec_capacity c.self.inside.monitors = c.self.invariant in
    let few : vec_len c.carry_out.new.monitors ≤ vec_len c.self.inside.monitors + begins q = c.carry_out.ensures.few in
    let capacity : vec_capacity c.carry_out.new.monitors ≡ vec_capacity c.self.inside.monitors = c.carry_out.ensures.capacity in
    omega (arith, all, room, few, capacity)

pub invariant_of-self : goal.invariant_of-self
invariant_of-self c =
    let none : c.self.inside.queue ≡ [] = search rules in
    let left : c.pop.new.self ≡ [] = search rules in
    subst (λ (qs : List MarkedItem). vec_len c.self.inside.monitors + all_begin qs ≤ vec_capacity c.self.inside.monitors) (none ∙ sym left) c.self.invariant

pub returns-in_default-clause-session : goal.returns-in_default-clause-session
returns-in_default-clause-session c = λ s.
    let none : c.self.inside.queue ≡ [] = search rules in
    let left : c.pop.new.self ≡ [] = search rules in
    let x : MarkedSession = record { queue = []; monitors = c.self.inside.monitors.items; watch = option_map (λ w. w.number) c.self.inside.watch } in
    (λ i. seen (let y : MarkedSession = record { queue = left i; monitors = c.self.inside.monitors.items; watch = option_map (λ w. w.number) c.self.inside.watch } in y))
    ∙ ap (λ (y : MarkedSession). used_by (served_by s) c.args.past.now.db 1 0 (seen y)) ((λ i. let y : MarkedSession = record { queue = sym none i; monitors = c.self.inside.monitors.items; watch = option_map (λ w. w.number) c.self.inside.watch } in y) ∙ c.self.view_is)

pub returns-in_default-clause-carried : goal.returns-in_default-clause-carried
returns-in_default-clause-carried c =
    let k : Chains = c.args.past.now in
    let none : c.self.inside.queue ≡ [] = search rules in
    let left : c.pop.new.self ≡ [] = search rules in
    let is : c.args.self.now ≡ (let x : MarkedSession = record { queue = c.pop.new.self; monitors = c.self.inside.monitors.items; watch = option_map (λ w. w.number) c.self.inside.watch } in x) = sym c.self.view_is ∙ (λ i. let x : MarkedSession = record { queue = (none ∙ sym left) i; monitors = c.self.inside.monitors.items; watch = option_map (λ w. w.number) c.self.inside.watch } in x) in
    subst (λ (x : MarkedSession). Carries k k (marks_of c.args.self.now) (marks_of x)) is (nothing_carried k (marks_of c.args.self.now) c.requires)

pub returns-in_default-clause-text : goal.returns-in_default-clause-text
returns-in_default-clause-text c =
    let none : c.self.inside.queue ≡ [] = search rules in
    ap (λ (qs : List MarkedItem). last_finished 1 (map item_seen qs)) (sym none) ∙ ap (λ (x : MarkedSession). last_finished 1 (seen x).queue) c.self.view_is

pub returns-clause-session : goal.returns-clause-session
returns-clause-session c = λ s.
    let k : Chains = c.args.past.now in
    let q : MarkedItem = marked_item_of c.in-Some.item in
    let xs : List MarkedMonitor = c.self.inside.monitors.items in
    let first : c.self.inside.queue ≡ q ∷ c.pop.new.self = search rules in
    (λ i. let y : Session = record { queue = map item_seen c.pop.new.self; monitors = c.carry_out.ensures.monitors s i } in y)
    ∙ ap (λ (y : MarkedSession). used_by (served_by s) k.db 1 0 (seen y)) ((λ i. let y : MarkedSession = record { queue = sym first i; monitors = xs; watch = option_map (λ w. w.number) c.self.inside.watch } in y) ∙ c.self.view_is)

pub returns-clause-carried : goal.returns-clause-carried
returns-clause-carried c =
    let k : Chains = c.args.past.now in
    let new : Chains = c.carry_out.new.past in
    let q : MarkedItem = marked_item_of c.in-Some.item in
    let xs : List MarkedMonitor = c.self.inside.monitors.items in
    let ys : List MarkedMonitor = c.carry_out.new.monitors.items in
    let first : c.self.inside.queue ≡ q ∷ c.pop.new.self = search rules in
    let is : c.args.self.now ≡ (let x : MarkedSession = record { queue = q ∷ c.pop.new.self; monitors = xs; watch = option_map (λ w. w.number) c.self.inside.watch } in x) = sym c.self.view_is ∙ (λ i. let x : MarkedSession = record { queue = first i; monitors = xs; watch = option_map (λ w. w.number) c.self.inside.watch } in x) in
    let ready : IsReady k (marks_of (record { queue = q ∷ c.pop.new.self; monitors = xs; watch = option_map (λ w. w.number) c.self.inside.watch })) = subst (λ (x : MarkedSession). IsReady k (marks_of x)) is c.requires in
    subst (λ (x : MarkedSession). Carries k new (marks_of x) (marks_of (record { queue = c.pop.new.self; monitors = ys; watch = None }))) (sym is)
    (item_carried k q c.pop.new.self xs new ys ready c.carry_out.ensures.carried)

pub returns-clause-text : goal.returns-clause-text
returns-clause-text c =
    let q : MarkedItem = marked_item_of c.in-Some.item in
    let first : c.self.inside.queue ≡ q ∷ c.pop.new.self = search rules in
    c.carry_out.ensures.text ∙ ap (λ (qs : List MarkedItem). last_finished 1 (map item_seen qs)) (sym first) ∙ ap (λ (x : MarkedSession). last_finished 1 (seen x).queue) c.self.view_is

pub returns-in_default-clause-watch : goal.returns-in_default-clause-watch
returns-in_default-clause-watch c =
    let y : MarkedSession = record { queue = c.pop.new.self; monitors = c.self.inside.monitors.items; watch = option_map (λ w. w.number) c.self.inside.watch } in
    keeps_so c.args.self.now y (ap (λ (x : MarkedSession). x.watch) c.self.view_is) (ap (λ (x : MarkedSession). x.monitors) c.self.view_is)

pub returns-clause-watch : goal.returns-clause-watch
returns-clause-watch c = λ n is.
    let q : MarkedItem = marked_item_of c.in-Some.item in
    let xs : List MarkedMonitor = c.self.inside.monitors.items in
    let old : Option ℕ = option_map (λ w. w.number) c.self.inside.watch in
    let after : watch_after (item_seen q) old ≡ Some n = sym c.watch_after-self-inside.ensures ∙ is in
    let kept = leaves_asks (served_by no_schema) c.args.past.now.db (item_seen q) (map monitor_of xs) old n after in
    (sym (ap (λ (x : MarkedSession). x.watch) c.self.view_is) ∙ kept.0, ap (map asking_of) (c.carry_out.ensures.monitors no_schema) ∙ kept.1 ∙ ap asking_in c.self.view_is)
