use Rattle.std.proofs.Common.{rules, ◌≡◌, ◌++◌, List, flat_map, map, option_map, subst, sym, ap, ◌∙◌}
use Rattle.std.proofs.lemmas.Result.{IfOk-weaker}
use Rattle.std.specs.List.{AllByRecursion}
use Rattle.odb_chain.specs.Chains.{Chains, Mark}
use Rattle.odb_schema.specs.Schema.{Schema}
use Rattle.odb_service.specs.Server.{served_by}
use Rattle.odb_service.specs.Session.{Monitor}
use Rattle.odb_sessions.specs.Marked.{MarkedItem, MarkedMonitor, MarkedSession, Sessions, item_seen, marks_due, marks_in, monitor_of, seen}
use Rattle.odb_round.specs.OfSchema.{IsItemOf, IsMonitorOf, IsSessionOf}
use Rattle.odb_round.specs.Planned.{plan, plan_from}
use Rattle.odb_sessions.specs.Represented.Item.{marked_item_of}
use Rattle.odb_round.specs.Represented.Taking.{taking_sending}
use Rattle.odb_sessions.specs.Tied.{AreLive}
use Rattle.odb_round.specs.Sending.{due_sending}
use Rattle.odb_round.proofs.Places.{keeps_itself, keeps_on, keeps_same}
use Rattle.odb_sessions.proofs.Releases.{live-left, live-right}
use Rattle.odb_round.proofs.taking.taking_from.Goals as goal
use Rattle.odb_sessions.specs.Book.{revision_at}
use Rattle.odb_round.specs.Known.{AreKnownAs, Basis}
use Rattle.odb_sessions.specs.Alike.{Likeness}
use Rattle.odb_round.specs.Represented.Served.{IsServed, place_coming}
use Rattle.odb_round.specs.ByMarks.{IsDueTo, monitors_due, monitors_in}
use Rattle.odb_round.proofs.Known.{known_session}

pub returns-in-Some-clause-items : goal.returns-in-Some-clause-items
returns-in-Some-clause-items c = λ s.
    let x : MarkedSession = c.args.session.now in
    let db = c.args.planner.now.chains.db in
    subst (λ (q : List MarkedItem). c.in-Some.taking.items ≡ (plan_from (served_by s) db (map item_seen q) (seen x).monitors).items) c.items-items.ensures (c.in-Some.ensures.items s db (seen x).monitors)

pub returns-in-Some-clause-monitors : goal.returns-in-Some-clause-monitors
returns-in-Some-clause-monitors c = λ s.
    let x : MarkedSession = c.args.session.now in
    let db = c.args.planner.now.chains.db in
    subst (λ (q : List MarkedItem). c.in-Some.taking.monitors ≡ (plan_from (served_by s) db (map item_seen q) (seen x).monitors).monitors) c.items-items.ensures (c.in-Some.ensures.monitors s db (seen x).monitors)

pub returns-in-Some-clause-text : goal.returns-in-Some-clause-text
returns-in-Some-clause-text c = λ s all kept.
    let x : MarkedSession = c.args.session.now in
    let revision = revision_at c.args.planner.now.chains c.args.planner.now.recent in
    subst (λ (q : List MarkedItem). taking_sending all c.in-Some.taking (map item_seen q) ≡ option_map (due_sending (served_by s) revision) (plan_from (served_by s) revision.db (map item_seen q) (seen x).monitors).out) c.items-items.ensures
    (c.in-Some.ensures.text s revision (seen x).monitors all)

pub turn_to-requires-clause-live : goal.turn_to-requires-clause-live
turn_to-requires-clause-live c =
    let k : Chains = c.args.planner.now.chains in
    let x : MarkedSession = c.args.session.now in
    let ms : List Mark = flat_map marks_in x.monitors in
    let ds : List Mark = flat_map marks_due x.queue in
    let live : AreLive k (ms ++ ds) = c.requires.live in
    subst (λ (xs : List MarkedMonitor). AreLive k (flat_map marks_in xs)) (sym c.monitors.ensures) (live-left k ms ds live)

pub turn_to-requires-clause-of : goal.turn_to-requires-clause-of
turn_to-requires-clause-of c =
    let s : Schema = c.args.planner.now.basis.schema in
    let of : IsSessionOf s (seen c.args.session.now) = c.requires.of in
    subst (λ (xs : List MarkedMonitor). AllByRecursion (IsMonitorOf s) (map monitor_of xs)) (sym c.monitors.ensures) of.1

pub turn_to-requires-clause-known : goal.turn_to-requires-clause-known
turn_to-requires-clause-known c =
    let m : Sessions = c.args.planner.now.basis.sessions in
    let x : MarkedSession = c.args.session.now in
    let number : c.number.result ≡ x.watch = search rules in
    subst (λ (xs : List MarkedMonitor). AreKnownAs m c.number.result xs) (sym c.monitors.ensures) (subst (λ w. AreKnownAs m w x.monitors) (sym number) (known_session m c.requires.known.0 x c.requires.known.1))

pub taking_of-requires-clause-of : goal.taking_of-requires-clause-of
taking_of-requires-clause-of c =
    let s : Schema = c.args.planner.now.basis.schema in
    let of : IsSessionOf s (seen c.args.session.now) = c.requires.of in
    subst (λ (g : Basis). AllByRecursion (IsItemOf g.schema) (map item_seen (map marked_item_of c.items-items.result.now.items))) (sym c.turn_to.ensures.basis)
    (subst (λ (q : List MarkedItem). AllByRecursion (IsItemOf s) (map item_seen q)) (sym c.items-items.ensures) of.0)

pub taking_of-requires-clause-live : goal.taking_of-requires-clause-live
taking_of-requires-clause-live c =
    let k : Chains = c.args.planner.now.chains in
    let x : MarkedSession = c.args.session.now in
    let ms : List Mark = flat_map marks_in x.monitors in
    let ds : List Mark = flat_map marks_due x.queue in
    let live : AreLive k (ms ++ ds) = c.requires.live in
    subst (λ (n : Chains). AreLive n (flat_map marks_due (map marked_item_of c.items-items.result.now.items))) (sym c.turn_to.ensures.chains)
    (subst (λ (q : List MarkedItem). AreLive k (flat_map marks_due q)) (sym c.items-items.ensures) (live-right k ms ds live))

pub returns-clause-items : goal.returns-clause-items
returns-clause-items c =
    let x : MarkedSession = c.args.session.now in
    let monitors : c.turn_to.new.self.monitors ≡ map monitor_of x.monitors = c.in_ok-turn_to.ensures.monitors ∙ ap (map monitor_of) c.monitors.ensures in
    let chains : c.turn_to.new.self.chains ≡ c.args.planner.now.chains = c.turn_to.ensures.chains in
    let queue : map marked_item_of c.items-items.result.now.items ≡ x.queue = c.items-items.ensures in
    IfOk-weaker c.taking_of.result _ _
    (λ taking e. λ s. e s ∙ (λ i. let k : Chains = chains i in let ms : List Monitor = monitors i in (plan_from (served_by s) k.db (map item_seen (queue i)) ms).items))
    c.taking_of.ensures.items

pub returns-clause-monitors : goal.returns-clause-monitors
returns-clause-monitors c =
    let x : MarkedSession = c.args.session.now in
    let monitors : c.turn_to.new.self.monitors ≡ map monitor_of x.monitors = c.in_ok-turn_to.ensures.monitors ∙ ap (map monitor_of) c.monitors.ensures in
    let chains : c.turn_to.new.self.chains ≡ c.args.planner.now.chains = c.turn_to.ensures.chains in
    let queue : map marked_item_of c.items-items.result.now.items ≡ x.queue = c.items-items.ensures in
    IfOk-weaker c.taking_of.result _ _
    (λ taking e. λ s. e s ∙ (λ i. let k : Chains = chains i in let ms : List Monitor = monitors i in (plan_from (served_by s) k.db (map item_seen (queue i)) ms).monitors))
    c.taking_of.ensures.monitors

pub returns-clause-text : goal.returns-clause-text
returns-clause-text c =
    let x : MarkedSession = c.args.session.now in
    let monitors : c.turn_to.new.self.monitors ≡ map monitor_of x.monitors = c.in_ok-turn_to.ensures.monitors ∙ ap (map monitor_of) c.monitors.ensures in
    let chains : c.turn_to.new.self.chains ≡ c.args.planner.now.chains = c.turn_to.ensures.chains in
    let recent : c.turn_to.new.self.recent ≡ c.args.planner.now.recent = c.turn_to.ensures.recent in
    let queue : map marked_item_of c.items-items.result.now.items ≡ x.queue = c.items-items.ensures in
    IfOk-weaker c.taking_of.result _ _
    (λ taking e. λ s all kept. sym (ap (λ (q : List MarkedItem). taking_sending all taking (map item_seen q)) queue) ∙ e s all kept
    ∙ (λ i. let k : Chains = chains i in let ms : List Monitor = monitors i in option_map (due_sending (served_by s) (revision_at k (recent i))) (plan_from (served_by s) k.db (map item_seen (queue i)) ms).out))
    c.taking_of.ensures.text

pub returns-clause-chains : goal.returns-clause-chains
returns-clause-chains c = c.taking_of.ensures.chains ∙ c.turn_to.ensures.chains

pub returns-clause-recent : goal.returns-clause-recent
returns-clause-recent c = c.taking_of.ensures.recent ∙ c.turn_to.ensures.recent

pub returns-in-Some-clause-jobs : goal.returns-in-Some-clause-jobs
returns-in-Some-clause-jobs c = keeps_itself c.args.planner.now.jobs

pub returns-in_err-turn_to-clause-jobs : goal.returns-in_err-turn_to-clause-jobs
returns-in_err-turn_to-clause-jobs c = keeps_same c.args.planner.now.jobs c.turn_to.new.self.jobs c.turn_to.ensures.jobs

pub returns-clause-jobs : goal.returns-clause-jobs
returns-clause-jobs c =
    keeps_on c.args.planner.now.jobs c.turn_to.new.self.jobs c.taking_of.new.planner.jobs (keeps_same c.args.planner.now.jobs c.turn_to.new.self.jobs c.turn_to.ensures.jobs) c.taking_of.ensures.jobs

pub returns-in-Some-clause-marks : goal.returns-in-Some-clause-marks
returns-in-Some-clause-marks c = λ s.
    let ls = c.args.planner.now.likenesses in
    subst (IsServed ls ls (IsDueTo (plan (served_by s) c.args.planner.now.chains.db (seen c.args.session.now)).out (monitors_in c.args.session.now))) (sym c.in-Some.ensures.place) (keeps_itself ls, tt)

pub returns-clause-marks : goal.returns-clause-marks
returns-clause-marks c =
    let x : MarkedSession = c.args.session.now in
    let monitors : c.turn_to.new.self.monitors ≡ map monitor_of x.monitors = c.in_ok-turn_to.ensures.monitors ∙ ap (map monitor_of) c.monitors.ensures in
    let marked : c.turn_to.new.self.marked ≡ x.monitors = c.in_ok-turn_to.ensures.marked ∙ c.monitors.ensures in
    let chains : c.turn_to.new.self.chains ≡ c.args.planner.now.chains = c.turn_to.ensures.chains in
    let likenesses : c.turn_to.new.self.likenesses ≡ c.args.planner.now.likenesses = c.turn_to.ensures.likenesses in
    let queued : List MarkedItem = map marked_item_of c.items-items.result.now.items in
    let queue : queued ≡ x.queue = c.items-items.ensures in
    let db = c.args.planner.now.chains.db in
    let old = c.args.planner.now.likenesses in
    let new = c.taking_of.new.planner.likenesses in
    IfOk-weaker c.taking_of.result _ _
    (λ taking e. λ s.
    subst (λ (q : List MarkedItem). IsServed old new (IsDueTo (plan_from (served_by s) db (map item_seen q) (map monitor_of x.monitors)).out (x.monitors ++ flat_map monitors_due q)) (place_coming taking.coming)) queue
    (subst (λ (hs : List MarkedMonitor). IsServed old new (IsDueTo (plan_from (served_by s) db (map item_seen queued) (map monitor_of x.monitors)).out (hs ++ flat_map monitors_due queued)) (place_coming taking.coming)) marked
    (subst (λ (ms : List Monitor). IsServed old new (IsDueTo (plan_from (served_by s) db (map item_seen queued) ms).out (c.turn_to.new.self.marked ++ flat_map monitors_due queued)) (place_coming taking.coming)) monitors
    (subst (λ (k : Chains). IsServed old new (IsDueTo (plan_from (served_by s) k.db (map item_seen queued) c.turn_to.new.self.monitors).out (c.turn_to.new.self.marked ++ flat_map monitors_due queued)) (place_coming taking.coming)) chains
    (subst (λ (ls : List Likeness). IsServed ls new (IsDueTo (plan_from (served_by s) c.turn_to.new.self.chains.db (map item_seen queued) c.turn_to.new.self.monitors).out (c.turn_to.new.self.marked ++ flat_map monitors_due queued)) (place_coming taking.coming)) likenesses (e s))))))
    c.taking_of.ensures.marks
