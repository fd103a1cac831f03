use Rattle.std.proofs.Common.{rules, ◌≡◌, ◌+◌, ◌<◌, ◌≤◌, arith, true, false, List, ◌∷◌, drop, flat_map, is_some, length, map, option_map, slice_index_or, refl, subst, sym, ap, ◌∙◌, ◌++◌, Option}
use Rattle.std.proofs.lemmas.List.{drop_more}
use Rattle.odb_chain.specs.Chains.{Chains}
use Rattle.odb_service.specs.Server.{served_by}
use Rattle.odb_service.specs.Session.{Monitor, Revision, leaves}
use Rattle.odb_sessions.specs.Marked.{MarkedMonitor, marks_due}
use Rattle.odb_round.specs.OfSchema.{IsItemOf}
use Rattle.odb_round.specs.Planned.{Due, Plan, due, plan_monitors}
use Rattle.odb_round.specs.Represented.Sending.{sending_under}
use Rattle.odb_sessions.specs.Represented.Item.{marked_item_of}
use Rattle.odb_round.specs.Represented.Taking.{coming_sending}
use Rattle.odb_sessions.specs.Tied.{AreLive}
use Rattle.odb_sessions.specs.declared.item.Item.{Item}
use Rattle.odb_round.specs.Sending.{due_sending}
use Rattle.odb_round.proofs.Leading.{at_end, ended, goes_on, last_at, live_due, none_used, plan_at, seen_item}
use Rattle.odb_round.proofs.OneSchema.{item_of}
use Rattle.odb_round.proofs.Places.{keeps_itself, keeps_on, told_sending}
use Rattle.odb_round.proofs.taking.taking_of.Goals as goal
use Rattle.odb_tables.specs.Database.{Db}
use Rattle.odb_sessions.specs.Book.{revision_at}
use Rattle.odb_sessions.specs.Alike.{Likeness}
use Rattle.odb_round.specs.Represented.Served.{IsServed, place_coming}
use Rattle.odb_round.specs.ByMarks.{IsDueTo, monitors_due}
use Rattle.odb_round.proofs.Served.{all_due, one_of_all, served_beside, served_in, served_on}
use Rattle.odb_round.specs.Known.{Basis}

pub loop-place-init : goal.loop-place-init
loop-place-init c = record {
  basis = refl;
  within = omega arith;
  chains = refl;
  recent = refl;
  jobs = keeps_itself c.args.planner.now.jobs;
  likenesses = keeps_itself c.args.planner.now.likenesses;
  marked = refl;
  rest = λ s. none_used (plan_at s c.args.planner.now.chains.db c.args.items.now.items c.args.planner.now.monitors);
}

pub give-requires-clause-live : goal.give-requires-clause-live
give-requires-clause-live c =
    let k : Chains = c.loop-place.planner.chains in
    let xs : List Item = c.args.items.now.items in
    let i = c.loop-place.place in
    let x : Item = c.index.result.now in
    let low : i < length xs = search rules in
    let at : x ≡ slice_index_or xs i x = search rules in
    let live : AreLive k (flat_map marks_due (map marked_item_of xs)) = subst (λ (n : Chains). AreLive n (flat_map marks_due (map marked_item_of xs))) (sym c.loop-place.invariant.chains) c.requires.live in
    subst (λ (y : Item). AreLive k (marks_due (marked_item_of y))) (sym at) (live_due k xs i x low live)

pub give-requires-clause-of : goal.give-requires-clause-of
give-requires-clause-of c =
    let xs : List Item = c.args.items.now.items in
    let i = c.loop-place.place in
    let x : Item = c.index.result.now in
    let low : i < length xs = search rules in
    let at : x ≡ slice_index_or xs i x = search rules in
    let of : IsItemOf c.args.planner.now.basis.schema (seen_item x) = subst (λ (y : Item). IsItemOf c.args.planner.now.basis.schema (seen_item y)) (sym at) (item_of c.args.planner.now.basis.schema xs i x low c.requires.of) in
    subst (λ (g : Basis). IsItemOf g.schema (seen_item x)) (sym c.loop-place.invariant.basis) of

pub loop-place-preserved : goal.loop-place-preserved
loop-place-preserved c =
    let db : Db = c.args.planner.now.chains.db in
    let ms : List Monitor = c.loop-place.planner.monitors in
    let xs : List Item = c.args.items.now.items in
    let i = c.loop-place.place in
    let x : Item = c.index.result.now in
    let low : i < length xs = search rules in
    let at : x ≡ slice_index_or xs i x = search rules in
    let step : drop i xs ≡ x ∷ drop (i + 1) xs = drop_more xs i x low ∙ ap (λ (y : Item). y ∷ drop (i + 1) xs) (sym at) in
    let same : c.loop-place.planner.chains.db ≡ db = ap (λ (k : Chains). k.db) c.loop-place.invariant.chains in
    let none : is_some c.in_ok-coming.coming ≡ false = search rules in
    record {
      within = omega (arith, low);
      basis = c.give.ensures.basis ∙ c.loop-place.invariant.basis;
      chains = c.give.ensures.chains ∙ c.loop-place.invariant.chains;
      recent = c.give.ensures.recent ∙ c.loop-place.invariant.recent;
      jobs = keeps_on c.args.planner.now.jobs c.loop-place.planner.jobs c.give.new.self.jobs c.loop-place.invariant.jobs c.give.ensures.jobs;
      likenesses = keeps_on c.args.planner.now.likenesses c.loop-place.planner.likenesses c.give.new.self.likenesses c.loop-place.invariant.likenesses (c.in_ok-coming.ensures.marks c.args.planner.now.basis.schema).0;
      marked = c.give.ensures.marked ∙ c.loop-place.invariant.marked;
      rest = λ s. c.loop-place.invariant.rest s
          ∙ goes_on s db xs i x step ms c.give.new.self.monitors
          (ap (λ (d : Db). is_some (due (served_by s) d (seen_item x) ms)) (sym same) ∙ sym (c.in_ok-coming.ensures.comes s) ∙ none)
          (c.in_ok-coming.ensures.passed none s ∙ ap (λ (d : Db). leaves (served_by s) d (seen_item x) ms) same);
    }

pub returns-then-is_some-clause-items : goal.returns-then-is_some-clause-items
returns-then-is_some-clause-items c = λ s.
    let db : Db = c.args.planner.now.chains.db in
    let ms : List Monitor = c.loop-place.planner.monitors in
    let xs : List Item = c.args.items.now.items in
    let i = c.loop-place.place in
    let x : Item = c.index.result.now in
    let low : i < length xs = search rules in
    let at : x ≡ slice_index_or xs i x = search rules in
    let step : drop i xs ≡ x ∷ drop (i + 1) xs = drop_more xs i x low ∙ ap (λ (y : Item). y ∷ drop (i + 1) xs) (sym at) in
    let same : c.loop-place.planner.chains.db ≡ db = ap (λ (k : Chains). k.db) c.loop-place.invariant.chains in
    let some : is_some c.in_ok-coming.coming ≡ true = search rules in
    sym (ap (λ (p : Plan). p.items) (c.loop-place.invariant.rest s
    ∙ ended s db xs i x step ms (ap (λ (d : Db). is_some (due (served_by s) d (seen_item x) ms)) (sym same) ∙ sym (c.in_ok-coming.ensures.comes s) ∙ some)))

pub returns-then-is_some-clause-monitors : goal.returns-then-is_some-clause-monitors
returns-then-is_some-clause-monitors c = λ s.
    let db : Db = c.args.planner.now.chains.db in
    let ms : List Monitor = c.loop-place.planner.monitors in
    let xs : List Item = c.args.items.now.items in
    let i = c.loop-place.place in
    let x : Item = c.index.result.now in
    let low : i < length xs = search rules in
    let at : x ≡ slice_index_or xs i x = search rules in
    let step : drop i xs ≡ x ∷ drop (i + 1) xs = drop_more xs i x low ∙ ap (λ (y : Item). y ∷ drop (i + 1) xs) (sym at) in
    let same : c.loop-place.planner.chains.db ≡ db = ap (λ (k : Chains). k.db) c.loop-place.invariant.chains in
    let some : is_some c.in_ok-coming.coming ≡ true = search rules in
    sym (ap (λ (p : Plan). p.monitors) (c.loop-place.invariant.rest s
    ∙ ended s db xs i x step ms (ap (λ (d : Db). is_some (due (served_by s) d (seen_item x) ms)) (sym same) ∙ sym (c.in_ok-coming.ensures.comes s) ∙ some)))

pub returns-then-is_some-clause-text : goal.returns-then-is_some-clause-text
returns-then-is_some-clause-text c = λ s all kept.
    let revision : Revision = revision_at c.args.planner.now.chains c.args.planner.now.recent in
    let ms : List Monitor = c.loop-place.planner.monitors in
    let xs : List Item = c.args.items.now.items in
    let i = c.loop-place.place in
    let x : Item = c.index.result.now in
    let low : i < length xs = search rules in
    let at : x ≡ slice_index_or xs i x = search rules in
    let step : drop i xs ≡ x ∷ drop (i + 1) xs = drop_more xs i x low ∙ ap (λ (y : Item). y ∷ drop (i + 1) xs) (sym at) in
    let same : c.loop-place.planner.chains.db ≡ revision.db = ap (λ (k : Chains). k.db) c.loop-place.invariant.chains in
    let some : is_some c.in_ok-coming.coming ≡ true = search rules in
    ap (coming_sending all c.in_ok-coming.coming) (last_at xs i x low at)
    ∙ c.in_ok-coming.ensures.text s all kept
    ∙ (λ j. let k : Chains = c.loop-place.invariant.chains j in option_map (due_sending (served_by s) (revision_at k (c.loop-place.invariant.recent j))) (due (served_by s) k.db (seen_item x) ms))
    ∙ sym (ap (λ (p : Plan). option_map (due_sending (served_by s) revision) p.out) (c.loop-place.invariant.rest s
    ∙ ended s revision.db xs i x step ms (ap (λ (d : Db). is_some (due (served_by s) d (seen_item x) ms)) (sym same) ∙ sym (c.in_ok-coming.ensures.comes s) ∙ some)))

pub returns-clause-items : goal.returns-clause-items
returns-clause-items c = λ s.
    let db : Db = c.args.planner.now.chains.db in
    let xs : List Item = c.args.items.now.items in
    let past : length xs ≤ c.loop-place.place = search rules in
    sym (ap (λ (p : Plan). p.items) (c.loop-place.invariant.rest s ∙ at_end s db xs c.loop-place.place _ c.loop-place.planner.monitors past c.loop-place.invariant.within (search rules)))

pub returns-clause-monitors : goal.returns-clause-monitors
returns-clause-monitors c = λ s.
    let db : Db = c.args.planner.now.chains.db in
    let ms : List Monitor = c.loop-place.planner.monitors in
    let xs : List Item = c.args.items.now.items in
    let i = c.loop-place.place in
    let past : length xs ≤ i = search rules in
    let within : i ≤ length xs = c.loop-place.invariant.within in
    let same : c.loop-place.planner.chains.db ≡ db = ap (λ (k : Chains). k.db) c.loop-place.invariant.chains in
    c.in_ok-due.ensures.monitors (served_by s)
    ∙ ap (λ (d : Db). (plan_monitors (served_by s) d ms).monitors) same
    ∙ sym (ap (λ (p : Plan). p.monitors) (c.loop-place.invariant.rest s ∙ at_end s db xs i i ms past within (omega (arith, past, within))))

pub returns-clause-text : goal.returns-clause-text
returns-clause-text c = λ s all kept.
    let revision : Revision = revision_at c.args.planner.now.chains c.args.planner.now.recent in
    let ms : List Monitor = c.loop-place.planner.monitors in
    let xs : List Item = c.args.items.now.items in
    let i = c.loop-place.place in
    let past : length xs ≤ i = search rules in
    let within : i ≤ length xs = c.loop-place.invariant.within in
    c.composed.ensures.text all _
    ∙ told_sending (sending_under all) c.in_ok-due.due.message _ (c.in_ok-due.ensures.text (served_by s) all kept)
    ∙ (λ j. let k : Chains = c.loop-place.invariant.chains j in option_map (due_sending (served_by s) (revision_at k (c.loop-place.invariant.recent j))) (plan_monitors (served_by s) k.db ms).out)
    ∙ sym (ap (λ (p : Plan). option_map (due_sending (served_by s) revision) p.out) (c.loop-place.invariant.rest s ∙ at_end s revision.db xs i i ms past within (omega (arith, past, within))))

pub returns-then-is_some-clause-jobs : goal.returns-then-is_some-clause-jobs
returns-then-is_some-clause-jobs c = keeps_on c.args.planner.now.jobs c.loop-place.planner.jobs c.give.new.self.jobs c.loop-place.invariant.jobs c.give.ensures.jobs

pub returns-in_err-coming-clause-jobs : goal.returns-in_err-coming-clause-jobs
returns-in_err-coming-clause-jobs c = keeps_on c.args.planner.now.jobs c.loop-place.planner.jobs c.give.new.self.jobs c.loop-place.invariant.jobs c.give.ensures.jobs

pub returns-in_err-due-clause-jobs : goal.returns-in_err-due-clause-jobs
returns-in_err-due-clause-jobs c = keeps_on c.args.planner.now.jobs c.loop-place.planner.jobs c.due.new.self.jobs c.loop-place.invariant.jobs c.due.ensures.jobs

pub returns-clause-jobs : goal.returns-clause-jobs
returns-clause-jobs c = keeps_on c.args.planner.now.jobs c.loop-place.planner.jobs c.due.new.self.jobs c.loop-place.invariant.jobs c.due.ensures.jobs

pub returns-then-is_some-clause-marks : goal.returns-then-is_some-clause-marks
returns-then-is_some-clause-marks c = λ s.
    let db : Db = c.args.planner.now.chains.db in
    let ms : List Monitor = c.loop-place.planner.monitors in
    let hs : List MarkedMonitor = c.args.planner.now.marked in
    let xs : List Item = c.args.items.now.items in
    let i = c.loop-place.place in
    let x : Item = c.index.result.now in
    let low : i < length xs = search rules in
    let at : x ≡ slice_index_or xs i x = search rules in
    let step : drop i xs ≡ x ∷ drop (i + 1) xs = drop_more xs i x low ∙ ap (λ (y : Item). y ∷ drop (i + 1) xs) (sym at) in
    let same : c.loop-place.planner.chains.db ≡ db = ap (λ (k : Chains). k.db) c.loop-place.invariant.chains in
    let some : is_some c.in_ok-coming.coming ≡ true = search rules in
    let its : Option Due = due (served_by s) c.loop-place.planner.chains.db (seen_item x) ms in
    let out : its ≡ (plan_at s db xs c.args.planner.now.monitors).out =
    ap (λ (d : Db). due (served_by s) d (seen_item x) ms) same
    ∙ sym (ap (λ (p : Plan). p.out) (c.loop-place.invariant.rest s
    ∙ ended s db xs i x step ms (ap (λ (d : Db). is_some (due (served_by s) d (seen_item x) ms)) (sym same) ∙ sym (c.in_ok-coming.ensures.comes s) ∙ some)))
    in
    let old : List Likeness = c.loop-place.planner.likenesses in
    let new : List Likeness = c.give.new.self.likenesses in
    let place = place_coming c.in_ok-coming.coming in
    let given : IsServed old new (IsDueTo its (hs ++ monitors_due (marked_item_of x))) place = subst (λ (gs : List MarkedMonitor). IsServed old new (IsDueTo its (gs ++ monitors_due (marked_item_of x))) place) c.loop-place.invariant.marked (c.in_ok-coming.ensures.marks s) in
    served_on c.args.planner.now.likenesses old new (IsDueTo (plan_at s db xs c.args.planner.now.monitors).out (hs ++ all_due xs)) place c.loop-place.invariant.likenesses
    (served_in old new its (plan_at s db xs c.args.planner.now.monitors).out (hs ++ monitors_due (marked_item_of x)) (hs ++ all_due xs) place out (λ h is. one_of_all hs xs i x h low at is) given)

pub returns-clause-marks : goal.returns-clause-marks
returns-clause-marks c = λ s.
    let db : Db = c.args.planner.now.chains.db in
    let ms : List Monitor = c.loop-place.planner.monitors in
    let hs : List MarkedMonitor = c.args.planner.now.marked in
    let xs : List Item = c.args.items.now.items in
    let i = c.loop-place.place in
    let past : length xs ≤ i = search rules in
    let within : i ≤ length xs = c.loop-place.invariant.within in
    let its : Option Due = (plan_monitors (served_by s) c.loop-place.planner.chains.db ms).out in
    let out : its ≡ (plan_at s db xs c.args.planner.now.monitors).out =
    ap (λ (k : Chains). (plan_monitors (served_by s) k.db ms).out) c.loop-place.invariant.chains
    ∙ sym (ap (λ (p : Plan). p.out) (c.loop-place.invariant.rest s ∙ at_end s db xs i i ms past within (omega (arith, past, within))))
    in
    let old : List Likeness = c.loop-place.planner.likenesses in
    let new : List Likeness = c.due.new.self.likenesses in
    let place = place_coming c.composed.result in
    let given : IsServed old new (IsDueTo its hs) place = subst (λ (gs : List MarkedMonitor). IsServed old new (IsDueTo its gs) place) c.loop-place.invariant.marked (subst (IsServed old new (IsDueTo its c.loop-place.planner.marked)) (sym c.composed.ensures.place) (c.in_ok-due.ensures.marks (served_by s))) in
    served_on c.args.planner.now.likenesses old new (IsDueTo (plan_at s db xs c.args.planner.now.monitors).out (hs ++ all_due xs)) place c.loop-place.invariant.likenesses
    (served_beside old new its (plan_at s db xs c.args.planner.now.monitors).out hs (all_due xs) place out given)
