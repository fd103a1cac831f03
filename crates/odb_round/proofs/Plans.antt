-- A taking is its plan carried out, and a round is each listed session's own plan.
use Rattle.std.proofs.Common.{◌≡◌, ℕ, zero, suc, ◌==◌, Bool, true, false, cond, ◌||◌, not, List, [], ◌∷◌, ◌++◌, map, Option, Some, None, refl, sym, ap, ◌∙◌, true≢false}
use Rattle.std.specs.Prelude.{filter, find, option_and_then, option_map, option_to_list}
use Rattle.std.specs.List.{cons_option}
use Rattle.std.specs.Ordering.{nat_cmp}
use Rattle.odb_atoms.specs.FinMap.{FinMap, get, insert}
use Rattle.odb_monitor.specs.View.{is_none}
use Rattle.odb_request.specs.Request.{Request}
use Rattle.odb_service.specs.Run.{Sent, once, sent, take_each, take_of}
use Rattle.odb_service.specs.Service.{Service}
use Rattle.odb_service.specs.Session.{Item, Monitor, Out, Revision, Session, brought, drained, gives, has_id, leaves, owed, owed_from, refilter, renamed, say, shift, start, stop_at, stopped, sync, take, take_from, take_rest, update_to}
use Rattle.odb_service.specs.World.{World, revision_of}
use Rattle.odb_service.proofs.SessionMaps.{apart_keys, eq_turned, get-insert}
use Rattle.odb_service.proofs.WhatIsOwed.{takes}
use Rattle.odb_round.specs.Planned.{AreOnce, Due, Plan, all_applied, applied, change_to, due, dues, dues_from, from_item, from_monitor, is_listed, out_of, plan, plan_at, plan_from, plan_monitors, planned_outs, plans, update_due, update_of}
use Rattle.odb_sessions.specs.Carried.{first_brought, used_up}
use Rattle.odb_sessions.proofs.Posts.{at_open}
use Rattle.odb_tables.specs.Database.{Db}

module _ (h : Service) where
  -- ---- what is due is what the machine gives

  pub update_given : (revision : Revision) (qs : List Request) (m : Monitor) → update_to h revision qs m ≡ option_map (out_of h revision) (update_of h revision.db qs m)
  update_given revision qs m = by (is_none (change_to h revision.db qs m))
    where
      by : (b : Bool) → cond b None (Some (out_of h revision (update_due m qs))) ≡ option_map (out_of h revision) (cond b None (Some (update_due m qs)))
      by true = refl
      by false = refl

  found_given : (revision : Revision) (f : Monitor → List Request) (o : Option Monitor) → option_and_then (λ m. update_to h revision (f m) m) o ≡ option_map (out_of h revision) (option_and_then (λ m. update_of h revision.db (f m) m) o)
  found_given revision f None = refl
  found_given revision f (Some m) = update_given revision (f m) m

  pub due_given : (revision : Revision) (i : Item) (ms : List Monitor) → gives h revision i ms ≡ option_map (out_of h revision) (due h revision.db i ms)
  due_given revision (say a d) ms = refl
  due_given revision (start d k) ms = refl
  due_given revision (sync i) ms = found_given revision (λ m. m.watch.requests) (find (has_id h i) ms)
  due_given revision (shift i fs) ms = found_given revision (λ m. refilter fs m.watch.requests) (find (has_id h i) ms)
  due_given revision (renamed d old new fs) ms = refl
  due_given revision (stopped d i) ms = refl

  -- ---- one taking

  planned_rest : (revision : Revision) (ms : List Monitor) → take_rest h revision ms ≡ (option_map (out_of h revision) (plan_monitors h revision.db ms).out, first_brought h revision.db (plan_monitors h revision.db ms).monitors ms)
  planned_rest revision [] = refl
  planned_rest revision (m ∷ ms) =
      ap (λ o. stop_at o (brought h revision.db m.watch.requests m ∷ ms) ((take_rest h revision ms).0, brought h revision.db m.watch.requests m ∷ (take_rest h revision ms).1)) (update_given revision m.watch.requests m)
      ∙ by (update_of h revision.db m.watch.requests m) (planned_rest revision ms)
    where
      p : Plan
      p = plan_monitors h revision.db ms

      by : (o : Option Due) → take_rest h revision ms ≡ (option_map (out_of h revision) p.out, first_brought h revision.db p.monitors ms)
          → stop_at (option_map (out_of h revision) o) (brought h revision.db m.watch.requests m ∷ ms) ((take_rest h revision ms).0, brought h revision.db m.watch.requests m ∷ (take_rest h revision ms).1)
          ≡ (option_map (out_of h revision) (from_monitor o p).out, first_brought h revision.db (from_monitor o p).monitors (m ∷ ms))
      by None rest = λ i. ((rest i).0, brought h revision.db m.watch.requests m ∷ (rest i).1)
      by (Some d) rest = refl

  -- with an empty queue no item is used up
  dry : (db : Db) (n k : ℕ) (ms : List Monitor) → (let x : Session = record { queue = []; monitors = first_brought h db k ms } in x) ≡ used_up h db n k [] ms
  dry db zero k ms = refl
  dry db (suc n) k ms = refl

  planned_from : (revision : Revision) (is : List Item) (ms : List Monitor)
      → take_from h revision is ms ≡ (option_map (out_of h revision) (plan_from h revision.db is ms).out, used_up h revision.db (plan_from h revision.db is ms).items (plan_from h revision.db is ms).monitors is ms)
  planned_from revision [] ms =
      let p : Plan = plan_monitors h revision.db ms in
      (λ i. let r : Option Out × Session = ((planned_rest revision ms i).0, record { queue = []; monitors = (planned_rest revision ms i).1 }) in r)
      ∙ (λ i. let r : Option Out × Session = (option_map (out_of h revision) p.out, dry revision.db p.items p.monitors ms i) in r)
  planned_from revision (i ∷ is) ms =
      ap (λ o. stop_at o (let x : Session = record { queue = is; monitors = leaves h revision.db i ms } in x) (take_from h revision is (leaves h revision.db i ms))) (due_given revision i ms)
      ∙ by (due h revision.db i ms) (planned_from revision is (leaves h revision.db i ms))
    where
      p : Plan
      p = plan_from h revision.db is (leaves h revision.db i ms)

      by : (o : Option Due) → take_from h revision is (leaves h revision.db i ms) ≡ (option_map (out_of h revision) p.out, used_up h revision.db p.items p.monitors is (leaves h revision.db i ms))
          → stop_at (option_map (out_of h revision) o) (let x : Session = record { queue = is; monitors = leaves h revision.db i ms } in x) (take_from h revision is (leaves h revision.db i ms))
          ≡ (option_map (out_of h revision) (from_item o p).out, used_up h revision.db (from_item o p).items (from_item o p).monitors (i ∷ is) ms)
      by None rest = rest
      by (Some d) rest = refl

  -- a taking gives what its plan says, and leaves what the plan makes of the session
  pub planned_takes : (revision : Revision) (x : Session) → take h revision x ≡ (option_map (out_of h revision) (plan h revision.db x).out, applied h revision.db (plan h revision.db x) x)
  planned_takes revision x = planned_from revision x.queue x.monitors

  -- ---- until nothing is left

  abbrev after_plan : Db → Session → Session
  after_plan db x = applied h db (plan h db x) x

  pub planned_owed : (revision : Revision) (x : Session) → owed h revision x ≡ option_to_list (option_map (out_of h revision) (plan h revision.db x).out) ++ owed h revision (after_plan revision.db x)
  planned_owed revision x = (takes h revision x).owes ∙ ap (λ (r : Option Out × Session). option_to_list r.0 ++ owed h revision r.1) (planned_takes revision x)

  -- where nothing is due the session is dry
  pub planned_dry : (revision : Revision) (x : Session) → (plan h revision.db x).out ≡ None → after_plan revision.db x ≡ drained h revision.db x
  planned_dry revision x none =
      let t = planned_takes revision x in
      sym (ap (λ (r : Option Out × Session). r.1) t)
      ∙ (takes h revision x).none (ap (λ (r : Option Out × Session). r.0) t ∙ ap (option_map (out_of h revision)) none)

  listed : (revision : Revision) (o : Option Due) → option_to_list (option_map (out_of h revision) o) ≡ map (out_of h revision) (option_to_list o)
  listed revision None = refl
  listed revision (Some d) = refl

  map-both : (revision : Revision) (xs ys : List Due) → map (out_of h revision) xs ++ map (out_of h revision) ys ≡ map (out_of h revision) (xs ++ ys)
  map-both revision [] ys = refl
  map-both revision (x ∷ xs) ys = ap (λ zs. out_of h revision x ∷ zs) (map-both revision xs ys)

  cons_as_list : (o : Option Out) (os : List Out) → cons_option o os ≡ option_to_list o ++ os
  cons_as_list None os = refl
  cons_as_list (Some x) os = refl

  rest_due : (revision : Revision) (ms : List Monitor) → owed_from h revision [] ms ≡ map (out_of h revision) (dues_from h revision.db [] ms)
  rest_due revision [] = refl
  rest_due revision (m ∷ ms) =
      cons_as_list (update_to h revision m.watch.requests m) (owed_from h revision [] ms)
      ∙ ap (λ o. option_to_list o ++ owed_from h revision [] ms) (update_given revision m.watch.requests m)
      ∙ ap (λ os. os ++ owed_from h revision [] ms) (listed revision (update_of h revision.db m.watch.requests m))
      ∙ ap (λ os. map (out_of h revision) (option_to_list (update_of h revision.db m.watch.requests m)) ++ os) (rest_due revision ms)
      ∙ map-both revision (option_to_list (update_of h revision.db m.watch.requests m)) (dues_from h revision.db [] ms)

  all_due_from : (revision : Revision) (is : List Item) (ms : List Monitor) → owed_from h revision is ms ≡ map (out_of h revision) (dues_from h revision.db is ms)
  all_due_from revision [] ms = rest_due revision ms
  all_due_from revision (i ∷ is) ms =
      ap (λ o. option_to_list o ++ owed_from h revision is (leaves h revision.db i ms)) (due_given revision i ms)
      ∙ ap (λ os. os ++ owed_from h revision is (leaves h revision.db i ms)) (listed revision (due h revision.db i ms))
      ∙ ap (λ os. map (out_of h revision) (option_to_list (due h revision.db i ms)) ++ os) (all_due_from revision is (leaves h revision.db i ms))
      ∙ map-both revision (option_to_list (due h revision.db i ms)) (dues_from h revision.db is (leaves h revision.db i ms))

  -- what a session is owed is what is due to it, one after the other
  pub all_due : (revision : Revision) (x : Session) → owed h revision x ≡ map (out_of h revision) (dues h revision.db x)
  all_due revision x = all_due_from revision x.queue x.monitors

  -- ---- a round

  neither : (a b : Bool) → (a || b) ≡ false → (a ≡ false) × (b ≡ false)
  neither true b e = absurd (true≢false e)
  neither false b e = (refl, e)

  -- a session's plan doesn't depend on what becomes of another one
  pub plans_other : (db : Db) (m : FinMap nat_cmp Session) (s : ℕ) (x : Session) (ss : List ℕ) → is_listed s ss ≡ false → plans h db (insert m s x) ss ≡ plans h db m ss
  plans_other db m s x [] e = refl
  plans_other db m s x (t ∷ ts) e =
      let n : (t == s ≡ false) × (is_listed s ts ≡ false) = neither (t == s) (is_listed s ts) e in
      let apart : get (insert m s x) t ≡ get m t = get-insert m s x t ∙ ap (λ b. cond b (Some x) (get m t)) (apart_keys t s (turned t s n.0)) in
      λ i. plan_at h db t (apart i) ++ plans_other db m s x ts n.1 i
    where
      turned : (a b : ℕ) → (a == b) ≡ false → (b == a) ≡ false
      turned a b e = sym (eq_turned a b) ∙ e

  -- these plans carried out, and what they give
  abbrev pub after_plans : World → List (ℕ × Plan) → World × List Sent
  after_plans w ps = (record w { sessions = all_applied h w.db w.sessions ps }, planned_outs h (revision_of w) ps)

  abbrev then_each : List ℕ → World × List Sent → World × List Sent
  then_each ss one = ((take_each h ss one.0).0, one.1 ++ (take_each h ss one.0).1)

  abbrev with_session : World → ℕ → Session → World
  with_session w s x = record w { sessions = insert w.sessions s x }

  -- a round is each listed session's own plan, in the order of the list
  pub planned_round : (ss : List ℕ) (w : World) → AreOnce ss → take_each h ss w ≡ after_plans w (plans h w.db w.sessions ss)
  planned_round [] w a = refl
  planned_round (s ∷ ss) w a = by (get w.sessions s) refl (λ v. planned_round ss v a.1)
    where
      by : (o : Option Session) → get w.sessions s ≡ o → ((v : World) → take_each h ss v ≡ after_plans v (plans h v.db v.sessions ss))
          → then_each ss (take_of h s o w) ≡ after_plans w (plan_at h w.db s o ++ plans h w.db w.sessions ss)
      by None is rest = rest w
      by (Some x) is rest =
          let p : Plan = plan h w.db x in
          let y : Session = applied h w.db p x in
          let outs : List Sent = sent s (option_map (out_of h (revision_of w)) p.out) in
          ap (λ (r : Option Out × Session). then_each ss (with_session w s r.1, sent s r.0)) (planned_takes (revision_of w) x)
          ∙ ap (λ (r : World × List Sent). let t : World × List Sent = (r.0, outs ++ r.1) in t) (rest (with_session w s y))
          ∙ ap (λ ps. let t : World × List Sent = (record w { sessions = all_applied h w.db (insert w.sessions s y) ps }, outs ++ planned_outs h (revision_of w) ps) in t) (plans_other w.db w.sessions s y ss a.0)
          ∙ ap (λ (m : FinMap nat_cmp Session). let t : World × List Sent = (record w { sessions = all_applied h w.db m (plans h w.db w.sessions ss) }, outs ++ planned_outs h (revision_of w) (plans h w.db w.sessions ss)) in t) (sym (at_open (applied h w.db p) w.sessions s x is))

-- ---- a list of which each is taken once

not_in_filter : (s t : ℕ) (ss : List ℕ) → is_listed t ss ≡ false → is_listed t (filter (λ u. not (u == s)) ss) ≡ false
not_in_filter s t [] e = refl
not_in_filter s t (u ∷ ss) e = by (u == s) (apart (u == t) (is_listed t ss) e) (not_in_filter s t ss (later (u == t) (is_listed t ss) e))
  where
    apart : (a b : Bool) → (a || b) ≡ false → a ≡ false
    apart true b e = absurd (true≢false e)
    apart false b e = refl

    later : (a b : Bool) → (a || b) ≡ false → b ≡ false
    later true b e = absurd (true≢false e)
    later false b e = e

    by : (b : Bool) → (u == t) ≡ false → is_listed t (filter (λ u. not (u == s)) ss) ≡ false → is_listed t (cond (not b) (u ∷ filter (λ u. not (u == s)) ss) (filter (λ u. not (u == s)) ss)) ≡ false
    by true here rest = rest
    by false here rest = ap (λ b. b || is_listed t (filter (λ u. not (u == s)) ss)) here ∙ rest

filtered_out : (s : ℕ) (ss : List ℕ) → is_listed s (filter (λ u. not (u == s)) ss) ≡ false
filtered_out s [] = refl
filtered_out s (u ∷ ss) = by (u == s) refl (filtered_out s ss)
  where
    by : (b : Bool) → (u == s) ≡ b → is_listed s (filter (λ u. not (u == s)) ss) ≡ false → is_listed s (cond (not b) (u ∷ filter (λ u. not (u == s)) ss) (filter (λ u. not (u == s)) ss)) ≡ false
    by true is rest = rest
    by false is rest = ap (λ b. b || is_listed s (filter (λ u. not (u == s)) ss)) is ∙ rest

filter_once : (s : ℕ) (ss : List ℕ) → AreOnce ss → AreOnce (filter (λ u. not (u == s)) ss)
filter_once s [] a = tt
filter_once s (u ∷ ss) a = by (u == s) (filter_once s ss a.1)
  where
    by : (b : Bool) → AreOnce (filter (λ u. not (u == s)) ss) → AreOnce (cond (not b) (u ∷ filter (λ u. not (u == s)) ss) (filter (λ u. not (u == s)) ss))
    by true rest = rest
    by false rest = (not_in_filter s u ss a.0, rest)

pub once_once : (ss : List ℕ) → AreOnce (once ss)
once_once [] = tt
once_once (s ∷ ss) = (filtered_out s (once ss), filter_once s (once ss) (once_once ss))
