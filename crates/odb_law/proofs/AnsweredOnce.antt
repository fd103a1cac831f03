-- Each request is answered once, and a session is never owed more than 256 replies.
use Rattle.std.proofs.Common.{◌≡◌, ℕ, ◌+◌, ◌≤◌, ◌<◌, ◌==◌, length, Bool, true, false, cond, not, ◌&&◌, List, [], ◌∷◌, ◌++◌, Option, Some, None, is_some, refl, sym, ◌∙◌, ap, subst, true≢false, arith}
use Rattle.std.specs.Prelude.{option_to_list, nat_lt}
use Rattle.std.specs.List.{count_by}
use Rattle.std.proofs.lemmas.Bool.{ltb-true}
use Rattle.std.specs.Ordering.{nat_cmp, eq_by_cmp}
use borrow.Author.Tests.{eqb-true}
use Rattle.serde_json.specs.Data.{Data}
use Rattle.odb_atoms.specs.FinMap.{get}
use Rattle.odb_law.proofs.RequestCounts.{Raises, asks_for, close_raises, count, count-alike, count-all, count-append, count-is, from_label, handle_raises, in_label, load, none_waits, outs, owed_label, queued, reached_balanced, tick_raises, count_waiting}
use Rattle.odb_service.proofs.SessionMaps.{get-empty, get-insert, same_key}
use Rattle.odb_law.proofs.EventSteps.{Stepped, opened_world, reached_has}
use Rattle.odb_law.proofs.WaitingTried.{IsSettled, begins_settled, open_of, step_settles}
use Rattle.odb_law.specs.Headline.{HoldsAlways}
use Rattle.odb_law.specs.Law.{IsAnsweredOnce, IsCounted, answers_one}
use Rattle.odb_service.specs.Run.{Event, Sent, State, after, beginning, closed, max_owed, once, opened, round, submitted, take_each, take_of, ticked}
use Rattle.odb_service.specs.Service.{Service}
use Rattle.odb_service.specs.Session.{Answers, Session, label, no_request, owed, take, to, is_answer}
use Rattle.odb_service.specs.World.{World, at_moment, close, handle, owed_replies, revision_of, tick}
use Rattle.odb_monitor.proofs.Views.{some_is}
use Rattle.odb_rpc.specs.Message.{Call, call_of, has_reply}
use Rattle.odb_service.proofs.Each.{Each}

abbrev any : Data → Bool
any d = true

and_true : (b : Bool) → (b && true) ≡ b
and_true true = refl
and_true false = refl

not_false : (b : Bool) → not b ≡ false → b ≡ true
not_false true e = refl
not_false false e = absurd (true≢false e)

module _ (h : Service) where
  pub answered_once : HoldsAlways h (IsAnsweredOnce h)
  answered_once st r s x found is =
      let a : count is (st.requests s) ≡ count (answers_one h is) (st.given s) + (queued h is x.queue + count_waiting h is s st.world.waiting) = reached_balanced h is st r s x found in
      let b : count (answers_one h is) (st.given s ++ owed h (revision_of st.world) x) ≡ count (answers_one h is) (st.given s) + count (answers_one h is) (owed h (revision_of st.world) x) = count-append (answers_one h is) (st.given s) (owed h (revision_of st.world) x) in
      let c : count (answers_one h is) (owed h (revision_of st.world) x) ≡ queued h is x.queue = owed_label h is (revision_of st.world) x.queue x.monitors in
      let d : count (answers_one h is) (st.given s ++ owed h (revision_of st.world) x) ≡ count_by (answers_one h is) (st.given s ++ owed h (revision_of st.world) x) = count-is (answers_one h is) (st.given s ++ owed h (revision_of st.world) x) in
      let e : count_waiting h is s st.world.waiting ≡ count_by (λ p. (p.session == s) && is p.request) st.world.waiting = count-is (λ p. (p.session == s) && is p.request) st.world.waiting in
      let f : count is (st.requests s) ≡ count_by is (st.requests s) = count-is is (st.requests s) in
      omega (arith, a, b, c, d, e, f)

  -- ---- what a session is owed, counted

  answer_label : (a : Answers) → in_label h any a ≡ is_answer a
  answer_label no_request = refl
  answer_label (to d) = refl

  load_is : (s : ℕ) (x : Session) (w : World) → load h any s x w ≡ owed_replies h s x w
  load_is s x w =
      let a : queued h any x.queue ≡ count (λ i. is_answer (label i)) x.queue = count-alike (λ i. in_label h any (label i)) (λ i. is_answer (label i)) (λ i. answer_label (label i)) x.queue in
      let b : count (λ i. is_answer (label i)) x.queue ≡ count_by (λ i. is_answer (label i)) x.queue = count-is (λ i. is_answer (label i)) x.queue in
      let c : count_waiting h any s w.waiting ≡ count (λ p. p.session == s) w.waiting = count-alike (λ p. (p.session == s) && true) (λ p. p.session == s) (λ p. and_true (p.session == s)) w.waiting in
      let d : count (λ p. p.session == s) w.waiting ≡ count_by (λ p. p.session == s) w.waiting = count-is (λ p. p.session == s) w.waiting in
      omega (arith, a, b, c, d)

  abbrev AreBounded : World → Type 0
  AreBounded w = (s : ℕ) (x : Session) → get w.sessions s ≡ Some x → load h any s x w ≤ max_owed

  raised_bounded : (w v : World) → Raises h any (λ s. 0) w v → AreBounded w → AreBounded v
  raised_bounded w v r k s y found =
      let x : (x : Session) × (get w.sessions s ≡ Some x) × (load h any s y v ≡ load h any s x w + 0) = r s y found in
      let a : load h any s y v ≡ load h any s x.0 w + 0 = x.2 in
      let b : load h any s x.0 w ≤ max_owed = k s x.0 x.1 in
      omega (arith, a, b)

  one_more : (b : Bool) (n : ℕ) → (b && not (nat_lt n max_owed)) ≡ false → n ≤ max_owed → n + cond b 1 0 ≤ max_owed
  one_more true n e l = let m : n < max_owed = ltb-true n max_owed (not_false (nat_lt n max_owed) e) in omega (arith, m)
  one_more false n e l = omega (arith, l)

  submitted_bounded : (t : ℕ) (d : Data) (b : Bool) (x : Session) (w v : World) → get w.sessions t ≡ Some x → (b && not (nat_lt (owed_replies h t x w) max_owed)) ≡ false → Raises h any (asks_for h any t d b) w v → AreBounded w → AreBounded v
  submitted_bounded t d b x w v is_here free r k s y found =
      let z : (z : Session) × (get w.sessions s ≡ Some z) × (load h any s y v ≡ load h any s z w + asks_for h any t d b s) = r s y found in
      subst (λ n. n ≤ max_owed) (sym z.2) (by z.0 z.1)
    where
      here : (z : Session) → get w.sessions t ≡ Some z → load h any t z w + cond b 1 0 ≤ max_owed
      here z is =
          subst (λ n. n + cond b 1 0 ≤ max_owed) (sym (load_is t z w)) (one_more b (owed_replies h t z w) (ap (λ (u : Session). b && not (nat_lt (owed_replies h t u w) max_owed)) (some_is z x (sym is ∙ is_here)) ∙ free) (subst (λ n. n ≤ max_owed) (load_is t z w) (k t z is)))

      by : (z : Session) → get w.sessions s ≡ Some z → load h any s z w + asks_for h any t d b s ≤ max_owed
      by z is =
          elim (t == s) as (λ c. (t == s) ≡ c → load h any s z w + cond c (cond b 1 0) 0 ≤ max_owed) [
            | true ↦ λ same. subst (λ (u : ℕ). get w.sessions u ≡ Some z → load h any u z w + cond b 1 0 ≤ max_owed) (eqb-true t s same) (here z) is
            | false ↦ λ _. let l : load h any s z w ≤ max_owed = k s z is in omega (arith, l)
          ] refl

  take_of_bounded : (t : ℕ) (o : Option Session) (w : World) → get w.sessions t ≡ o → AreBounded w → AreBounded (take_of h t o w).0
  take_of_bounded t None w e k = k
  take_of_bounded t (Some x) w e k = λ s y found.
      elim (eq_by_cmp nat_cmp s t) as (λ b. eq_by_cmp nat_cmp s t ≡ b → cond b (Some (take h (revision_of w) x).1) (get w.sessions s) ≡ Some y → queued h any y.queue + count_waiting h any s w.waiting ≤ max_owed) [
        | true ↦ λ tie is. subst (λ (u : ℕ). queued h any y.queue + count_waiting h any u w.waiting ≤ max_owed) (sym (same_key s t tie))
            (subst (λ (z : Session). queued h any z.queue + count_waiting h any t w.waiting ≤ max_owed) (some_is (take h (revision_of w) x).1 y is) here)
        | false ↦ λ _ is. k s y is
      ] refl (sym (get-insert w.sessions t (take h (revision_of w) x).1 s) ∙ found)
    where
      here : queued h any (take h (revision_of w) x).1.queue + count_waiting h any t w.waiting ≤ max_owed
      here =
          let a : outs h any (option_to_list (take h (revision_of w) x).0) + queued h any (take h (revision_of w) x).1.queue ≡ queued h any x.queue = from_label h any (revision_of w) x.queue x.monitors in
          let b : queued h any x.queue + count_waiting h any t w.waiting ≤ max_owed = k t x e in
          omega (arith, a, b)

  take_each_bounded : (ss : List ℕ) (w : World) → AreBounded w → AreBounded (take_each h ss w).0
  take_each_bounded [] w k = k
  take_each_bounded (t ∷ ss) w k = take_each_bounded ss (take_of h t (get w.sessions t) w).0 (take_of_bounded t (get w.sessions t) w refl k)

  opened_bounded : (t : ℕ) (w : World) → get w.sessions t ≡ None → Each (λ p. is_some (get w.sessions p.session) ≡ true) w.waiting → AreBounded w → AreBounded (opened_world h t w)
  opened_bounded t w e o k s y found =
      elim (eq_by_cmp nat_cmp s t) as (λ b. eq_by_cmp nat_cmp s t ≡ b → cond b (Some (let x : Session = record { queue = []; monitors = [] } in x)) (get w.sessions s) ≡ Some y → queued h any y.queue + count_waiting h any s w.waiting ≤ max_owed) [
        | true ↦ λ tie is.
            let a : count_waiting h any s w.waiting ≡ 0 = ap (λ (u : ℕ). count_waiting h any u w.waiting) (same_key s t tie) ∙ none_waits h any t w w.waiting e o in
            let b : queued h any y.queue ≡ 0 = ap (λ (z : Session). queued h any z.queue) (sym (some_is _ y is)) in
            omega (arith, a, b)
        | false ↦ λ _ is. k s y is
      ] refl (sym (get-insert w.sessions t (record { queue = []; monitors = [] }) s) ∙ found)

  abbrev IsBounded : State → Type 0
  IsBounded st = IsSettled h st × AreBounded st.world

  step_bounded : (e : Event) (st : State) (r : World × List Sent) → IsBounded st → Stepped h e st.world r → IsBounded (after h e st r)
  step_bounded (opened t) st r k is = (step_settles h (opened t) st r k.0 is, subst (λ (p : World × List Sent). AreBounded p.0) is.1 (opened_bounded t st.world is.0 (open_of h st.world st.world.waiting k.0.0) k.1))
  step_bounded (submitted t d fresh now) st r k is =
      let w : World = at_moment h now st.world in
      let c : Call = call_of h.db_name h.schema h.serves d in (
        step_settles h (submitted t d fresh now) st r k.0 is,
        subst (λ (p : World × List Sent). AreBounded p.0) is.2
            (submitted_bounded t d (has_reply c) is.0 w (handle h t d fresh c w) is.1.0 is.1.1 (handle_raises h any t d fresh c w) k.1),
      )
  step_bounded (ticked now) st r k is = (step_settles h (ticked now) st r k.0 is, subst (λ (p : World × List Sent). AreBounded p.0) is (raised_bounded st.world (tick h now st.world) (tick_raises h any now st.world) k.1))
  step_bounded (closed t) st r k is = (step_settles h (closed t) st r k.0 is, subst (λ (p : World × List Sent). AreBounded p.0) is (raised_bounded st.world (close h t st.world) (close_raises h any t st.world) k.1))
  step_bounded (round ss) st r k is = (step_settles h (round ss) st r k.0 is, subst (λ (p : World × List Sent). AreBounded p.0) is (take_each_bounded (once ss) st.world k.1))

  start_bounded : (word most tables : ℕ) → IsBounded (beginning word most tables)
  start_bounded word most tables = (begins_settled h word most tables, λ s x found. absurd (true≢false (sym (ap is_some (sym (get-empty s) ∙ found)))))

  pub counted : HoldsAlways h (IsCounted h)
  counted st r s x found = record { submitted = submitted; most = subst (λ n. n ≤ max_owed) (load_is s x st.world) ((reached_has h IsBounded start_bounded step_bounded st r).1 s x found) }
    where
      submitted : length (st.requests s) ≡ count_by (answers_one h (λ d. true)) (st.given s) + owed_replies h s x st.world
      submitted =
          let a : count any (st.requests s) ≡ count (answers_one h any) (st.given s) + load h any s x st.world = reached_balanced h any st r s x found in
          let b : count any (st.requests s) ≡ length (st.requests s) = count-all (st.requests s) in
          let c : count (answers_one h any) (st.given s) ≡ count_by (answers_one h any) (st.given s) = count-is (answers_one h any) (st.given s) in
          let d : load h any s x st.world ≡ owed_replies h s x st.world = load_is s x st.world in
          omega (arith, a, b, c, d)
