-- Whatever a request, a moment or a close does, each session stays well, its client's pictures are those of its monitors, and the requests that wait aren't about monitors.
use Rattle.std.proofs.Common.{◌≡◌, ℕ, zero, suc, ◌+◌, ◌*◌, Bool, true, false, cond, List, [], ◌∷◌, ◌++◌, map, length, Option, Some, None, Result, Ok, Err, ◌==◌, refl, sym, ◌∙◌, ap, subst, not, ◌&&◌, is_some, true≢false, codes}
use Rattle.std.specs.Prelude.{bytes_eq, option_to_list}
use Rattle.std.specs.Ordering.{nat_cmp, eq_by_cmp}
use Rattle.std.specs.Cmp.Lexicographic.{nat_list_eq_equiv}
use Rattle.std.proofs.lemmas.Slice.Eq.{bytes_eq-Decides}
use Rattle.serde_json.specs.Data.{Data, string}
use Rattle.odb_rpc.specs.Message as message
use Rattle.odb_atoms.specs.FinMap.{FinMap, get, insert, remove}
use Rattle.odb_cond.specs.Filter.{Filter}
use Rattle.odb_law.proofs.Calls.{Asks, IsHarmless, IsPlain, Reads, failure_harmless, plain_reply}
use Rattle.odb_service.proofs.SessionMaps.{get-insert, get-remove, same_key}
use Rattle.odb_law.proofs.SessionInvariant.{Begins, InOrder, IsSound, IsWell, StayDistinct, at_first-map, drop_first-map, map-append, order_append, seen, texts}
use Rattle.odb_service.proofs.Splits.{Split, split_parts}
use Rattle.odb_law.specs.Client.{Picture, adds, answer_id, changes, client, client_step, drops}
use Rattle.odb_law.specs.Headline.{ReadsNamed, WasLast, about}
use Rattle.odb_service.specs.Service.{Outcome, Service, ended, waiting}
use Rattle.odb_service.specs.Session.{Item, Out, Session, Watch, asked, asked_after, asks, at_first, changed, drop_first, no_request, no_result, renamed, same_id, say, shift, start, stopped, sync, to, told, with_content}
use Rattle.odb_wire.specs.Message.{id_of}
use Rattle.odb_service.specs.World.{Waiting, World, answer, are_monitored, asked_of, at_moment, attempt, cancel_one, change_of, close, end_transaction, fail, handle, is_due, is_of, is_untried, locked, notice_of, on_cancel_monitor, on_lock, on_monitor, on_outcome, post, post_notices, post_to, push, retry, retry_all, run_transaction, shift_with, split_first, start_with, succeed, tick, try_due, try_one, untried, watched, with_waiting}
use Rattle.odb_locks.specs.Locks.{Answered, Notice, drop_session, lock, steal, unlock}
use Rattle.odb_monitor.proofs.Views.{some_is}
use Rattle.odb_monitor.specs.Names.{AreDistinct, IsApart}
use Rattle.odb_request.specs.Request.{Notation, Request, is_conditional}
use Rattle.odb_rpc.specs.Message.{Call, failure, notification, reply}
use Rattle.odb_tables.specs.Database.{Db}
use Rattle.odb_service.specs.World.{lock_error}
use Rattle.odb_atoms.specs.Uuid.{Uuid}
use Rattle.odb_atoms.specs.Error.{Error, syntax_error}
use Rattle.odb_rpc.specs.Message.{Failure, failed, unknown_monitor, canceled}
use Rattle.odb_service.proofs.Each.{Each, each_append, each_before, each_after, each_filter}

module _ (h : Service) where
  -- where the reply to a change or a cancel is next, the message before it was the monitor's update
  abbrev pub IsAfter : Item → List Out → Type 0
  IsAfter (say a d) os = Unit {0}
  IsAfter (start d k) os = Unit {0}
  IsAfter (sync i) os = Unit {0}
  IsAfter (shift i fs) os = Unit {0}
  IsAfter (renamed d old new fs) os = WasLast h old os
  IsAfter (stopped d i) os = WasLast h i os

  abbrev pub StandsAfter : List Item → List Out → Type 0
  StandsAfter [] os = Unit {0}
  StandsAfter (i ∷ is) os = IsAfter i os

  -- what holds of a session at what it was given
  abbrev pub Holds : Session → List Out → Type 0
  Holds x os = IsWell h x × (client h os ≡ Some (map seen x.monitors)) × StandsAfter x.queue os

  abbrev pub AreHeld : FinMap nat_cmp Session → (ℕ → List Out) → Type 0
  AreHeld ss f = (s : ℕ) (x : Session) → get ss s ≡ Some x → Holds x (f s)

  abbrev pub WaitsPlainly : Waiting → Type 0
  WaitsPlainly p = IsPlain h p.request

  abbrev pub IsHeld : World → (ℕ → List Out) → Type 0
  IsHeld w f = AreHeld w.sessions f × Each WaitsPlainly w.waiting

  -- it holds after, where it held before, and no session was given anything
  abbrev pub Keeps : World → World → Type 0
  Keeps w v = (f : ℕ → List Out) → IsHeld w f → IsHeld v f

  -- items that may go to the end of the queue
  abbrev pub MayQueue : Session → List Item → Type 0
  MayQueue x is = Each (IsSound h) is × StayDistinct h is (asked h x) × Begins is × InOrder is

  -- ---- ids

  stay_append : (q is : List Item) (ks : List Watch) → StayDistinct h q ks → StayDistinct h is (asked_after h q ks) → StayDistinct h (q ++ is) ks
  stay_append [] is ks d e = e
  stay_append (i ∷ q) is ks d e = (d.0, d.1, stay_append q is (asks h i ks) d.2 e)

  last_distinct : (q : List Item) (ks : List Watch) → StayDistinct h q ks → AreDistinct (texts h (asked_after h q ks))
  last_distinct [] ks d = d
  last_distinct (i ∷ q) ks d = last_distinct q (asks h i ks) d.2

  pub asked_distinct : (x : Session) → IsWell h x → AreDistinct (texts h (asked h x))
  asked_distinct x k = last_distinct x.queue (told h x) k.distinct

  apart_append : (n m : List ℕ) (ns : List (List ℕ)) → IsApart n ns → bytes_eq n m ≡ false → IsApart n (ns ++ m ∷ [])
  apart_append n m [] a e = (e, tt)
  apart_append n m (k ∷ ns) a e = (a.0, apart_append n m ns a.1 e)

  distinct_append : (ns : List (List ℕ)) (m : List ℕ) → AreDistinct ns → IsApart m ns → AreDistinct (ns ++ m ∷ [])
  distinct_append [] m d a = (tt, tt)
  distinct_append (n ∷ ns) m d a = (apart_append n m ns d.0 (nat_list_eq_equiv.symm n m ∙ a.0), distinct_append ns m d.1 a.1)

  apart_replace : (n o m : List ℕ) (ns : List (List ℕ)) → IsApart n ns → bytes_eq n m ≡ false → IsApart n (at_first (bytes_eq o) (λ t. m) ns)
  apart_replace n o m [] a e = tt
  apart_replace n o m (k ∷ ns) a e = elim (bytes_eq o k) as (λ b. IsApart n (cond b (m ∷ ns) (k ∷ at_first (bytes_eq o) (λ t. m) ns))) [ true ↦ (e, a.1) | false ↦ (a.0, apart_replace n o m ns a.1 e) ]

  distinct_replace : (o m : List ℕ) (ns : List (List ℕ)) → AreDistinct ns → IsApart m ns → AreDistinct (at_first (bytes_eq o) (λ t. m) ns)
  distinct_replace o m [] d a = tt
  distinct_replace o m (n ∷ ns) d a =
      elim (bytes_eq o n) as (λ b. AreDistinct (cond b (m ∷ ns) (n ∷ at_first (bytes_eq o) (λ t. m) ns))) [
        | true ↦ (a.1, d.1)
        | false ↦ (apart_replace n o m ns d.0 (nat_list_eq_equiv.symm n m ∙ a.0), distinct_replace o m ns d.1 a.1)
      ]

  replace_same : (o m : List ℕ) → o ≡ m → (ns : List (List ℕ)) → at_first (bytes_eq o) (λ t. m) ns ≡ ns
  replace_same o m e [] = refl
  replace_same o m e (n ∷ ns) =
      elim (bytes_eq o n) as (λ b. bytes_eq o n ≡ b → cond b (m ∷ ns) (n ∷ at_first (bytes_eq o) (λ t. m) ns) ≡ n ∷ ns) [
        | true ↦ λ is. ap (λ k. k ∷ ns) (sym e ∙ (bytes_eq-Decides o n).0 is)
        | false ↦ λ _. ap (λ ks. n ∷ ks) (replace_same o m e ns)
      ] refl

  apart_drop : (n o : List ℕ) (ns : List (List ℕ)) → IsApart n ns → IsApart n (drop_first (bytes_eq o) ns)
  apart_drop n o [] a = tt
  apart_drop n o (k ∷ ns) a = elim (bytes_eq o k) as (λ b. IsApart n (cond b ns (k ∷ drop_first (bytes_eq o) ns))) [ true ↦ a.1 | false ↦ (a.0, apart_drop n o ns a.1) ]

  distinct_drop : (o : List ℕ) (ns : List (List ℕ)) → AreDistinct ns → AreDistinct (drop_first (bytes_eq o) ns)
  distinct_drop o [] d = tt
  distinct_drop o (n ∷ ns) d = elim (bytes_eq o n) as (λ b. AreDistinct (cond b ns (n ∷ drop_first (bytes_eq o) ns))) [ true ↦ d.1 | false ↦ (apart_drop n o ns d.0, distinct_drop o ns d.1) ]

  -- an id that no monitor has
  is_free : (i : Data) (ks : List Watch) → is_some (watched h i ks) ≡ false → IsApart (h.printed i) (texts h ks)
  is_free i [] e = tt
  is_free i (k ∷ ks) e =
      elim (same_id h i k.id) as (λ b. same_id h i k.id ≡ b → is_some (cond b (Some k) (watched h i ks)) ≡ false → IsApart (h.printed i) (texts h (k ∷ ks))) [
        | true ↦ λ _ f. absurd (true≢false f)
        | false ↦ λ n f. (n, is_free i ks f)
      ] refl e

  -- ---- posting

  push_well : (x : Session) (is : List Item) → IsWell h x → MayQueue x is → IsWell h (push is x)
  push_well x is k m = record {
    items = each_append (IsSound h) x.queue is k.items m.0;
    kept = k.kept;
    distinct = stay_append x.queue is (told h x) k.distinct m.1;
    order = order_append x.queue is k.order m.2 m.3;
  }

  free_after : (is : List Item) (os : List Out) → Begins is → StandsAfter is os
  free_after [] os b = tt
  free_after (say a d ∷ is) os b = tt
  free_after (start d k ∷ is) os b = tt
  free_after (sync i ∷ is) os b = tt
  free_after (shift i fs ∷ is) os b = tt
  free_after (renamed d old new fs ∷ is) os b = absurd b
  free_after (stopped d i ∷ is) os b = absurd b

  push_after : (q is : List Item) (os : List Out) → StandsAfter q os → Begins is → StandsAfter (q ++ is) os
  push_after [] is os a b = free_after is os b
  push_after (i ∷ q) is os a b = a

  pub put_held : (ss : FinMap nat_cmp Session) (f : ℕ → List Out) (s : ℕ) (y : Session) → AreHeld ss f → Holds y (f s) → AreHeld (insert ss s y) f
  put_held ss f s y k here t z found =
      elim (eq_by_cmp nat_cmp t s) as (λ b. eq_by_cmp nat_cmp t s ≡ b → cond b (Some y) (get ss t) ≡ Some z → Holds z (f t)) [
        | true ↦ λ tie e. subst (λ (u : ℕ). Holds z (f u)) (sym (same_key t s tie)) (subst (λ (v : Session). Holds v (f s)) (some_is y z e) here)
        | false ↦ λ _ e. k t z e
      ] refl (sym (get-insert ss s y t) ∙ found)

  post_to_keeps : (s : ℕ) (is : List Item) (w : World) (o : Option Session) → get w.sessions s ≡ o → ((x : Session) → o ≡ Some x → IsWell h x → MayQueue x is) → Keeps w (post_to s is o w)
  post_to_keeps s is w None e may f k = k
  post_to_keeps s is w (Some x) e may f k =
      let here : Holds x (f s) = k.0 s x e in
      let m : MayQueue x is = may x refl here.0 in
      (put_held w.sessions f s (push is x) k.0 (push_well x is here.0 m, here.1, push_after x.queue is (f s) here.2 m.2), k.1)

  pub post_keeps : (s : ℕ) (is : List Item) (w : World) → ((x : Session) → get w.sessions s ≡ Some x → IsWell h x → MayQueue x is) → Keeps w (post s is w)
  post_keeps s is w may = post_to_keeps s is w (get w.sessions s) refl may

  say_keeps : (s : ℕ) (i : Item) (w : World) → IsSound h i → Begins (i ∷ []) → InOrder (i ∷ []) → ((ks : List Watch) → AreDistinct (texts h ks) → StayDistinct h (i ∷ []) ks) → Keeps w (post s (i ∷ []) w)
  say_keeps s i w sound free order stay = post_keeps s (i ∷ []) w (λ x e k. ((sound, tt), stay (asked h x) (asked_distinct x k), free, order))

  answer_keeps : (s : ℕ) (d m : Data) (w : World) → IsHarmless h d m → Keeps w (answer s d m w)
  answer_keeps s d m w harmless = say_keeps s (say (to d) m) w harmless tt tt (λ ks a. (a, tt, a))

  notice_sound : (b : Bool) (name : List ℕ) (ps : List Picture) → client_step h ps (record { answers = no_request; message = notification (cond b (codes "stolen") (codes "locked")) (string name ∷ []); held = None }) ≡ Some ps
  notice_sound true name ps = refl
  notice_sound false name ps = refl

  notice_about : (b : Bool) (name : List ℕ) → about (record { answers = no_request; message = notification (cond b (codes "stolen") (codes "locked")) (string name ∷ []); held = None }) ≡ None
  notice_about true name = refl
  notice_about false name = refl

  notices_keep : (ns : List Notice) (w : World) → Keeps w (post_notices ns w)
  notices_keep [] w f k = k
  notices_keep (n ∷ ns) w f k =
      notices_keep ns (post n.session (say no_request (notice_of n) ∷ []) w) f
      (say_keeps n.session (say no_request (notice_of n)) w (notice_sound n.stolen n.name, notice_about n.stolen n.name) tt tt (λ ks a. (a, tt, a)) f k)

  -- ---- transactions

  abbrev syncs : List Watch → Item → List Item
  syncs all i = map (λ k. sync k.id) all ++ i ∷ []

  syncs_stay : (ks all : List Watch) (d m : Data) → AreDistinct (texts h ks) → StayDistinct h (syncs all (say (to d) m)) ks
  syncs_stay ks [] d m a = (a, tt, a)
  syncs_stay ks (k ∷ all) d m a = (a, tt, syncs_stay ks all d m a)

  syncs_sound : (all : List Watch) (d m : Data) → IsHarmless h d m → Each (IsSound h) (syncs all (say (to d) m))
  syncs_sound [] d m s = (s, tt)
  syncs_sound (k ∷ all) d m s = (tt, syncs_sound all d m s)

  syncs_begin : (all : List Watch) (d m : Data) → Begins (syncs all (say (to d) m))
  syncs_begin [] d m = tt
  syncs_begin (k ∷ all) d m = tt

  syncs_order : (all : List Watch) (d m : Data) → InOrder (syncs all (say (to d) m))
  syncs_order [] d m = tt
  syncs_order (k ∷ []) d m = (tt, tt)
  syncs_order (k ∷ j ∷ all) d m = (tt, syncs_order (j ∷ all) d m)

  succeed_keeps : (s : ℕ) (d r : Data) (w : World) → IsPlain h d → Keeps w (succeed s d r w)
  succeed_keeps s d r w plain = answer_keeps s d (reply (id_of d) r) w (plain_reply h d r plain)

  end_keeps : (s : ℕ) (d results : Data) (o : Option Db) (w : World) → IsPlain h d → Keeps w (end_transaction h s d results o w)
  end_keeps s d results None w plain = succeed_keeps s d results w plain
  end_keeps s d results (Some db) w plain =
      let all : List Watch = asked_of h (get w.sessions s) in
      post_keeps s (syncs all (say (to d) (reply (id_of d) results))) (record w { db = db; commits = w.commits + 1; earlier = with_content w.db w.earlier })
      (λ x e k. (
        syncs_sound all d (reply (id_of d) results) (plain_reply h d results plain),
        syncs_stay (asked h x) all d (reply (id_of d) results) (asked_distinct x k),
        syncs_begin all d (reply (id_of d) results),
        syncs_order all d (reply (id_of d) results),
      ))

  outcome_keeps : (p : Waiting) (o : Outcome) (w : World) → WaitsPlainly p → Keeps w (on_outcome h p o w).0 × Each WaitsPlainly (option_to_list (on_outcome h p o w).1)
  outcome_keeps p (ended results changed) w plain = (end_keeps p.session p.request results changed w plain, tt)
  outcome_keeps p (waiting deadline) w plain = (λ f k. k, (plain, tt))

  attempt_keeps : (p : Waiting) (w : World) → WaitsPlainly p → Keeps w (attempt h p w).0 × Each WaitsPlainly (option_to_list (attempt h p w).1)
  attempt_keeps p w plain = outcome_keeps p _ w plain

  try_one_keeps : (t : Split Waiting) (w : World) → w.waiting ≡ t.0 ++ t.1 ∷ t.2 → Keeps w (try_one h t w)
  try_one_keeps t w is f k =
      let all : Each WaitsPlainly (t.0 ++ t.1 ∷ t.2) = subst (Each WaitsPlainly) is k.1 in
      let rest : Each WaitsPlainly (t.1 ∷ t.2) = each_after WaitsPlainly t.0 (t.1 ∷ t.2) all in
      let a : Keeps w (attempt h t.1 w).0 × Each WaitsPlainly (option_to_list (attempt h t.1 w).1) = attempt_keeps t.1 w rest.0 in (
        (a.0 f k).0,
        each_append WaitsPlainly (t.0 ++ option_to_list (attempt h t.1 w).1) t.2 (each_append WaitsPlainly t.0 (option_to_list (attempt h t.1 w).1) (each_before WaitsPlainly t.0 (t.1 ∷ t.2) all) a.1) rest.1,
      )

  retry_keeps : (n : ℕ) (w : World) → Keeps w (retry h n w)
  retry_keeps zero w = λ f k. k
  retry_keeps (suc n) w =
      elim (untried h w) as (λ o. untried h w ≡ o → Keeps w (elim o as (λ _. World) [ None ↦ w | Some t ↦ retry h n (try_one h t w) ])) [
        | None ↦ λ _ f k. k
        | Some t ↦ λ e f k. retry_keeps n (try_one h t w) f (try_one_keeps t w (split_parts (is_untried w.commits) w.waiting t e).0 f k)
      ] refl

  retry_all_keeps : (w : World) → Keeps w (retry_all h w)
  retry_all_keeps w = retry_keeps ((length w.waiting + 1) * (length w.waiting + 1)) w

  waits_after : (p : Waiting) (w : World) → WaitsPlainly p → Keeps w (with_waiting h (λ ps o. ps ++ option_to_list o) w.waiting (attempt h p w))
  waits_after p w plain f k =
      let a : Keeps w (attempt h p w).0 × Each WaitsPlainly (option_to_list (attempt h p w).1) = attempt_keeps p w plain in
      ((a.0 f k).0, each_append WaitsPlainly w.waiting (option_to_list (attempt h p w).1) k.1 a.1)

  run_keeps : (p : Waiting) (w : World) → WaitsPlainly p → Keeps w (run_transaction h p w)
  run_keeps p w plain f k = retry_all_keeps (with_waiting h (λ ps o. ps ++ option_to_list o) w.waiting (attempt h p w)) f (waits_after p w plain f k)

  due_keeps : (ps : List Waiting) (w : World) → Each WaitsPlainly ps → Keeps w (try_due h ps w)
  due_keeps [] w plain = λ f k. k
  due_keeps (p ∷ ps) w plain =
      elim (is_due w.now p.deadline) as (λ b. Keeps w (try_due h ps (cond b (with_waiting h (λ ps o. ps ++ option_to_list o) w.waiting (attempt h p w)) (record w { waiting = w.waiting ++ p ∷ [] })))) [
        | true ↦ λ f k. due_keeps ps (with_waiting h (λ ps o. ps ++ option_to_list o) w.waiting (attempt h p w)) plain.1 f (waits_after p w plain.0 f k)
        | false ↦ λ f k. due_keeps ps (record w { waiting = w.waiting ++ p ∷ [] }) plain.1 f (k.0, each_append WaitsPlainly w.waiting (p ∷ []) k.1 (plain.0, tt))
      ]

  pub tick_keeps : (now : ℕ) (w : World) → Keeps w (tick h now w)
  tick_keeps now w f k =
      retry_all_keeps (try_due h w.waiting (record (at_moment h now w) { waiting = [] })) f (due_keeps w.waiting (record (at_moment h now w) { waiting = [] }) k.1 f (k.0, tt))

  fail_keeps : (s : ℕ) (d : Data) (name : Failure) (w : World) → answer_id d ≡ id_of d → Keeps w (fail s d name w)
  fail_keeps s d name w own = answer_keeps s d (failure (id_of d) name) w (failure_harmless h d (id_of d) name (sym own))

  cancel_keeps : (s : ℕ) (id : Data) (o : Option (Split Waiting)) (w : World) → split_first (is_of h s id) w.waiting ≡ o → Keeps w (cancel_one h s o w)
  cancel_keeps s id None w e f k = k
  cancel_keeps s id (Some t) w e f k =
      let all : Each WaitsPlainly (t.0 ++ t.1 ∷ t.2) = subst (Each WaitsPlainly) (split_parts (is_of h s id) w.waiting t e).0 k.1 in
      let rest : Each WaitsPlainly (t.1 ∷ t.2) = each_after WaitsPlainly t.0 (t.1 ∷ t.2) all in
      fail_keeps s t.1.request canceled (record w { waiting = t.0 ++ t.2 }) rest.0.1 f (k.0, each_append WaitsPlainly t.0 t.2 (each_before WaitsPlainly t.0 (t.1 ∷ t.2) all) rest.1)

  -- ---- monitors

  -- the ids, with one more that is new
  start_stays : (ks : List Watch) (d : Data) (k : Watch) → AreDistinct (texts h ks) → is_some (watched h k.id ks) ≡ false → StayDistinct h (start d k ∷ []) ks
  start_stays ks d k a e = (a, tt, subst AreDistinct (sym (map-append (λ k. h.printed k.id) ks (k ∷ []))) (distinct_append (texts h ks) (h.printed k.id) a (is_free k.id ks e)))

  start_keeps : ReadsNamed h → (s : ℕ) (d : Data) (n : Notation) (i : Data) (since : Option Uuid) (requests : Data) → Asks h d (adds n since i requests) → (r : Result (List Request) Error) → h.read_requests n requests ≡ r → (w : World) → is_some (watched h i (asked_of h (get w.sessions s))) ≡ false → Keeps w (start_with h s d n i since r w)
  start_keeps reads s d n i since requests a (Err e) is w free = fail_keeps s d (failed e) w a.1
  start_keeps reads s d n i since requests a (Ok qs) is w free =
      let k : Watch = record { id = i; notation = n; requests = qs; since = since } in
      post_keeps s (start d k ∷ []) w
      (λ x e well. (((reads.named n requests qs is, a.1, (requests, a.0, is)), tt), start_stays (asked h x) d k (asked_distinct x well) (ap (λ o. is_some (watched h i (asked_of h o))) (sym e) ∙ free), tt, tt))

  monitor_keeps : ReadsNamed h → (s : ℕ) (d : Data) (n : Notation) (i : Data) (since : Option Uuid) (requests : Data) (w : World) → Asks h d (adds n since i requests) → Keeps w (on_monitor h s d n i since requests w)
  monitor_keeps reads s d n i since requests w a =
      elim (is_some (watched h i (asked_of h (get w.sessions s)))) as (λ b. is_some (watched h i (asked_of h (get w.sessions s))) ≡ b → Keeps w (cond b (fail s d (failed syntax_error) w) (start_with h s d n i since (h.read_requests n requests) w))) [
        | true ↦ λ _. fail_keeps s d (failed syntax_error) w a.1
        | false ↦ λ free. start_keeps reads s d n i since requests a (h.read_requests n requests) refl w free
      ] refl

  texts-rename : (d old new : Data) (fs : List (List ℕ × Filter)) (ks : List Watch) → texts h (asks h (renamed d old new fs) ks) ≡ at_first (bytes_eq (h.printed old)) (λ t. h.printed new) (texts h ks)
  texts-rename d old new fs ks = at_first-map (λ k. h.printed k.id) (bytes_eq (h.printed old)) (changed h new fs) (λ t. h.printed new) (λ k. refl) ks

  texts-stop : (d i : Data) (ks : List Watch) → texts h (asks h (stopped d i) ks) ≡ drop_first (bytes_eq (h.printed i)) (texts h ks)
  texts-stop d i ks = drop_first-map (λ k. h.printed k.id) (bytes_eq (h.printed i)) ks

  -- the new id is the old one, or no monitor has it
  renamed_distinct : (old new : Data) (ks : List Watch) → AreDistinct (texts h ks) → (not (same_id h old new) && is_some (watched h new ks)) ≡ false → AreDistinct (at_first (bytes_eq (h.printed old)) (λ t. h.printed new) (texts h ks))
  renamed_distinct old new ks d e =
      elim (same_id h old new) as (λ b. same_id h old new ≡ b → (not b && is_some (watched h new ks)) ≡ false → AreDistinct (at_first (bytes_eq (h.printed old)) (λ t. h.printed new) (texts h ks))) [
        | true ↦ λ is _. subst AreDistinct (sym (replace_same (h.printed old) (h.printed new) ((bytes_eq-Decides (h.printed old) (h.printed new)).0 is) (texts h ks))) d
        | false ↦ λ _ f. distinct_replace (h.printed old) (h.printed new) (texts h ks) d (is_free new ks f)
      ] refl e

  shift_stays : (d old new : Data) (fs : List (List ℕ × Filter)) (ks : List Watch) → AreDistinct (texts h ks) → is_some (watched h old ks) ≡ true → (not (same_id h old new) && is_some (watched h new ks)) ≡ false → StayDistinct h (shift old fs ∷ renamed d old new fs ∷ []) ks
  shift_stays d old new fs ks a there e = (a, tt, (a, there, subst AreDistinct (sym (texts-rename d old new fs ks)) (renamed_distinct old new ks a e)))

  shift_keeps : (s : ℕ) (d old new filters : Data) (k : Watch) → Asks h d (changes old new filters) → (r : Result (List (List ℕ × Filter)) Error) → h.read_filters filters ≡ r → (w : World)
      → is_some (watched h old (asked_of h (get w.sessions s))) ≡ true → (not (same_id h old new) && is_some (watched h new (asked_of h (get w.sessions s)))) ≡ false → Keeps w (shift_with h s d old new k r w)
  shift_keeps s d old new filters k a (Err e) is w there free = fail_keeps s d (failed e) w a.1
  shift_keeps s d old new filters k a (Ok fs) is w there free =
      elim (are_monitored h fs k.requests) as (λ b. Keeps w (cond b (post s (shift old fs ∷ renamed d old new fs ∷ []) w) (fail s d (failed syntax_error) w))) [
        | true ↦ post_keeps s (shift old fs ∷ renamed d old new fs ∷ []) w
            (λ x e well. (
              (tt, ((a.1, (filters, a.0, is)), tt)),
              shift_stays d old new fs (asked h x) (asked_distinct x well) (ap (λ o. is_some (watched h old (asked_of h o))) (sym e) ∙ there) (ap (λ o. not (same_id h old new) && is_some (watched h new (asked_of h o))) (sym e) ∙ free),
              tt,
              ((refl, refl), tt),
            ))
        | false ↦ fail_keeps s d (failed syntax_error) w a.1
      ]

  change_keeps : (s : ℕ) (d old new filters : Data) (o : Option Watch) (w : World) → Asks h d (changes old new filters) → watched h old (asked_of h (get w.sessions s)) ≡ o → Keeps w (change_of h s d old new filters o w)
  change_keeps s d old new filters None w a is = fail_keeps s d unknown_monitor w a.1
  change_keeps s d old new filters (Some k) w a is =
      elim (not (is_conditional k.notation)) as (λ b. Keeps w (cond b (fail s d unknown_monitor w) (cond (not (same_id h old new) && is_some (watched h new (asked_of h (get w.sessions s)))) (fail s d (failed syntax_error) w) (shift_with h s d old new k (h.read_filters filters) w)))) [
        | true ↦ fail_keeps s d unknown_monitor w a.1
        | false ↦ elim (not (same_id h old new) && is_some (watched h new (asked_of h (get w.sessions s)))) as (λ b. (not (same_id h old new) && is_some (watched h new (asked_of h (get w.sessions s)))) ≡ b → Keeps w (cond b (fail s d (failed syntax_error) w) (shift_with h s d old new k (h.read_filters filters) w))) [
          | true ↦ λ _. fail_keeps s d (failed syntax_error) w a.1
          | false ↦ λ free. shift_keeps s d old new filters k a (h.read_filters filters) refl w (ap is_some is) free
        ] refl
      ]

  stop_stays : (d i : Data) (ks : List Watch) → AreDistinct (texts h ks) → is_some (watched h i ks) ≡ true → StayDistinct h (sync i ∷ stopped d i ∷ []) ks
  stop_stays d i ks a there = (a, tt, (a, there, subst AreDistinct (sym (texts-stop d i ks)) (distinct_drop (h.printed i) (texts h ks) a)))

  stop_keeps : (s : ℕ) (d i : Data) (o : Option Watch) (w : World) → Asks h d (drops i) → watched h i (asked_of h (get w.sessions s)) ≡ o → Keeps w (on_cancel_monitor h s d i o w)
  stop_keeps s d i None w a is = fail_keeps s d unknown_monitor w a.1
  stop_keeps s d i (Some k) w a is =
      post_keeps s (sync i ∷ stopped d i ∷ []) w
      (λ x e well. ((tt, ((a.1, a.0), tt)), stop_stays d i (asked h x) (asked_distinct x well) (ap (λ o. is_some (watched h i (asked_of h o))) (sym e) ∙ ap is_some is), tt, (refl, tt)))

  -- ---- locks, requests, close

  lock_keeps : (s : ℕ) (d : Data) (result : Bool → Data) (a : Answered) (w : World) → IsPlain h d → Keeps w (on_lock h s d result a w)
  lock_keeps s d result (Err e) w plain f k = fail_keeps s d (failed (lock_error e)) w plain.1 f k
  lock_keeps s d result (Ok l) w plain f k = succeed_keeps s d (result l.2) (post_notices l.1 (record w { locks = l.0 })) plain f (notices_keep l.1 (record w { locks = l.0 }) f k)

  pub handle_keeps : ReadsNamed h → (s : ℕ) (d : Data) (fresh : List Uuid) (c : Call) (b : Bool) → Reads h b d c → (w : World) → Keeps w (handle h s d fresh c w)
  handle_keeps reads s d fresh (message.answered m) true r w = answer_keeps s d m w r
  handle_keeps reads s d fresh (message.transact id ops) true r w = run_keeps (record { session = s; request = d; operations = ops; fresh = fresh; arrival = w.now; deadline = None; tried = w.commits }) w r
  handle_keeps reads s d fresh (message.monitor id n i requests since) true r w = monitor_keeps reads s d n i since requests w r
  handle_keeps reads s d fresh (message.change_filters id old new filters) true r w = change_keeps s d old new filters (watched h old (asked_of h (get w.sessions s))) w r refl
  handle_keeps reads s d fresh (message.cancel_monitor id i) true r w = stop_keeps s d i (watched h i (asked_of h (get w.sessions s))) w r refl
  handle_keeps reads s d fresh (message.lock id name) true r w = lock_keeps s d (locked h) (lock w.locks s name) w r
  handle_keeps reads s d fresh (message.steal id name) true r w = lock_keeps s d (locked h) (steal w.locks s name) w r
  handle_keeps reads s d fresh (message.unlock id name) true r w = lock_keeps s d (λ b. no_result) (unlock w.locks s name) w r
  handle_keeps reads s d fresh (message.cancel id) true r w = absurd r
  handle_keeps reads s d fresh message.passed_over true r w = absurd r
  handle_keeps reads s d fresh (message.answered m) false r w = absurd r
  handle_keeps reads s d fresh (message.transact id ops) false r w = absurd r
  handle_keeps reads s d fresh (message.monitor id n i requests since) false r w = absurd r
  handle_keeps reads s d fresh (message.change_filters id old new filters) false r w = absurd r
  handle_keeps reads s d fresh (message.cancel_monitor id i) false r w = absurd r
  handle_keeps reads s d fresh (message.lock id name) false r w = absurd r
  handle_keeps reads s d fresh (message.steal id name) false r w = absurd r
  handle_keeps reads s d fresh (message.unlock id name) false r w = absurd r
  handle_keeps reads s d fresh (message.cancel id) false r w = cancel_keeps s id (split_first (is_of h s id) w.waiting) w refl
  handle_keeps reads s d fresh message.passed_over false r w = λ f k. k

  removed_held : (ss : FinMap nat_cmp Session) (f : ℕ → List Out) (s : ℕ) → AreHeld ss f → AreHeld (remove ss s) f
  removed_held ss f s k t z found =
      elim (eq_by_cmp nat_cmp t s) as (λ b. cond b None (get ss t) ≡ Some z → Holds z (f t)) [
        | true ↦ λ e. absurd (true≢false (sym (ap is_some e)))
        | false ↦ λ e. k t z e
      ] (sym (get-remove ss s t) ∙ found)

  pub close_keeps : (s : ℕ) (w : World) → Keeps w (close h s w)
  close_keeps s w f k = notices_keep (drop_session w.locks s).1 _ f (removed_held w.sessions f s k.0, each_filter WaitsPlainly (λ p. not (p.session == s)) w.waiting k.1)
