-- The headline, by induction over a run.
use Rattle.std.proofs.Common.{◌≡◌, ℕ, ◌==◌, Bool, true, false, cond, List, [], ◌∷◌, ◌++◌, map, Option, Some, None, refl, sym, ◌∙◌, ap, subst, ◌&&◌, is_some, true≢false, append_assoc, append-nil}
use Rattle.std.specs.Prelude.{option_map, option_and_then, option_to_list}
use Rattle.std.specs.Ordering.{nat_cmp, eq_by_cmp}
use borrow.Author.Tests.{eq-eqb}
use Rattle.odb_atoms.specs.FinMap.{FinMap, get}
use Rattle.odb_law.proofs.Calls.{reads}
use Rattle.odb_service.proofs.SessionMaps.{get-empty, get-insert, same_key}
use Rattle.odb_law.proofs.SessionInvariant.{leaves-asks, seen}
use Rattle.odb_law.proofs.EventSteps.{Stepped, opened_world, reached_has}
use Rattle.odb_law.proofs.TakingPictures.{from_heard, from_well, heard, owed_heard}
use Rattle.odb_law.proofs.UpdateBeforeReply.{from_tells, stands_after}
use Rattle.odb_law.proofs.WorldInvariant.{AreHeld, Holds, IsHeld, close_keeps, handle_keeps, tick_keeps}
use Rattle.odb_law.specs.Client.{Picture, can_follow, client, client_from, client_step}
use Rattle.odb_law.specs.Headline.{AllNow, AllSent, HoldsAlways, IsBroughtToNow, IsKnown, IsMinimal, IsReached, ReadsNamed}
use Rattle.odb_service.specs.Run.{Event, Sent, State, after, beginning, closed, given_after, once, opened, round, sent, sent_to, submitted, take_each, take_of, ticked}
use Rattle.odb_wire.specs.Message.{is_request}
use Rattle.odb_service.specs.Service.{Service}
use Rattle.odb_service.specs.Session.{Item, Monitor, Out, Revision, Session, Watch, asked_after, brought, leaves, owed, rested, take}
use Rattle.odb_service.specs.World.{World, at_moment, close, handle, revision_of, tick}
use Rattle.odb_monitor.proofs.Views.{some_is}
use Rattle.odb_monitor.specs.View.{query}
use Rattle.odb_request.specs.Request.{Request}
use Rattle.odb_rpc.specs.Message.{call_of}
use Rattle.odb_tables.specs.Database.{Db}
use Rattle.odb_service.proofs.SessionMaps.{other}

and_then_twice : {A B C : Type 0} (f : A → Option B) (g : B → Option C) (k : A → Option C) → ((x : A) → k x ≡ option_and_then g (f x)) → (r : Option A) → option_and_then k r ≡ option_and_then g (option_and_then f r)
and_then_twice f g k e None = refl
and_then_twice f g k e (Some x) = e x

pub client_from-append : (h : Service) (xs ys : List Out) (ps : List Picture) → client_from h ps (xs ++ ys) ≡ option_and_then (λ qs. client_from h qs ys) (client_from h ps xs)
client_from-append h [] ys ps = refl
client_from-append h (x ∷ xs) ys ps =
    and_then_twice (λ qs. client_from h qs xs) (λ qs. client_from h qs ys) (λ qs. client_from h qs (xs ++ ys)) (client_from-append h xs ys) (client_step h ps x)

same_option : {A : Type 0} (r : Option A) → option_and_then (λ x. Some x) r ≡ r
same_option None = refl
same_option (Some x) = refl

pub sent_to-append : (t : ℕ) (xs ys : List Sent) → sent_to t (xs ++ ys) ≡ sent_to t xs ++ sent_to t ys
sent_to-append t [] ys = refl
sent_to-append t (x ∷ xs) ys =
    elim (x.0 == t) as (λ b. cond b (x.1 ∷ sent_to t (xs ++ ys)) (sent_to t (xs ++ ys)) ≡ cond b (x.1 ∷ sent_to t xs) (sent_to t xs) ++ sent_to t ys) [
      | true ↦ ap (λ zs. x.1 ∷ zs) (sent_to-append t xs ys)
      | false ↦ sent_to-append t xs ys
    ]

pub sent_to_itself : (s : ℕ) (o : Option Out) → sent_to s (sent s o) ≡ option_to_list o
sent_to_itself s None = refl
sent_to_itself s (Some o) = ap (λ b. cond b (o ∷ []) []) (eq-eqb s s refl)

pub sent_to_other : (t s : ℕ) (o : Option Out) → eq_by_cmp nat_cmp t s ≡ false → sent_to t (sent s o) ≡ []
sent_to_other t s None e = refl
sent_to_other t s (Some o) e = ap (λ b. cond b (o ∷ []) []) (other t s e)

pub sent_follow : (qs : List Request) → AllSent qs → can_follow qs ≡ true
sent_follow [] a = refl
sent_follow (q ∷ qs) a = (λ i. ((a.0 i).initial && ((a.0 i).insert && ((a.0 i).delete && (a.0 i).modify))) && can_follow qs) ∙ sent_follow qs a.1

module _ (h : Service) where
  pub client_from-one : (ps : List Picture) (o : Option Out) → client_from h ps (option_to_list o) ≡ heard h o ps
  client_from-one ps None = refl
  client_from-one ps (Some o) = same_option (client_step h ps o)

  taken : (revision : Revision) (x : Session) (os : List Out) → Holds h x os → Holds h (take h revision x).1 (os ++ option_to_list (take h revision x).0)
  taken revision x os k = (
    from_well h revision x.queue x.monitors k.0,
    client_from-append h os (option_to_list (take h revision x).0) [] ∙ ap (option_and_then (λ qs. client_from h qs (option_to_list (take h revision x).0))) k.1
        ∙ client_from-one (map seen x.monitors) (take h revision x).0 ∙ from_heard h revision x.queue x.monitors k.0,
    stands_after h os (take h revision x).0 (take h revision x).1.queue (from_tells h revision x.queue x.monitors k.0.order),
  )

  silent : (ss : FinMap nat_cmp Session) (f : ℕ → List Out) → AreHeld h ss f → AreHeld h ss (λ t. f t ++ [])
  silent ss f k t y found = subst (Holds h y) (sym (append-nil (f t))) (k t y found)

  take_of_held : (s : ℕ) (o : Option Session) (w : World) → get w.sessions s ≡ o → (f : ℕ → List Out) → IsHeld h w f → IsHeld h (take_of h s o w).0 (λ t. f t ++ sent_to t (take_of h s o w).1)
  take_of_held s None w e f k = (silent w.sessions f k.0, k.1)
  take_of_held s (Some x) w e f k = (
    λ t y found.
        elim (eq_by_cmp nat_cmp t s) as (λ b. eq_by_cmp nat_cmp t s ≡ b → cond b (Some (take h (revision_of w) x).1) (get w.sessions t) ≡ Some y → Holds h y (f t ++ sent_to t (sent s (take h (revision_of w) x).0))) [
          | true ↦ λ tie is. subst (λ (u : ℕ). Holds h y (f u ++ sent_to u (sent s (take h (revision_of w) x).0))) (sym (same_key t s tie))
              (subst (λ (v : Session). Holds h v (f s ++ sent_to s (sent s (take h (revision_of w) x).0))) (some_is (take h (revision_of w) x).1 y is)
              (subst (λ os. Holds h (take h (revision_of w) x).1 (f s ++ os)) (sym (sent_to_itself s (take h (revision_of w) x).0)) (taken (revision_of w) x (f s) (k.0 s x e))))
          | false ↦ λ apart is. subst (λ os. Holds h y (f t ++ os)) (sym (sent_to_other t s (take h (revision_of w) x).0 apart)) (subst (Holds h y) (sym (append-nil (f t))) (k.0 t y is))
        ] refl (sym (get-insert w.sessions s (take h (revision_of w) x).1 t) ∙ found),
    k.1,
  )

  take_each_held : (ss : List ℕ) (w : World) (f : ℕ → List Out) → IsHeld h w f → IsHeld h (take_each h ss w).0 (λ t. f t ++ sent_to t (take_each h ss w).1)
  take_each_held [] w f k = (silent w.sessions f k.0, k.1)
  take_each_held (s ∷ ss) w f k =
      let one : World × List Sent = take_of h s (get w.sessions s) w in
      let rest : IsHeld h (take_each h ss one.0).0 (λ t. (f t ++ sent_to t one.1) ++ sent_to t (take_each h ss one.0).1) = take_each_held ss one.0 (λ t. f t ++ sent_to t one.1) (take_of_held s (get w.sessions s) w refl f k) in
      (λ t y found. subst (Holds h y) (append_assoc (f t) (sent_to t one.1) (sent_to t (take_each h ss one.0).1) ∙ ap (λ os. f t ++ os) (sym (sent_to-append t one.1 (take_each h ss one.0).1))) (rest.0 t y found), rest.1)

  new_holds : Holds h (record { queue = []; monitors = [] }) []
  new_holds = (record { items = tt; kept = tt; distinct = tt; order = tt }, refl, tt)

  open_held : (s : ℕ) (w : World) (f : ℕ → List Out) → IsHeld h w f → IsHeld h (opened_world h s w) (given_after (opened s) [] f)
  open_held s w f k = (
    λ t y found.
        elim (eq_by_cmp nat_cmp t s) as (λ b. eq_by_cmp nat_cmp t s ≡ b → cond b (Some (let x : Session = record { queue = []; monitors = [] } in x)) (get w.sessions t) ≡ Some y → Holds h y (cond (s == t) [] (f t ++ []))) [
          | true ↦ λ tie is. subst (λ (b : Bool). Holds h y (cond b [] (f t ++ []))) (sym (eq-eqb s t (sym (same_key t s tie)))) (subst (λ (x : Session). Holds h x []) (some_is _ y is) new_holds)
          | false ↦ λ apart is. subst (λ (b : Bool). Holds h y (cond b [] (f t ++ []))) (sym (other t s apart)) (silent w.sessions f k.0 t y is)
        ] refl (sym (get-insert w.sessions s (record { queue = []; monitors = [] }) t) ∙ found),
    k.1,
  )

  abbrev pub IsGood : State → Type 0
  IsGood st = IsHeld h st.world st.given

  pub step_good : ReadsNamed h → (e : Event) (st : State) (r : World × List Sent) → IsGood st → Stepped h e st.world r → IsGood (after h e st r)
  step_good named (opened s) st r k is = subst (λ (p : World × List Sent). IsGood (after h (opened s) st p)) is.1 (open_held s st.world st.given k)
  step_good named (submitted s d fresh now) st r k is =
      let v : World = handle h s d fresh (call_of h.db_name h.schema h.serves d) (at_moment h now st.world) in
      let l : IsHeld h v st.given = handle_keeps h named s d fresh (call_of h.db_name h.schema h.serves d) (is_request d) (reads h d) (at_moment h now st.world) st.given k in
      subst (λ (p : World × List Sent). IsGood (after h (submitted s d fresh now) st p)) is.2 (silent v.sessions st.given l.0, l.1)
  step_good named (ticked now) st r k is =
      let l : IsHeld h (tick h now st.world) st.given = tick_keeps h now st.world st.given k in
      subst (λ (p : World × List Sent). IsGood (after h (ticked now) st p)) is (silent (tick h now st.world).sessions st.given l.0, l.1)
  step_good named (closed s) st r k is =
      let l : IsHeld h (close h s st.world) st.given = close_keeps h s st.world st.given k in
      subst (λ (p : World × List Sent). IsGood (after h (closed s) st p)) is (silent (close h s st.world).sessions st.given l.0, l.1)
  step_good named (round ss) st r k is = subst (λ (p : World × List Sent). IsGood (after h (round ss) st p)) is (take_each_held (once ss) st.world st.given k)

  start_good : (word most tables : ℕ) → IsGood (beginning word most tables)
  start_good word most tables = (λ t y found. absurd (true≢false (sym (ap is_some (sym (get-empty t) ∙ found)))), tt)

  pub reached_good : ReadsNamed h → (st : State) → IsReached h st → IsGood st
  reached_good named st r = reached_has h IsGood start_good (step_good named) st r

  pub minimal : ReadsNamed h → HoldsAlways h (IsMinimal h)
  minimal named st r s x found = ap is_some ((reached_good named st r).0 s x found).1

  -- ---- what is owed

  brought_now : (db : Db) (ms : List Monitor) → AllNow h db (map seen (map (λ m. brought h db m.watch.requests m) ms))
  brought_now db [] = tt
  brought_now db (m ∷ ms) = (λ a. ap (λ b. cond b (Some (query db m.watch.requests)) None) (sent_follow m.watch.requests a), brought_now db ms)

  rested_now : (db : Db) (q : List Item) (ms : List Monitor) → AllNow h db (map seen (rested h db q ms))
  rested_now db [] ms = brought_now db ms
  rested_now db (i ∷ is) ms = rested_now db is (leaves h db i ms)

  pub owed_client : (revision : Revision) (x : Session) (os : List Out) → Holds h x os → client h (os ++ owed h revision x) ≡ Some (map seen (rested h revision.db x.queue x.monitors))
  owed_client revision x os k =
      client_from-append h os (owed h revision x) []
      ∙ ap (option_and_then (λ qs. client_from h qs (owed h revision x))) k.1
      ∙ owed_heard h revision x.queue x.monitors k.0

  pub brought_to_now : ReadsNamed h → HoldsAlways h (IsBroughtToNow h)
  brought_to_now named st r s x found =
      (map seen (rested h st.world.db x.queue x.monitors), owed_client (revision_of st.world) x (st.given s) ((reached_good named st r).0 s x found), rested_now st.world.db x.queue x.monitors)

  abbrev watch_of : Picture → Watch
  watch_of p = record { id = p.id; notation = p.notation; requests = p.requests; since = p.since }

  seen_watches : (ms : List Monitor) → map watch_of (map seen ms) ≡ map (λ m. m.watch) ms
  seen_watches [] = refl
  seen_watches (m ∷ ms) = ap (λ ks. m.watch ∷ ks) (seen_watches ms)

  brought_watches : (db : Db) (ms : List Monitor) → map (λ m. m.watch) (map (λ m. brought h db m.watch.requests m) ms) ≡ map (λ m. m.watch) ms
  brought_watches db [] = refl
  brought_watches db (m ∷ ms) = ap (λ ks. m.watch ∷ ks) (brought_watches db ms)

  rested_watches : (db : Db) (q : List Item) (ms : List Monitor) → map (λ m. m.watch) (rested h db q ms) ≡ asked_after h q (map (λ m. m.watch) ms)
  rested_watches db [] ms = brought_watches db ms
  rested_watches db (i ∷ is) ms = rested_watches db is (leaves h db i ms) ∙ ap (asked_after h is) (leaves-asks h db i ms)

  pub known : ReadsNamed h → HoldsAlways h (IsKnown h)
  known named st r s x found =
      ap (option_map (map watch_of)) (owed_client (revision_of st.world) x (st.given s) ((reached_good named st r).0 s x found))
      ∙ ap Some (seen_watches (rested h st.world.db x.queue x.monitors) ∙ rested_watches st.world.db x.queue x.monitors)
