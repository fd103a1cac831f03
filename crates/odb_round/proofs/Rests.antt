-- What monitors have due with an empty queue, one after the other.
use Rattle.std.proofs.Common.{◌≡◌, ℕ, suc, ◌+◌, ◌≤◌, arith, true, false, List, [], ◌∷◌, drop, is_some, length, map, Option, Some, None, refl, sym, ap, ◌∙◌, true≢false}
use Rattle.std.specs.Prelude.{option_map}
use Rattle.std.proofs.lemmas.List.{drop_all}
use Rattle.odb_chain.specs.Chains.{Chains}
use Rattle.odb_recent.specs.Recent.{Recent}
use Rattle.odb_request.specs.Request.{Request}
use Rattle.odb_service.specs.Service.{Service}
use Rattle.odb_service.specs.Session.{Monitor, Revision, refilter}
use Rattle.odb_tables.specs.Database.{Db}
use Rattle.odb_round.specs.Foreseen.{Ahead, seen_ahead}
use Rattle.odb_sessions.specs.Marked.{watch_of}
use Rattle.odb_round.specs.Planned.{Due, Plan, from_monitor, plan_monitors, update_of}
use Rattle.odb_round.specs.Sending.{Sending, due_sending, update_sending}
use Rattle.odb_round.proofs.Updates.{refilter_none}
use Rattle.odb_sessions.specs.Book.{revision_at}

-- a plan of which these monitors were found to be owed nothing
abbrev pub after_none : ℕ → Plan → Plan
after_none n p = record { items = p.items; monitors = n + p.monitors; out = p.out }

pub none_yet : (p : Plan) → p ≡ after_none 0 p
none_yet p = let zero : p.monitors ≡ 0 + p.monitors = omega arith in ap (λ n. let q : Plan = record { items = p.items; monitors = n; out = p.out } in q) zero

abbrev pub rest_of : Service → Db → List Ahead → Plan
rest_of h db xs = plan_monitors h db (map (seen_ahead db) xs)

-- what the client of a monitor is owed
abbrev pub owed_to : Service → Db → Ahead → Option Due
owed_to h db x = update_of h db (watch_of x.marked).requests (seen_ahead db x)

abbrev pub sending_to : Service → Revision → Ahead → Option Sending
sending_to h revision x = update_sending h revision (watch_of x.marked).requests (seen_ahead revision.db x)

-- the same, at the same chains and commits, as it is found out under no other filters
pub sending_at : (h : Service) (r s : Recent) (k n : Chains) (x : Ahead) → r ≡ s → k ≡ n → update_sending h (revision_at k r) (refilter [] (watch_of x.marked).requests) (seen_ahead k.db x) ≡ sending_to h (revision_at n s) x
sending_at h r s k n x commits same =
    (λ i. let m : Chains = same i in update_sending h (revision_at m (commits i)) (refilter [] (watch_of x.marked).requests) (seen_ahead m.db x))
    ∙ ap (λ (qs : List Request). update_sending h (revision_at n s) qs (seen_ahead n.db x)) (refilter_none (watch_of x.marked).requests)

pub is_mapped : {A B : Type 0} (f : A → B) (o : Option A) → is_some (option_map f o) ≡ is_some o
is_mapped f None = refl
is_mapped f (Some x) = refl

-- ---- what is due ends a plan

module _ (f : Due → Sending) (p : Plan) where
  one_brought : (o : Option Due) → is_some (option_map f o) ≡ true → (from_monitor o p).monitors ≡ 1
  one_brought None e = absurd (true≢false (sym e))
  one_brought (Some d) e = refl

  one_out : (o : Option Due) → is_some (option_map f o) ≡ true → (from_monitor o p).out ≡ o
  one_out None e = absurd (true≢false (sym e))
  one_out (Some d) e = refl

  one_passed : (o : Option Due) → is_some (option_map f o) ≡ false → from_monitor o p ≡ record { items = p.items; monitors = suc p.monitors; out = p.out }
  one_passed None e = refl
  one_passed (Some d) e = absurd (true≢false e)

module _ (h : Service) (revision : Revision) (xs : List Ahead) (i : ℕ) (x : Ahead) (step : drop i xs ≡ x ∷ drop (i + 1) xs) (told : Option Sending) (is : told ≡ sending_to h revision x) where
  abbrev later : Plan
  later = rest_of h revision.db (drop (i + 1) xs)

  -- the monitor at this place is owed an update
  pub found_monitors : is_some told ≡ true → (after_none i (rest_of h revision.db (drop i xs))).monitors ≡ i + 1
  found_monitors some =
      ap (λ ys. i + (rest_of h revision.db ys).monitors) step
      ∙ ap (λ n. i + n) (one_brought (due_sending h revision) later (owed_to h revision.db x) (ap is_some (sym is) ∙ some))

  pub found_out : is_some told ≡ true → option_map (due_sending h revision) (after_none i (rest_of h revision.db (drop i xs))).out ≡ told
  found_out some =
      ap (λ ys. option_map (due_sending h revision) (rest_of h revision.db ys).out) step
      ∙ ap (option_map (due_sending h revision)) (one_out (due_sending h revision) later (owed_to h revision.db x) (ap is_some (sym is) ∙ some))
      ∙ sym is

  pub found_due : is_some told ≡ true → (after_none i (rest_of h revision.db (drop i xs))).out ≡ owed_to h revision.db x
  found_due some =
      ap (λ ys. (rest_of h revision.db ys).out) step
      ∙ one_out (due_sending h revision) later (owed_to h revision.db x) (ap is_some (sym is) ∙ some)

  -- it is owed none
  pub rest_none : is_some told ≡ false → after_none i (rest_of h revision.db (drop i xs)) ≡ after_none (i + 1) later
  rest_none none =
      let next : i + suc later.monitors ≡ i + 1 + later.monitors = omega arith in
      ap (λ ys. after_none i (rest_of h revision.db ys)) step
      ∙ ap (after_none i) (one_passed (due_sending h revision) later (owed_to h revision.db x) (ap is_some (sym is) ∙ none))
      ∙ ap (λ n. let q : Plan = record { items = later.items; monitors = n; out = later.out } in q) next

-- there is no other
pub rest_done : (h : Service) (db : Db) (xs : List Ahead) (i n : ℕ) → length xs ≤ i → i ≤ length xs → n ≡ length xs → after_none i (rest_of h db (drop i xs)) ≡ record { items = 0; monitors = n; out = None }
rest_done h db xs i n past within len =
    let none : i + 0 ≡ n = omega (arith, past, within, len) in
    ap (λ ys. after_none i (rest_of h db ys)) (drop_all i xs past)
    ∙ ap (λ n. let q : Plan = record { items = 0; monitors = n; out = None } in q) none

-- no item is used up
pub no_items : (h : Service) (db : Db) (ms : List Monitor) → (plan_monitors h db ms).items ≡ 0
no_items h db [] = refl
no_items h db (m ∷ ms) = by (update_of h db m.watch.requests m) (no_items h db ms)
  where
    by : (o : Option Due) → (plan_monitors h db ms).items ≡ 0 → (from_monitor o (plan_monitors h db ms)).items ≡ 0
    by None rest = rest
    by (Some d) rest = refl
