-- What is found for a commit is the database as it was after it.
use Rattle.std.proofs.Common.{◌≡◌, ℕ, zero, suc, ◌+◌, ◌*◌, ◌-◌, ◌/◌, ◌%◌, ◌≤◌, ◌<◌, ◌^◌, ◌==◌, arith, length, Bool, true, false, cond, not, ◌&&◌, List, [], ◌∷◌, ◌++◌, map, Option, Some, None, Ok, T, refl, sym, ◌∙◌, ap, subst}
use Rattle.std.proofs.lemmas.Bool.Decides.{nat_tests}
use Rattle.std.specs.Prelude.{filter, nat_le, nat_lt, option_and_then, option_to_list, slice_get, take}
use borrow.Author.Tests.{eq-eqb}
use Rattle.serde_json.specs.Data.{Data}
use Rattle.odb_rpc.specs.Message as message
use Rattle.odb_rpc.specs.Message.{Call, call_of, canceled, reply}
use Rattle.odb_atoms.proofs.Uuids.{number-uuid_from}
use Rattle.odb_atoms.specs.FinMap.{get, remove}
use Rattle.odb_atoms.specs.Uuid.{Uuid}
use Rattle.odb_law.proofs.EventSteps.{Stepped, run_carries}
use Rattle.odb_law.specs.Law.{IsFoundAgain}
use Rattle.odb_locks.specs.Locks.{drop_session, lock, steal, unlock}
use Rattle.odb_recent.specs.Recent.{commits_ago, number_of}
use Rattle.odb_service.proofs.OnlyPosts.{Rest, answers, cancels, changes, fails, locks, monitors, notes, posts, rest, takes_each}
use Rattle.odb_service.proofs.Splits.{Split}
use Rattle.odb_service.specs.Run.{Event, Sent, State, beginning, closed, once, opened, round, run, submitted, take_each, ticked}
use Rattle.odb_service.specs.Service.{Outcome, Service, ended, waiting}
use Rattle.odb_service.specs.Session.{Revision, content_after, newest_number, no_result, say, sync, to, with_content}
use Rattle.odb_service.specs.World.{Waiting, World, asked_of, at_moment, attempt, cancel_one, close, end_transaction, handle, is_due, is_of, locked, on_outcome, retry, retry_all, revision_of, split_first, tick, try_due, try_one, untried, watched, with_waiting}
use Rattle.odb_tables.specs.Database.{Db}
use Rattle.odb_wire.specs.Message.{id_of}

abbrev pub after_commit : Db → Revision → Revision
after_commit db r = record { db = db; commits = r.commits + 1; earlier = with_content r.db r.earlier }

-- ---- what each commit keeps, each event keeps

module _ (h : Service) (P : Revision → Type 0) (kept : (db : Db) (r : Revision) → P r → P (after_commit db r)) where
  abbrev Keeps : World → World → Type 0
  Keeps w v = P (revision_of w) → P (revision_of v)

  by_rest : (w v : World) → rest v ≡ rest w → Keeps w v
  by_rest w v e = subst (λ (r : Rest). P (record { db = r.0; commits = r.1; earlier = r.5 })) (sym e)

  ends : (s : ℕ) (d results : Data) (o : Option Db) (w : World) → Keeps w (end_transaction h s d results o w)
  ends s d results None w k = by_rest w (end_transaction h s d results None w) (answers h s d (reply (id_of d) results) w) k
  ends s d results (Some db) w k =
      let v : World = record w { db = db; commits = w.commits + 1; earlier = with_content w.db w.earlier } in
      by_rest v (end_transaction h s d results (Some db) w) (posts h s (map (λ k. sync k.id) (asked_of h (get w.sessions s)) ++ say (to d) (reply (id_of d) results) ∷ []) v) (kept db (revision_of w) k)

  outcomes : (p : Waiting) (o : Outcome) (w : World) → Keeps w (on_outcome h p o w).0
  outcomes p (ended results changed) w k = ends p.session p.request results changed w k
  outcomes p (waiting deadline) w k = k

  attempts : (p : Waiting) (w : World) → Keeps w (attempt h p w).0
  attempts p w = outcomes p _ w

  retries : (n : ℕ) (w : World) → Keeps w (retry h n w)
  retries zero w k = k
  retries (suc n) w k =
      elim (untried h w) as (λ o. P (revision_of (elim o as (λ _. World) [ None ↦ w | Some t ↦ retry h n (try_one h t w) ]))) [
        | None ↦ k
        | Some t ↦ retries n (try_one h t w) (attempts t.1 w k)
      ]

  retries_all : (w : World) → Keeps w (retry_all h w)
  retries_all w k = retries ((length w.waiting + 1) * (length w.waiting + 1)) w k

  dues : (ps : List Waiting) (w : World) → Keeps w (try_due h ps w)
  dues [] w k = k
  dues (p ∷ ps) w k =
      elim (is_due w.now p.deadline) as (λ b. P (revision_of (try_due h ps (cond b (with_waiting h (λ ps o. ps ++ option_to_list o) w.waiting (attempt h p w)) (record w { waiting = w.waiting ++ p ∷ [] }))))) [
        | true ↦ dues ps (with_waiting h (λ ps o. ps ++ option_to_list o) w.waiting (attempt h p w)) (attempts p w k)
        | false ↦ dues ps (record w { waiting = w.waiting ++ p ∷ [] }) k
      ]

  ticks : (now : ℕ) (w : World) → Keeps w (tick h now w)
  ticks now w k = let w0 : World = record (at_moment h now w) { waiting = [] } in retries_all (try_due h w.waiting w0) (dues w.waiting w0 k)

  cancelled : (s : ℕ) (o : Option (Split Waiting)) (w : World) → Keeps w (cancel_one h s o w)
  cancelled s None w k = k
  cancelled s (Some t) w k = let w0 : World = record w { waiting = t.0 ++ t.2 } in by_rest w0 (cancel_one h s (Some t) w) (fails h s t.1.request canceled w0) k

  handles : (s : ℕ) (d : Data) (fresh : List Uuid) (c : Call) (w : World) → Keeps w (handle h s d fresh c w)
  handles s d fresh (message.answered m) w k = by_rest w (handle h s d fresh (message.answered m) w) (answers h s d m w) k
  handles s d fresh (message.transact id ops) w k =
      let p : Waiting = record { session = s; request = d; operations = ops; fresh = fresh; arrival = w.now; deadline = None; tried = w.commits } in
      retries_all (with_waiting h (λ ps o. ps ++ option_to_list o) w.waiting (attempt h p w)) (attempts p w k)
  handles s d fresh (message.monitor id n i requests since) w k = by_rest w (handle h s d fresh (message.monitor id n i requests since) w) (monitors h s d n i since requests w) k
  handles s d fresh (message.change_filters id old new filters) w k =
      by_rest w (handle h s d fresh (message.change_filters id old new filters) w) (changes h s d old new filters (watched h old (asked_of h (get w.sessions s))) w) k
  handles s d fresh (message.cancel_monitor id i) w k = by_rest w (handle h s d fresh (message.cancel_monitor id i) w) (cancels h s d i (watched h i (asked_of h (get w.sessions s))) w) k
  handles s d fresh (message.lock id name) w k = by_rest w (handle h s d fresh (message.lock id name) w) (locks h s d (locked h) (lock w.locks s name) w) k
  handles s d fresh (message.steal id name) w k = by_rest w (handle h s d fresh (message.steal id name) w) (locks h s d (locked h) (steal w.locks s name) w) k
  handles s d fresh (message.unlock id name) w k = by_rest w (handle h s d fresh (message.unlock id name) w) (locks h s d (λ b. no_result) (unlock w.locks s name) w) k
  handles s d fresh (message.cancel id) w k = cancelled s (split_first (is_of h s id) w.waiting) w k
  handles s d fresh message.passed_over w k = k

  closes : (t : ℕ) (w : World) → Keeps w (close h t w)
  closes t w k =
      let v : World = record w { locks = (drop_session w.locks t).0; sessions = remove w.sessions t; waiting = filter (λ p. not (p.session == t)) w.waiting } in
      by_rest v (close h t w) (notes h (drop_session w.locks t).1 v) k

  stepped_keeps : (e : Event) (st : State) (r : World × List Sent) → P (revision_of st.world) → Stepped h e st.world r → P (revision_of r.0)
  stepped_keeps (opened t) st r k is = subst (λ (p : World × List Sent). P (revision_of p.0)) is.1 k
  stepped_keeps (submitted t d fresh now) st r k is = subst (λ (p : World × List Sent). P (revision_of p.0)) is.2 (handles t d fresh (call_of h.db_name h.schema h.serves d) (at_moment h now st.world) k)
  stepped_keeps (ticked now) st r k is = subst (λ (p : World × List Sent). P (revision_of p.0)) is (ticks now st.world k)
  stepped_keeps (closed t) st r k is = subst (λ (p : World × List Sent). P (revision_of p.0)) is (closes t st.world k)
  stepped_keeps (round ss) st r k is = subst (λ (p : World × List Sent). P (revision_of p.0)) is (by_rest st.world (take_each h (once ss) st.world).0 (takes_each h (once ss) st.world) k)

  pub run_keeps : (es : List Event) (st now : State) → P (revision_of st.world) → run h es st ≡ Ok now → P (revision_of now.world)
  run_keeps es st now k e = run_carries h (λ st. P (revision_of st.world)) stepped_keeps es st now k e

-- ---- which commit a number names

abbrev fits : ℕ → ℕ → Bool
fits word k = nat_lt (word * 2 ^ 64 + k) (2 ^ 128)

abbrev is_named : ℕ → ℕ → ℕ → ℕ → ℕ → Bool
is_named most word commits w k = w == word && nat_le 1 k && nat_le k commits && nat_lt (commits - k) most

all_true : (a b c d : Bool) → a ≡ true → b ≡ true → c ≡ true → d ≡ true → (a && b && c && d) ≡ true
all_true a b c d p q r s = λ i. p i && q i && r i && s i

-- so many commits ago
named : (most word commits k : ℕ) → word < 2 ^ 64 → k < 2 ^ 64 → 1 ≤ k → k ≤ commits → commits - k < most → commits_ago most word commits (number_of word k) ≡ Some (commits - k)
named most word commits k small below first there kept =
    let in_range : fits word k ≡ true = grind (arith, nat_tests) in
    let number : (number_of word k).number ≡ word * 2 ^ 64 + k = number-uuid_from (word * 2 ^ 64 + k) (subst T (sym in_range) tt) in
    let upper : (word * 2 ^ 64 + k) / 2 ^ 64 ≡ word = omega (arith, below) in
    let lower : (word * 2 ^ 64 + k) % 2 ^ 64 ≡ k = omega (arith, below) in
    let b : nat_le 1 k ≡ true = grind (arith, nat_tests) in
    let c : nat_le k commits ≡ true = grind (arith, nat_tests) in
    let d : nat_lt (commits - k) most ≡ true = grind (arith, nat_tests) in
    (λ i. let w : ℕ = (ap (λ n. n / 2 ^ 64) number ∙ upper) i in let j : ℕ = (ap (λ n. n % 2 ^ 64) number ∙ lower) i in cond (is_named most word commits w j) (Some (commits - j)) None)
    ∙ ap (λ t. cond t (Some (commits - k)) None) (all_true (word == word) (nat_le 1 k) (nat_le k commits) (nat_lt (commits - k) most) (eq-eqb word word refl) b c d)

-- ---- what is found

slice_take : {A : Type 0} (most n : ℕ) (xs : List A) → n < most → slice_get (take most xs) n ≡ slice_get xs n
slice_take zero n xs l = absurd (omega (arith, l))
slice_take (suc most) n [] l = refl
slice_take (suc most) zero (x ∷ xs) l = refl
slice_take (suc most) (suc n) (x ∷ xs) l = slice_take most n xs (omega (arith, l))

abbrev IsOfRun : ℕ → ℕ → Revision → Type 0
IsOfRun word most r = (r.earlier.run ≡ word) × (r.earlier.most ≡ most)

-- so many commits after this one, its content is found as long as it is one of the last
abbrev IsSoFarAfter : ℕ → Revision → ℕ → Revision → Type 0
IsSoFarAfter most old n r = (r.commits ≡ old.commits + n) × (n < most → slice_get (r.db ∷ r.earlier.contents) n ≡ Some old.db)

abbrev IsAfter : ℕ → ℕ → Revision → Revision → Type 0
IsAfter word most old r = IsOfRun word most r × ((n : ℕ) × IsSoFarAfter most old n r)

one_later : (most : ℕ) (old : Revision) (db : Db) (r : Revision) (n : ℕ) → r.earlier.most ≡ most → IsSoFarAfter most old n r → IsSoFarAfter most old (suc n) (after_commit db r)
one_later most old db r n same k = (
  (let e : r.commits ≡ old.commits + n = k.0 in omega (arith, e)),
  λ l.
      ap (λ m. slice_get (take (m - 1) (r.db ∷ r.earlier.contents)) n) same
      ∙ slice_take (most - 1) n (r.db ∷ r.earlier.contents) (omega (arith, l))
      ∙ k.1 (omega (arith, l)),
)

commit_after : (word most : ℕ) (old : Revision) (db : Db) (r : Revision) → IsAfter word most old r → IsAfter word most old (after_commit db r)
commit_after word most old db r k = (k.0, (suc k.1.0, one_later most old db r k.1.0 k.0.1 k.1.1))

found_at : (word most : ℕ) (old now : Revision) → IsOfRun word most old → IsAfter word most old now → word < 2 ^ 64 → now.commits < 2 ^ 64 → 1 ≤ old.commits → now.commits - old.commits < most
    → content_after now (newest_number old) ≡ Some old.db
found_at word most old now of k small below first kept =
    let n : ℕ = k.1.0 in
    let later : now.commits ≡ old.commits + n = k.1.1.0 in
    let old_below : old.commits < 2 ^ 64 = omega (arith, below, later) in
    let there : old.commits ≤ now.commits = omega (arith, later) in
    let ago : now.commits - old.commits ≡ n = omega (arith, later) in
    let close : n < most = omega (arith, kept, later) in
    (λ i. option_and_then (λ ago. slice_get (now.db ∷ now.earlier.contents) ago) (commits_ago (k.0.1 i) (k.0.0 i) now.commits (number_of (of.0 i) old.commits)))
    ∙ ap (option_and_then (λ ago. slice_get (now.db ∷ now.earlier.contents) ago)) (named most word now.commits old.commits small old_below first there kept)
    ∙ ap (slice_get (now.db ∷ now.earlier.contents)) ago
    ∙ k.1.1.1 close

module _ (h : Service) where
  pub is_found_again : IsFoundAgain h
  is_found_again word most tables first later old now begins goes small below some kept =
      let of : IsOfRun word most (revision_of old.world) = run_keeps h (IsOfRun word most) (λ db r k. k) first (beginning word most tables) old (refl, refl) begins in
      let zero_later : old.world.commits ≡ old.world.commits + 0 = omega arith in
      let k : IsAfter word most (revision_of old.world) (revision_of now.world) = run_keeps h (IsAfter word most (revision_of old.world)) (commit_after word most (revision_of old.world)) later old now (of, (0, (zero_later, λ l. refl))) goes in
      found_at word most (revision_of old.world) (revision_of now.world) of k small below some kept
