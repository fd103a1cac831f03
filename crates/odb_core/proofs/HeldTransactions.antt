-- What goes on waiting as the machine tries those that wait: each that was tried at the newest commit is stuck.
use Rattle.std.proofs.Common.{◌≡◌, ℕ, zero, suc, ◌+◌, ◌==◌, ◌≤◌, Bool, true, false, cond, not, List, [], ◌∷◌, ◌++◌, Option, Some, None, refl, sym, subst, true≢false, arith}
use Rattle.std.specs.Prelude.{IfSome, filter, option_to_list}
use Rattle.std.specs.Cmp.{unsigned_Decides}
use Rattle.std.specs.List.{AllByRecursion, remove}
use Rattle.odb_commit.specs.Transaction as transaction
use Rattle.odb_commit.specs.Transaction.{transact}
use Rattle.odb_locks.specs.Locks.{owns}
use Rattle.odb_schema.specs.Json.{Data, array_of}
use Rattle.odb_schema.specs.Schema.{Schema}
use Rattle.odb_service.proofs.Each.{Each, none_passes}
use Rattle.odb_service.proofs.Splits.{Split, split_parts}
use Rattle.odb_service.specs.Server.{served_by}
use Rattle.odb_service.specs.Service.{Service, outcome_of}
use Rattle.odb_service.specs.Session.{Item, Session, with_content}
use Rattle.odb_service.specs.World.{Waiting, World, attempt, end_transaction, is_due, is_untried, on_outcome, post_to, retry, retry_all, split_first, try_due, try_one, untried, with_waiting}
use Rattle.odb_tables.specs.Change.{is_changed}
use Rattle.odb_tables.specs.Database.{Db}
use Rattle.odb_core.specs.Stuck.{AreStuck, IsStuckIf, comes_to}
use Rattle.odb_core.proofs.StuckTransactions.{stuck_here}

-- ---- lists

module _ {A : Type 0} (P : A → Type 0) where
  pub all_append : (xs ys : List A) → AllByRecursion P xs → AllByRecursion P ys → AllByRecursion P (xs ++ ys)
  all_append [] ys h k = k
  all_append (x ∷ xs) ys h k = (h.0, all_append xs ys h.1 k)

  pub all_front : (xs ys : List A) → AllByRecursion P (xs ++ ys) → AllByRecursion P xs
  all_front [] ys h = tt
  all_front (x ∷ xs) ys h = (h.0, all_front xs ys h.1)

  pub all_back : (xs ys : List A) → AllByRecursion P (xs ++ ys) → AllByRecursion P ys
  all_back [] ys h = h
  all_back (x ∷ xs) ys h = all_back xs ys h.1

  pub all_filter : (p : A → Bool) (xs : List A) → AllByRecursion P xs → AllByRecursion P (filter p xs)
  all_filter p [] h = tt
  all_filter p (x ∷ xs) h = elim (p x) as (λ b. AllByRecursion P (cond b (x ∷ filter p xs) (filter p xs))) [ true ↦ (h.0, all_filter p xs h.1) | false ↦ all_filter p xs h.1 ]

  pub all_removed : (xs : List A) (k : ℕ) → AllByRecursion P xs → AllByRecursion P (remove xs k)
  all_removed [] zero h = tt
  all_removed [] (suc k) h = tt
  all_removed (x ∷ xs) zero h = h.1
  all_removed (x ∷ xs) (suc k) h = (h.0, all_removed xs k h.1)

all_so : {A : Type 0} (P Q : A → Type 0) → ((x : A) → P x → Q x) → (xs : List A) → AllByRecursion P xs → AllByRecursion Q xs
all_so P Q f [] h = tt
all_so P Q f (x ∷ xs) h = (f x h.0, all_so P Q f xs h.1)

all_given : {A : Type 0} (P Q R : A → Type 0) → ((x : A) → P x → Q x → R x) → (xs : List A) → Each P xs → AllByRecursion Q xs → AllByRecursion R xs
all_given P Q R f [] h k = tt
all_given P Q R f (x ∷ xs) h k = (f x h.0 k.0, all_given P Q R f xs h.1 k.1)

-- ---- those that wait

-- tried at no later commit, and where it was at the newest it is stuck
abbrev pub IsHeld : Schema → Db → ℕ → Waiting → Type 0
IsHeld s db commits p = (p.tried ≤ commits) × (p.tried ≡ commits → IsStuckIf s db p)

abbrev pub AllHeld : Schema → World → List Waiting → Type 0
AllHeld s w ps = AllByRecursion (IsHeld s w.db w.commits) ps

abbrev pub AreHeld : Schema → World → Type 0
AreHeld s w = AllHeld s w w.waiting

-- one that was tried
was_tried : (commits : ℕ) (p : Waiting) → is_untried commits p ≡ false → p.tried ≡ commits
was_tried commits p e = (unsigned_Decides p.tried commits).0 (by (p.tried == commits) e)
  where
    by : (b : Bool) → not b ≡ false → b ≡ true
    by true e = refl
    by false e = absurd (true≢false e)

-- where each was tried since the newest commit, they are held if they are stuck, and stuck if they are held
pub held : (s : Schema) (w : World) (ps : List Waiting) → split_first (is_untried w.commits) ps ≡ None → AreStuck s w.db ps → AllHeld s w ps
held s w ps tried stuck =
    all_given (λ p. is_untried w.commits p ≡ false) (IsStuckIf s w.db) (IsHeld s w.db w.commits) (λ p isnt h. let at : p.tried ≡ w.commits = was_tried w.commits p isnt in (omega (arith, at), λ _. h)) ps
    (none_passes (is_untried w.commits) ps tried) stuck

pub stuck_now : (s : Schema) (w : World) (ps : List Waiting) → split_first (is_untried w.commits) ps ≡ None → AllHeld s w ps → AreStuck s w.db ps
stuck_now s w ps tried h =
    all_given (λ p. is_untried w.commits p ≡ false) (IsHeld s w.db w.commits) (IsStuckIf s w.db) (λ p isnt h. h.1 (was_tried w.commits p isnt)) ps
    (none_passes (is_untried w.commits) ps tried) h

module _ (s : Schema) where
  abbrev h : Service
  h = served_by s

  -- posting changes neither the database nor its commits
  posted : (n : ℕ) (is : List Item) (o : Option Session) (w : World) (ps : List Waiting) → AllHeld s w ps → AllHeld s (post_to n is o w) ps
  posted n is None w ps k = k
  posted n is (Some x) w ps k = k

  -- nor those that wait
  posted_waiting : (n : ℕ) (is : List Item) (o : Option Session) (w : World) → (post_to n is o w).waiting ≡ w.waiting
  posted_waiting n is None w = refl
  posted_waiting n is (Some x) w = refl

  -- after a commit each was tried before it
  passed : (old new : Db) (commits : ℕ) (ps : List Waiting) → AllByRecursion (IsHeld s old commits) ps → AllByRecursion (IsHeld s new (commits + 1)) ps
  passed old new commits ps k = all_so (IsHeld s old commits) (IsHeld s new (commits + 1)) (λ p h. let few : p.tried ≤ commits = h.0 in (omega (arith, few), λ e. absurd (let never : ⊥ = omega (arith, few, e) in never))) ps k

  -- one that ends
  pub ends_held : (n : ℕ) (d r : Data) (o : Option Db) (w : World) (ps : List Waiting) → AllHeld s w ps → AllHeld s (end_transaction h n d r o w) ps
  ends_held n d r None w ps k = posted n _ _ w ps k
  ends_held n d r (Some db) w ps k = posted n _ _ (record w { db = db; commits = w.commits + 1; earlier = with_content w.db w.earlier }) ps (passed w.db db w.commits ps k)

  pub ended_held : (n : ℕ) (d r : Data) (o : Option Db) (w : World) → AreHeld s w → AreHeld s (end_transaction h n d r o w)
  ended_held n d r o w k = ends_held n d r o w _ (subst (AllHeld s w) (sym (left_waiting o)) k)
    where
      left_waiting : (o : Option Db) → (end_transaction h n d r o w).waiting ≡ w.waiting
      left_waiting None = posted_waiting n _ _ w
      left_waiting (Some db) = posted_waiting n _ _ (record w { db = db; commits = w.commits + 1; earlier = with_content w.db w.earlier })

  abbrev Tried : Type 0
  Tried = World × Option Waiting

  abbrev Leaves : List Waiting → Tried → Type 0
  Leaves ps r = AllHeld s (r.0) ps × IfSome r.1 (IsHeld s r.0.db r.0.commits)

  -- one that is tried
  pub tries_held : (p : Waiting) (w : World) (ps : List Waiting) → AllHeld s w ps → Leaves ps (attempt h p w)
  tries_held p w ps k = by (comes_to s p w.db (w.commits + 1) w.now (owns w.locks p.session)) refl
    where
      by : (o : transaction.Outcome) → comes_to s p w.db (w.commits + 1) w.now (owns w.locks p.session) ≡ o → Leaves ps (on_outcome h p (outcome_of w.db o) w)
      by (transaction.done results new) e = (ends_held p.session p.request (array_of results) (cond (is_changed w.db new) (Some new) None) w ps k, tt)
      by (transaction.refused results) e = (ends_held p.session p.request (array_of results) None w ps k, tt)
      by (transaction.waiting moment) e = (k, (let few : w.commits ≤ w.commits = omega arith in few, λ _ rests. stuck_here s p w.db (w.commits + 1) w.now w.commits (owns w.locks p.session) moment rests e))

  one_left : (w : World) (o : Option Waiting) → IfSome o (IsHeld s w.db w.commits) → AllHeld s w (option_to_list o)
  one_left w None k = tt
  one_left w (Some q) k = (k, tt)

  one_held : (w : World) (t : Split Waiting) → AllHeld s w t.0 → AllHeld s w t.2 → AreHeld s (try_one h t w)
  one_held w t before after =
      let r : Tried = attempt h t.1 w in
      let a : Leaves t.0 r = tries_held t.1 w t.0 before in
      let b : Leaves t.2 r = tries_held t.1 w t.2 after in
      all_append (IsHeld s r.0.db r.0.commits) (t.0 ++ option_to_list r.1) t.2 (all_append (IsHeld s r.0.db r.0.commits) t.0 (option_to_list r.1) a.0 (one_left r.0 r.1 a.1)) b.0

  retry_step : (n : ℕ) (w : World) → AreHeld s w → ((v : World) → AreHeld s v → AreHeld s (retry h n v)) → (o : Option (Split Waiting)) → untried h w ≡ o
      → AreHeld s (elim o as (λ _. World) [ None ↦ w | Some t ↦ retry h n (try_one h t w) ])
  retry_step n w k ih None e = k
  retry_step n w k ih (Some t) e =
      let parts : w.waiting ≡ t.0 ++ t.1 ∷ t.2 = (split_parts (is_untried w.commits) w.waiting t e).0 in
      let all : AllHeld s w (t.0 ++ t.1 ∷ t.2) = subst (AllHeld s w) parts k in
      let P : Waiting → Type 0 = IsHeld s w.db w.commits in
      ih (try_one h t w) (one_held w t (all_front P t.0 (t.1 ∷ t.2) all) (all_back P t.0 (t.1 ∷ t.2) all).1)

  retry_held : (n : ℕ) (w : World) → AreHeld s w → AreHeld s (retry h n w)
  retry_held zero w k = k
  retry_held (suc n) w k = retry_step n w k (retry_held n) (untried h w) refl

  pub retried_held : (w : World) → AreHeld s w → AreHeld s (retry_all h w)
  retried_held w k = retry_held _ w k

  due_step : (p : Waiting) (ps : List Waiting) (w : World) → AreHeld s w → AllHeld s w (p ∷ ps) → ((v : World) → AreHeld s v → AllHeld s v ps → AreHeld s (try_due h ps v)) → (b : Bool)
      → AreHeld s (try_due h ps (cond b (with_waiting h (λ ps o. ps ++ option_to_list o) w.waiting (attempt h p w)) (record w { waiting = w.waiting ++ p ∷ [] })))
  due_step p ps w k m ih true =
      let r : Tried = attempt h p w in
      let a : Leaves w.waiting r = tries_held p w w.waiting k in
      let b : Leaves ps r = tries_held p w ps m.1 in
      ih (record (r.0) { waiting = w.waiting ++ option_to_list r.1 }) (all_append (IsHeld s r.0.db r.0.commits) w.waiting (option_to_list r.1) a.0 (one_left r.0 r.1 a.1)) b.0
  due_step p ps w k m ih false = ih (record w { waiting = w.waiting ++ p ∷ [] }) (all_append (IsHeld s w.db w.commits) w.waiting (p ∷ []) k (m.0, tt)) m.1

  -- those whose deadline has come
  pub due_held : (ps : List Waiting) (w : World) → AreHeld s w → AllHeld s w ps → AreHeld s (try_due h ps w)
  due_held [] w k m = k
  due_held (p ∷ ps) w k m = due_step p ps w k m (due_held ps) (is_due w.now p.deadline)

  -- ---- what is left after an event is stuck

  pub committed_stuck : (n : ℕ) (d r : Data) (db : Db) (w : World) → untried h w ≡ None → AreStuck s w.db w.waiting
      → (let u = retry_all h (end_transaction h n d r (Some db) w) in untried h u ≡ None → AreStuck s u.db u.waiting)
  committed_stuck n d r db w before stuck after =
      let v : World = end_transaction h n d r (Some db) w in
      let u : World = retry_all h v in
      stuck_now s u u.waiting after (retried_held v (ended_held n d r (Some db) w (held s w w.waiting before stuck)))

  pub due_stuck : (w : World) → untried h w ≡ None → AreStuck s w.db w.waiting
      → (let u = retry_all h (try_due h w.waiting (record w { waiting = [] })) in untried h u ≡ None → AreStuck s u.db u.waiting)
  due_stuck w before stuck after =
      let v : World = try_due h w.waiting (record w { waiting = [] }) in
      let u : World = retry_all h v in
      stuck_now s u u.waiting after (retried_held v (due_held w.waiting (record w { waiting = [] }) tt (held s w w.waiting before stuck)))
