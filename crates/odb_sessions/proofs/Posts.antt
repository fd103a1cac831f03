-- The code's map of sessions changes at one session as the finite map that it stands for, and posts are taken back.
use Rattle.std.proofs.Common.{◌≡◌, ℕ, Bool, true, false, cond, List, [], ◌∷◌, ◌++◌, Option, Some, None, Result, Ok, Err, refl, sym, ap, ◌∙◌, append_assoc}
use Rattle.std.specs.Prelude.{OnErr}
use Rattle.std.proofs.lemmas.List.{append-nil}
use Rattle.std.specs.Ordering.{eq_by_cmp, nat_cmp}
use Rattle.odb_atoms.specs.FinMap as finite
use Rattle.odb_atoms.specs.FinMap.{get, insert}
use Rattle.odb_sessions.specs.Marked.{MarkedItem, MarkedSession, Sessions}
use Rattle.odb_sessions.specs.Posts.{at_number, marked_unposted, with_item, with_items, without_newest}
use Rattle.odb_service.proofs.SessionMaps.{get-insert, key-itself, same_key, same_map}
use Rattle.odb_sessions.proofs.Newest.{last_dropped}

module _ {X : Type 0} (f : X → X) (m : finite.FinMap nat_cmp X) (s : ℕ) where
  abbrev found_at : Option X → finite.FinMap nat_cmp X
  found_at o = elim o as (λ _. finite.FinMap nat_cmp X) [ None ↦ m | Some x ↦ insert m s (f x) ]

  pub at_open : (x : X) → get m s ≡ Some x → at_number f m s ≡ insert m s (f x)
  at_open x there = ap found_at there

  pub at_shut : get m s ≡ None → at_number f m s ≡ m
  at_shut shut = ap found_at shut

-- a session that is put where it was
pub reinserted : (m : Sessions) (s : ℕ) (x : MarkedSession) → get m s ≡ Some x → insert m s x ≡ m
reinserted m s x there = same_map _ _ (λ q. get-insert m s x q ∙ by (eq_by_cmp nat_cmp q s) q refl)
  where
    by : (b : Bool) (q : ℕ) → eq_by_cmp nat_cmp q s ≡ b → cond b (Some x) (get m q) ≡ get m q
    by true q is = sym there ∙ ap (get m) (sym (same_key q s is))
    by false q is = refl

inserted_twice : (m : Sessions) (s : ℕ) (x y : MarkedSession) → insert (insert m s y) s x ≡ insert m s x
inserted_twice m s x y = same_map _ _ (λ q. get-insert (insert m s y) s x q ∙ ap (cond (eq_by_cmp nat_cmp q s) (Some x)) (get-insert m s y q) ∙ by (eq_by_cmp nat_cmp q s) q ∙ sym (get-insert m s x q))
  where
    by : (b : Bool) (q : ℕ) → cond b (Some x) (cond b (Some y) (get m q)) ≡ cond b (Some x) (get m q)
    by true q = refl
    by false q = refl

-- the same, where the inner one is the session that f makes what it was
undone : (f : MarkedSession → MarkedSession) (m : Sessions) (s : ℕ) (x y : MarkedSession) → get m s ≡ Some x → f y ≡ x → at_number f (insert m s y) s ≡ m
undone f m s x y there back =
    at_open f (insert m s y) s y (get-insert m s y s ∙ ap (λ b. cond b (Some y) (get m s)) (key-itself s))
    ∙ inserted_twice m s (f y) y ∙ ap (insert m s) back ∙ reinserted m s x there

pub marked_unposted-append : (ss : List ℕ) (s : ℕ) (m : Sessions) → marked_unposted (ss ++ s ∷ []) m ≡ marked_unposted ss (at_number without_newest m s)
marked_unposted-append [] s m = refl
marked_unposted-append (t ∷ ts) s m = ap (λ k. at_number without_newest k t) (marked_unposted-append ts s m)

-- an item that goes to the end is the newest
pushed_back : (q : MarkedItem) (x : MarkedSession) → without_newest (with_item q x) ≡ x
pushed_back q x = λ k. record { queue = last_dropped x.queue q k; monitors = x.monitors; watch = x.watch }

-- ---- one session is written

module _ (old : Sessions) (s : ℕ) where
  pub changed_at : (f : MarkedSession → MarkedSession) (x y : MarkedSession) → get old s ≡ Some x → y ≡ f x → insert old s y ≡ at_number f old s
  changed_at f x y there is = ap (insert old s) is ∙ sym (at_open f old s x there)

  pub unchanged_at : (f : MarkedSession → MarkedSession) → get old s ≡ None → old ≡ at_number f old s
  unchanged_at f shut = sym (at_shut f old s shut)

  pub kept_at : (x y : MarkedSession) → get old s ≡ Some x → y ≡ x → insert old s y ≡ old
  kept_at x y there is = ap (insert old s) is ∙ reinserted old s x there

  -- an item that was put at the end is taken back
  pub taken_off : (x y : MarkedSession) (q : MarkedItem) → get old s ≡ Some x → y ≡ with_item q x → marked_unposted (s ∷ []) (insert old s y) ≡ old
  taken_off x y q there is = undone without_newest old s x y there (ap without_newest is ∙ pushed_back q x)

-- what holds whatever the result holds of an error
pub whatever : {A E : Type 0} (P : Type 0) (r : Result A E) → P → OnErr r P
whatever P (Ok x) p = tt
whatever P (Err e) p = p

-- ---- several items at one session

pub with_more : (q : MarkedItem) (qs : List MarkedItem) (m : Sessions) (s : ℕ) → at_number (with_items qs) (at_number (with_item q) m s) s ≡ at_number (with_items (q ∷ qs)) m s
with_more q qs m s = by (get m s) refl
  where
    by : (o : Option MarkedSession) → get m s ≡ o → at_number (with_items qs) (at_number (with_item q) m s) s ≡ at_number (with_items (q ∷ qs)) m s
    by None is =
        ap (λ (n : Sessions). at_number (with_items qs) n s) (at_shut (with_item q) m s is) ∙ at_shut (with_items qs) m s is
        ∙ sym (at_shut (with_items (q ∷ qs)) m s is)
    by (Some x) is =
        let y : MarkedSession = with_item q x in
        ap (λ (n : Sessions). at_number (with_items qs) n s) (at_open (with_item q) m s x is)
        ∙ at_open (with_items qs) (insert m s y) s y (get-insert m s y s ∙ ap (λ b. cond b (Some y) (get m s)) (key-itself s))
        ∙ inserted_twice m s (with_items qs y) y
        ∙ ap (insert m s) (λ i. let z : MarkedSession = record { queue = append_assoc x.queue (q ∷ []) qs i; monitors = x.monitors; watch = x.watch } in z)
        ∙ sym (at_open (with_items (q ∷ qs)) m s x is)

pub with_none : (m : Sessions) (s : ℕ) → at_number (with_items []) m s ≡ m
with_none m s = by (get m s) refl
  where
    by : (o : Option MarkedSession) → get m s ≡ o → at_number (with_items []) m s ≡ m
    by None is = at_shut (with_items []) m s is
    by (Some x) is =
        at_open (with_items []) m s x is ∙ ap (insert m s) (λ i. let z : MarkedSession = record { queue = append-nil x.queue i; monitors = x.monitors; watch = x.watch } in z)
        ∙ reinserted m s x is
