-- A session in place of another one under its number, while marks are made or given back.
use Rattle.std.proofs.Common.{◌≡◌, ℕ, ◌+◌, ◌≤◌, arith, Bool, true, false, cond, List, [], ◌∷◌, ◌++◌, Option, Some, None, option_and_then, refl, sym, ap, subst, ◌∙◌}
use Rattle.std.proofs.lemmas.List.{append-nil}
use Rattle.std.proofs.lemmas.Option.{none-some, same_Some}
use Rattle.std.specs.Ordering.{eq_by_cmp, nat_cmp}
use Rattle.odb_atoms.specs.FinMap as finite
use Rattle.odb_chain.specs.Chains.{Chains, IsNow, Mark, count}
use Rattle.odb_service.proofs.SessionMaps.{get-insert, key-itself}
use Rattle.odb_sessions.specs.Marked.{MarkedItem, MarkedSession, Sessions, marks_due, marks_of}
use Rattle.odb_sessions.specs.Posts.{at_number, newest, newest_at, with_item, without_newest}
use Rattle.odb_sessions.specs.Tied.{Adds, AreLive, Frees, HasAll, IsTied, KeepsContents, used, uses}
use Rattle.odb_sessions.proofs.Adds.{held_live, keeps_made, live_joined}
use Rattle.odb_sessions.proofs.Newest.{marks-with, marks-without, nothing_newest}
use Rattle.odb_sessions.proofs.Posts.{at_open, at_shut, reinserted}
use Rattle.odb_sessions.proofs.Releases.{live-left, live-right, still_live, uses-++}
use Rattle.odb_sessions.proofs.Sums.{slot}
use Rattle.odb_sessions.proofs.Ties.{used-insert, used_within, weight}
use Rattle.odb_sessions.specs.Watches.{KeepsWatch}
use Rattle.odb_sessions.proofs.WatchNumbers.{alike_put, joins_kept, keeps_so}

get-itself : (m : Sessions) (s : ℕ) (x : MarkedSession) → finite.get (finite.insert m s x) s ≡ Some x
get-itself m s x = get-insert m s x s ∙ ap (λ b. cond b (Some x) (finite.get m s)) (key-itself s)

module _ (k new : Chains) (m : Sessions) (s : ℕ) (x y : MarkedSession) (h : IsTied k m) (there : finite.get m s ≡ Some x) (sums : (t p : ℕ) → count new t p + weight t p x ≡ count k t p + weight t p y) (keeps : KeepsContents k new) (now : IsNow new) where
  counted : (t p : ℕ) → count new t p ≡ used t p (finite.insert m s y)
  counted t p =
      let own : used t p (finite.insert m s y) + slot (weight t p) (Some x) ≡ used t p m + weight t p y = ap (λ o. used t p (finite.insert m s y) + slot (weight t p) o) (sym there) ∙ used-insert t p m s y in
      let all : count k t p ≡ used t p m = h.1 t p in
      let sum : count new t p + weight t p x ≡ count k t p + weight t p y = sums t p in
      omega (arith, own, all, sum)

  -- marks that a session of the new map has
  lives : (q : ℕ) (z : MarkedSession) → finite.get (finite.insert m s y) q ≡ Some z → AreLive k (marks_of z) → AreLive new (marks_of z)
  lives q z at live =
      still_live k new (marks_of z) keeps live
      (λ t p. let within : weight t p z ≤ used t p (finite.insert m s y) = used_within t p (finite.insert m s y) q z at in let sum : count new t p ≡ used t p (finite.insert m s y) = counted t p in omega (arith, within, sum))

  pub tied_moved : AreLive new (marks_of y) → KeepsWatch x y → IsTied new (finite.insert m s y)
  tied_moved own same = (now, counted, (λ q z at. by q z (eq_by_cmp nat_cmp q s) refl (sym (get-insert m s y q) ∙ at) at), alike_put m s y h.3 (joins_kept m s x y h.3 there same))
    where
      by : (q : ℕ) (z : MarkedSession) (b : Bool) → eq_by_cmp nat_cmp q s ≡ b → cond b (Some y) (finite.get m q) ≡ Some z → finite.get (finite.insert m s y) q ≡ Some z → AreLive new (marks_of z)
      by q z true is found at = subst (λ (w : MarkedSession). AreLive new (marks_of w)) (same_Some y z found) own
      by q z false is found at = lives q z at (h.2 q z found)

-- ---- marks of one session are given back

pub has_some : (k : Chains) (m : Sessions) (s : ℕ) (x : MarkedSession) (kept gone : List Mark) → IsTied k m → finite.get m s ≡ Some x → marks_of x ≡ kept ++ gone → HasAll k gone
has_some k m s x kept gone h there is = (
  live-right k kept gone (subst (AreLive k) is (h.2 s x there)),
  λ t p.
      let within : weight t p x ≤ used t p m = used_within t p m s x there in
      let counted : count k t p ≡ used t p m = h.1 t p in
      let sum : weight t p x ≡ uses t p kept + uses t p gone = ap (uses t p) is ∙ uses-++ t p kept gone in
      omega (arith, within, counted, sum),
)

pub tied_less : (k new : Chains) (m : Sessions) (s : ℕ) (x y : MarkedSession) (gone : List Mark) → IsTied k m → finite.get m s ≡ Some x → marks_of x ≡ marks_of y ++ gone → Frees k new gone → KeepsWatch x y → IsTied new (finite.insert m s y)
tied_less k new m s x y gone h there is f same = tied_moved k new m s x y h there sums f.3 (f.4 h.0) (lives k new m s x y h there sums f.3 (f.4 h.0) s y (get-itself m s y) (live-left k (marks_of y) gone (subst (AreLive k) is (h.2 s x there)))) same
  where
    sums : (t p : ℕ) → count new t p + weight t p x ≡ count k t p + weight t p y
    sums t p =
        let sum : weight t p x ≡ weight t p y + uses t p gone = ap (uses t p) is ∙ uses-++ t p (marks_of y) gone in
        let less : count k t p ≡ count new t p + uses t p gone = f.2 t p in
        omega (arith, sum, less)

-- ---- marks are made for one session

pub tied_more : (k new : Chains) (m : Sessions) (s : ℕ) (x y : MarkedSession) (made : List Mark) → IsTied k m → finite.get m s ≡ Some x → marks_of y ≡ marks_of x ++ made → Adds k new made → KeepsWatch x y → IsTied new (finite.insert m s y)
tied_more k new m s x y made h there is f same = tied_moved k new m s x y h there sums (keeps_made k new f.4) f.6 (subst (AreLive new) (sym is) (live_joined new (marks_of x) made (held_live k new (marks_of x) f.4 (h.2 s x there)) f.5)) same
  where
    sums : (t p : ℕ) → count new t p + weight t p x ≡ count k t p + weight t p y
    sums t p =
        let sum : weight t p y ≡ weight t p x + uses t p made = ap (uses t p) is ∙ uses-++ t p (marks_of x) made in
        let more : count new t p ≡ count k t p + uses t p made = f.3 t p in
        omega (arith, sum, more)

-- an item with new marks goes to the end of a queue
pub tied_handed : (k new : Chains) (m : Sessions) (s : ℕ) (q : MarkedItem) → IsTied k m → (x : MarkedSession) → finite.get m s ≡ Some x → Adds k new (marks_due q) → IsTied new (at_number (with_item q) m s)
tied_handed k new m s q h x there f =
    subst (IsTied new) (sym (at_open (with_item q) m s x there))
    (tied_more k new m s x (with_item q x) (marks_due q) h there (marks-with (q ∷ []) x ∙ ap (λ ms. marks_of x ++ ms) (append-nil (marks_due q))) f (keeps_so x (with_item q x) refl refl))

-- marks that were made are given back
pub given_back : (k made new : Chains) (m : Sessions) (ms : List Mark) → IsTied k m → Adds k made ms → Frees made new ms → IsTied new m
given_back k made new m ms h f g = (
  g.4 f.6,
  counted,
  (
      λ s x there.
      still_live made new (marks_of x) g.3 (held_live k made (marks_of x) f.4 (h.2 s x there))
      (λ t p. let within : weight t p x ≤ used t p m = used_within t p m s x there in let sum : count new t p ≡ used t p m = counted t p in omega (arith, within, sum))
      ),
  h.3,
)
  where
    counted : (t p : ℕ) → count new t p ≡ used t p m
    counted t p =
        let all : count k t p ≡ used t p m = h.1 t p in
        let more : count made t p ≡ count k t p + uses t p ms = f.3 t p in
        let less : count made t p ≡ count new t p + uses t p ms = g.2 t p in
        omega (arith, all, more, less)

-- ---- the newest item of a queue is taken back

-- the session of which there is a newest item
pub newest_of : (m : Sessions) (s : ℕ) (q : MarkedItem) → newest_at m s ≡ Some q → (x : MarkedSession) × (finite.get m s ≡ Some x) × (newest x.queue ≡ Some q)
newest_of m s q e = by (finite.get m s) refl e
  where
    by : (o : Option MarkedSession) → finite.get m s ≡ o → option_and_then (λ x. newest x.queue) o ≡ Some q → (x : MarkedSession) × (finite.get m s ≡ Some x) × (newest x.queue ≡ Some q)
    by None is e = absurd (none-some q e)
    by (Some x) is e = (x, is, e)

pub tied_taken_back : (k new : Chains) (m : Sessions) (s : ℕ) (q : MarkedItem) → IsTied k m → newest_at m s ≡ Some q → Frees k new (marks_due q) → IsTied new (at_number without_newest m s)
tied_taken_back k new m s q h e f =
    let found : (x : MarkedSession) × (finite.get m s ≡ Some x) × (newest x.queue ≡ Some q) = newest_of m s q e in
    subst (IsTied new) (sym (at_open without_newest m s found.0 found.1))
    (tied_less k new m s found.0 (without_newest found.0) (marks_due q) h found.1 (marks-without found.0 q found.2) f (keeps_so found.0 (without_newest found.0) refl refl))

pub has_newest : (k : Chains) (m : Sessions) (s : ℕ) (q : MarkedItem) → IsTied k m → newest_at m s ≡ Some q → HasAll k (marks_due q)
has_newest k m s q h e =
    let found : (x : MarkedSession) × (finite.get m s ≡ Some x) × (newest x.queue ≡ Some q) = newest_of m s q e in
    has_some k m s found.0 (marks_of (without_newest found.0)) (marks_due q) h found.1 (marks-without found.0 q found.2)

-- where there is none, nothing changes
pub none_taken_back : (m : Sessions) (s : ℕ) → newest_at m s ≡ None → at_number without_newest m s ≡ m
none_taken_back m s e = by (finite.get m s) refl e
  where
    by : (o : Option MarkedSession) → finite.get m s ≡ o → option_and_then (λ x. newest x.queue) o ≡ None → at_number without_newest m s ≡ m
    by None is e = at_shut without_newest m s is
    by (Some x) is e = at_open without_newest m s x is ∙ ap (finite.insert m s) (nothing_newest x e) ∙ reinserted m s x is
