-- Items that are used up one by one, and then monitors that are brought to now: sessions, texts, marks and room.
use Rattle.std.proofs.Common.{◌≡◌, ℕ, zero, suc, ◌+◌, ◌≤◌, arith, false, cond, List, [], ◌∷◌, ◌++◌, drop, flat_map, map, slice_get, None, Result, Ok, Err, refl, sym, ap, subst, ◌∙◌, append_assoc, true≢false}
use Rattle.std.specs.Prelude.{OnOk, is_err, option_and_then}
use Rattle.odb_chain.specs.Chains.{Chains, Mark}
use Rattle.std.proofs.lemmas.List.Sums.{sum_by-cons}
use Rattle.odb_service.specs.Service.{Service}
use Rattle.odb_service.specs.Session.{Item, Monitor, Session, is_answer, label, leaves, replies_in}
use Rattle.odb_sessions.specs.Carried.{Carries, IsReady, all_begin, begins, finished_in, last_finished, used_by, used_up}
use Rattle.odb_sessions.specs.Marked.{MarkedItem, MarkedMonitor, due, item_seen, marks_due, marks_of, plain}
use Rattle.odb_sessions.proofs.Carried.{carried_among, carried_from, flat, ready_part, ready_turned, turned_uses}
use Rattle.odb_tables.specs.Database.{Db}

-- ---- sessions

module _ (h : Service) (db : Db) where
  -- with an empty queue no item is used up
  dry : (n : ℕ) (ms : List Monitor) → used_up h db n 0 [] ms ≡ record { queue = []; monitors = ms }
  dry zero ms = refl
  dry (suc n) ms = refl

  more : (n : ℕ) (is : List Item) (ms : List Monitor) → used_up h db (suc n) 0 is ms ≡ used_by h db 1 0 (used_up h db n 0 is ms)
  more zero [] ms = refl
  more zero (i ∷ is) ms = refl
  more (suc n) [] ms = refl
  more (suc n) (i ∷ is) ms = more n is (leaves h db i ms)

  pub used_more : (n : ℕ) (x : Session) → used_by h db (n + 1) 0 x ≡ used_by h db 1 0 (used_by h db n 0 x)
  used_more n x = let next : n + 1 ≡ suc n = omega arith in ap (λ m. used_by h db m 0 x) next ∙ more n x.queue x.monitors

  both : (n k : ℕ) (is : List Item) (ms : List Monitor) → used_by h db 0 k (used_up h db n 0 is ms) ≡ used_up h db n k is ms
  both zero k is ms = refl
  both (suc n) k [] ms = refl
  both (suc n) k (i ∷ is) ms = both n k is (leaves h db i ms)

  pub used_both : (n k : ℕ) (x : Session) → used_by h db 0 k (used_by h db n 0 x) ≡ used_by h db n k x
  used_both n k x = both n k x.queue x.monitors

  left : (n : ℕ) (is : List Item) (ms : List Monitor) → (used_up h db n 0 is ms).queue ≡ drop n is
  left zero is ms = refl
  left (suc n) [] ms = refl
  left (suc n) (i ∷ is) ms = left n is (leaves h db i ms)

  pub used_left : (n : ℕ) (x : Session) → (used_by h db n 0 x).queue ≡ drop n x.queue
  used_left n x = left n x.queue x.monitors

-- ---- texts

pub next_text : (n : ℕ) (is : List Item) → last_finished 1 (drop n is) ≡ last_finished (n + 1) is
next_text n is = let next : suc n ≡ n + 1 = omega arith in ap (option_and_then finished_in) (first n is) ∙ ap (λ m. last_finished m is) next
  where
    first : (n : ℕ) (is : List Item) → slice_get (drop n is) 0 ≡ slice_get is n
    first zero is = refl
    first (suc n) [] = refl
    first (suc n) (i ∷ is) = first n is

-- ---- one item

-- a queue of which the first item is taken
module _ (k : Chains) (q : MarkedItem) (qs : List MarkedItem) (xs : List MarkedMonitor) where
  abbrev rest : List Mark
  rest = flat_map marks_due qs

  grouped : (ys : List MarkedMonitor) → (flat ys ++ marks_due q) ++ rest ≡ flat ys ++ (marks_due q ++ rest)
  grouped ys = append_assoc (flat ys) (marks_due q) rest

  pub item_ready : IsReady k (marks_of (record { queue = q ∷ qs; monitors = xs; watch = None })) → IsReady k (marks_due q ++ flat xs)
  item_ready h = ready_turned k (flat xs) (marks_due q) (ready_part k [] (flat xs ++ marks_due q) rest (subst (IsReady k) (sym (grouped xs)) h))

  pub item_carried : (new : Chains) (ys : List MarkedMonitor) → IsReady k (marks_of (record { queue = q ∷ qs; monitors = xs; watch = None })) → Carries k new (marks_due q ++ flat xs) (flat ys)
      → Carries k new (marks_of (record { queue = q ∷ qs; monitors = xs; watch = None })) (marks_of (record { queue = qs; monitors = ys; watch = None }))
  item_carried new ys h f =
      let turned : Carries k new (flat xs ++ marks_due q) (flat ys) = carried_from k new (marks_due q ++ flat xs) (flat ys) (flat xs ++ marks_due q) (λ t p. turned_uses t p (flat xs) (marks_due q)) f in
      subst (λ ms. Carries k new ms (flat ys ++ rest)) (grouped xs)
      (carried_among k new [] rest (flat xs ++ marks_due q) (flat ys) (subst (IsReady k) (sym (grouped xs)) h) turned)

-- ---- monitors alone

pub monitors_ready : (k : Chains) (qs : List MarkedItem) (xs : List MarkedMonitor) → IsReady k (marks_of (record { queue = qs; monitors = xs; watch = None })) → IsReady k (flat xs)
monitors_ready k qs xs h = ready_part k [] (flat xs) (flat_map marks_due qs) h

pub monitors_carried : (k new : Chains) (qs : List MarkedItem) (xs ys : List MarkedMonitor) → IsReady k (marks_of (record { queue = qs; monitors = xs; watch = None })) → Carries k new (flat xs) (flat ys)
    → Carries k new (marks_of (record { queue = qs; monitors = xs; watch = None })) (marks_of (record { queue = qs; monitors = ys; watch = None }))
monitors_carried k new qs xs ys h f = carried_among k new [] (flat_map marks_due qs) (flat xs) (flat ys) h f

-- ---- room

pub begin-++ : (xs ys : List MarkedItem) → all_begin (xs ++ ys) ≡ all_begin xs + all_begin ys
begin-++ [] ys = omega arith
begin-++ (x ∷ xs) ys = let rest : all_begin (xs ++ ys) ≡ all_begin xs + all_begin ys = begin-++ xs ys in omega (arith, rest)

-- each monitor that begins is a reply
pub few_begin : (qs : List MarkedItem) → all_begin qs ≤ replies_in (map item_seen qs)
few_begin [] = omega arith
few_begin (q ∷ qs) =
    let step : replies_in (map item_seen (q ∷ qs)) ≡ cond (is_answer (label (item_seen q))) 1 0 + replies_in (map item_seen qs) = sum_by-cons (λ (i : Item). cond (is_answer (label i)) 1 0) (item_seen q) (map item_seen qs) in
    let more : all_begin qs ≤ replies_in (map item_seen qs) = few_begin qs in
    let one : begins q ≤ cond (is_answer (label (item_seen q))) 1 0 = by q in
    omega (arith, step, more, one)
  where
    by : (r : MarkedItem) → begins r ≤ cond (is_answer (label (item_seen r))) 1 0
    by (plain i) = omega arith
    by (due d x) = omega arith

pub given_ok : {A E P : Type 0} (r : Result A E) → is_err r ≡ false → OnOk r P → P
given_ok (Ok a) is p = p
given_ok (Err e) is p = absurd (true≢false is)
