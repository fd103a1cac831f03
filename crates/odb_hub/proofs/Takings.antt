-- A round gives a session one message at most, and none where it isn't listed.
use Rattle.std.proofs.Common.{◌≡◌, ℕ, ◌+◌, ◌==◌, ◌≤◌, ◌||◌, length, Bool, true, false, cond, not, List, [], ◌∷◌, ◌++◌, map, filter, Option, Some, None, refl, sym, ap, subst, ◌∙◌, arith, true≢false}
use Rattle.std.proofs.lemmas.List.{length-append}
use borrow.Author.Tests.{eqb-true}
use Rattle.odb_atoms.specs.FinMap.{get}
use Rattle.odb_hub.specs.Guarded.{is_in, text_of}
use Rattle.odb_hub.specs.Rings.{texts_to}
use Rattle.odb_service.specs.Run.{Sent, once, sent, sent_to, take_each, take_of}
use Rattle.odb_service.specs.Server.{printed}
use Rattle.odb_service.specs.Service.{Service}
use Rattle.odb_service.specs.Session.{Out, Session, take}
use Rattle.odb_service.specs.World.{World, revision_of}

pub sent_to-append : (t : ℕ) (xs ys : List Sent) → sent_to t (xs ++ ys) ≡ sent_to t xs ++ sent_to t ys
sent_to-append t [] ys = refl
sent_to-append t (x ∷ xs) ys =
    elim (x.0 == t) as (λ b. cond b (x.1 ∷ sent_to t (xs ++ ys)) (sent_to t (xs ++ ys)) ≡ cond b (x.1 ∷ sent_to t xs) (sent_to t xs) ++ sent_to t ys) [
      | true ↦ ap (λ zs. x.1 ∷ zs) (sent_to-append t xs ys)
      | false ↦ sent_to-append t xs ys
    ]

-- as it is printed
pub texts_printed : (t : ℕ) (xs : List Sent) → texts_to t (map printed xs) ≡ map text_of (sent_to t xs)
texts_printed t [] = refl
texts_printed t (x ∷ xs) =
    elim (x.0 == t) as (λ b. cond b (text_of x.1 ∷ texts_to t (map printed xs)) (texts_to t (map printed xs)) ≡ map text_of (cond b (x.1 ∷ sent_to t xs) (sent_to t xs))) [
      | true ↦ ap (λ zs. text_of x.1 ∷ zs) (texts_printed t xs)
      | false ↦ texts_printed t xs
    ]

-- ---- each once

abbrev AreOnce : List ℕ → Type 0
AreOnce [] = Unit {0}
AreOnce (s ∷ ss) = (is_in s ss ≡ false) × AreOnce ss

neither : (a b : Bool) → (a || b) ≡ false → (a ≡ false) × (b ≡ false)
neither true b e = absurd (true≢false e)
neither false b e = (refl, e)

not_in_filter : (s t : ℕ) (ss : List ℕ) → is_in t ss ≡ false → is_in t (filter (λ u. not (u == s)) ss) ≡ false
not_in_filter s t [] e = refl
not_in_filter s t (u ∷ ss) e =
    let n : (u == t ≡ false) × (is_in t ss ≡ false) = neither (u == t) (is_in t ss) e in
    elim (u == s) as (λ b. is_in t (cond (not b) (u ∷ filter (λ u. not (u == s)) ss) (filter (λ u. not (u == s)) ss)) ≡ false) [
      | true ↦ not_in_filter s t ss n.1
      | false ↦ ap (λ b. b || is_in t (filter (λ u. not (u == s)) ss)) n.0 ∙ not_in_filter s t ss n.1
    ]

filtered_out : (s : ℕ) (ss : List ℕ) → is_in s (filter (λ u. not (u == s)) ss) ≡ false
filtered_out s [] = refl
filtered_out s (u ∷ ss) =
    elim (u == s) as (λ b. (u == s) ≡ b → is_in s (cond (not b) (u ∷ filter (λ u. not (u == s)) ss) (filter (λ u. not (u == s)) ss)) ≡ false) [
      | true ↦ λ _. filtered_out s ss
      | false ↦ λ n. ap (λ b. b || is_in s (filter (λ u. not (u == s)) ss)) n ∙ filtered_out s ss
    ] refl

filter_once : (s : ℕ) (ss : List ℕ) → AreOnce ss → AreOnce (filter (λ u. not (u == s)) ss)
filter_once s [] a = tt
filter_once s (u ∷ ss) a =
    elim (u == s) as (λ b. AreOnce (cond (not b) (u ∷ filter (λ u. not (u == s)) ss) (filter (λ u. not (u == s)) ss))) [
      | true ↦ filter_once s ss a.1
      | false ↦ (not_in_filter s u ss a.0, filter_once s ss a.1)
    ]

once_once : (ss : List ℕ) → AreOnce (once ss)
once_once [] = tt
once_once (s ∷ ss) = (filtered_out s (once ss), filter_once s (once ss) (once_once ss))

not_in_once : (t : ℕ) (ss : List ℕ) → is_in t ss ≡ false → is_in t (once ss) ≡ false
not_in_once t [] e = refl
not_in_once t (s ∷ ss) e =
    let n : (s == t ≡ false) × (is_in t ss ≡ false) = neither (s == t) (is_in t ss) e in
    ap (λ b. b || is_in t (filter (λ u. not (u == s)) (once ss))) n.0 ∙ not_in_filter s t (once ss) (not_in_once t ss n.1)

-- ---- takings

module _ (h : Service) where
  of_one : (t s : ℕ) (o : Option Session) (w : World) → length (sent_to t (take_of h s o w).1) ≤ cond (s == t) 1 0
  of_one t s None w = omega arith
  of_one t s (Some x) w = by (take h (revision_of w) x).0
    where
      by : (o : Option Out) → length (sent_to t (sent s o)) ≤ cond (s == t) 1 0
      by None = omega arith
      by (Some m) = elim (s == t) as (λ b. length (cond b (m ∷ []) []) ≤ cond b 1 0) [ true ↦ omega arith | false ↦ omega arith ]

  abbrev given : ℕ → List ℕ → World → ℕ
  given t ss w = length (sent_to t (take_each h ss w).1)

  given-cons : (t s : ℕ) (ss : List ℕ) (w : World) → given t (s ∷ ss) w ≡ length (sent_to t (take_of h s (get w.sessions s) w).1) + given t ss (take_of h s (get w.sessions s) w).0
  given-cons t s ss w =
      let one = take_of h s (get w.sessions s) w in
      ap length (sent_to-append t one.1 (take_each h ss one.0).1) ∙ length-append (sent_to t one.1) (sent_to t (take_each h ss one.0).1)

  none_given : (t : ℕ) (ss : List ℕ) (w : World) → is_in t ss ≡ false → given t ss w ≤ 0
  none_given t [] w e = omega arith
  none_given t (s ∷ ss) w e =
      let n : (s == t ≡ false) × (is_in t ss ≡ false) = neither (s == t) (is_in t ss) e in
      let one : World = (take_of h s (get w.sessions s) w).0 in
      let first : length (sent_to t (take_of h s (get w.sessions s) w).1) ≤ 0 = subst (λ b. length (sent_to t (take_of h s (get w.sessions s) w).1) ≤ cond b 1 0) n.0 (of_one t s (get w.sessions s) w) in
      let later : given t ss one ≤ 0 = none_given t ss one n.1 in
      omega (arith, given-cons t s ss w, first, later)

  one_given : (t : ℕ) (ss : List ℕ) (w : World) → AreOnce ss → given t ss w ≤ 1
  one_given t [] w a = omega arith
  one_given t (s ∷ ss) w a = by (s == t) refl (one_given t ss (take_of h s (get w.sessions s) w).0 a.1)
    where
      one : World
      one = (take_of h s (get w.sessions s) w).0

      by : (b : Bool) → (s == t) ≡ b → given t ss (take_of h s (get w.sessions s) w).0 ≤ 1 → given t (s ∷ ss) w ≤ 1
      by true is rest =
          let first : length (sent_to t (take_of h s (get w.sessions s) w).1) ≤ 1 = subst (λ b. length (sent_to t (take_of h s (get w.sessions s) w).1) ≤ cond b 1 0) is (of_one t s (get w.sessions s) w) in
          let later : given t ss one ≤ 0 = none_given t ss one (ap (λ u. is_in u ss) (sym (eqb-true s t is)) ∙ a.0) in
          omega (arith, given-cons t s ss w, first, later)
      by false isnt rest =
          let first : length (sent_to t (take_of h s (get w.sessions s) w).1) ≤ 0 = subst (λ b. length (sent_to t (take_of h s (get w.sessions s) w).1) ≤ cond b 1 0) isnt (of_one t s (get w.sessions s) w) in
          omega (arith, given-cons t s ss w, first, rest)

  -- of the sessions listed, each once
  pub most_given : (t : ℕ) (ss : List ℕ) (w : World) → length (sent_to t (take_each h (once ss) w).1) ≤ cond (is_in t ss) 1 0
  most_given t ss w = by (is_in t ss) refl
    where
      by : (b : Bool) → is_in t ss ≡ b → given t (once ss) w ≤ cond b 1 0
      by true is = one_given t (once ss) w (once_once ss)
      by false isnt = none_given t (once ss) w (not_in_once t ss isnt)
