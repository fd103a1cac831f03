-- Retrying ends: after it each waiting transaction was tried since the newest commit.
use Rattle.std.proofs.Common.{◌≡◌, ℕ, zero, suc, ◌+◌, ◌*◌, ◌<◌, ◌≤◌, Bool, true, false, cond, not, List, [], ◌∷◌, ◌++◌, length, Option, Some, None, refl, sym, ◌∙◌, ap, subst, true≢false, is_some, arith, length-append}
use Rattle.std.specs.Prelude.{option_map, option_to_list}
use borrow.Author.Tests.{eq-eqb}
use Rattle.odb_service.specs.Service.{Outcome, Service, ended, waiting}
use Rattle.odb_service.specs.Session.{Item, Session}
use Rattle.odb_service.specs.World.{Waiting, World, is_untried, on_outcome, post_to, retry, retry_all, split_first, try_one, untried, with_waiting}
use Rattle.odb_monitor.proofs.Views.{some_is}

abbrev pub Split : Type 0
Split = List Waiting × Waiting × List Waiting

-- how many pass the test
abbrev left : (Waiting → Bool) → List Waiting → ℕ
left p [] = 0
left p (x ∷ xs) = cond (p x) (1 + left p xs) (left p xs)

left-append : (p : Waiting → Bool) (xs ys : List Waiting) → left p (xs ++ ys) ≡ left p xs + left p ys
left-append p [] ys = omega arith
left-append p (x ∷ xs) ys =
    let ih : left p (xs ++ ys) ≡ left p xs + left p ys = left-append p xs ys in
    elim (p x) as (λ b. cond b (1 + left p (xs ++ ys)) (left p (xs ++ ys)) ≡ cond b (1 + left p xs) (left p xs) + left p ys) [ true ↦ omega (arith, ih) | false ↦ ih ]

left-length : (p : Waiting → Bool) (xs : List Waiting) → left p xs ≤ length xs
left-length p [] = omega arith
left-length p (x ∷ xs) =
    let ih : left p xs ≤ length xs = left-length p xs in
    elim (p x) as (λ b. cond b (1 + left p xs) (left p xs) ≤ suc (length xs)) [ true ↦ omega (arith, ih) | false ↦ omega (arith, ih) ]

-- what a split says of the list
pub record IsSplit (p : Waiting → Bool) (xs : List Waiting) (t : Split) : Type 0 where
  long : length xs ≡ length t.0 + suc (length t.2)
  none : left p t.0 ≡ 0
  count : left p xs ≡ suc (left p t.2)

later : (p : Waiting → Bool) (x : Waiting) (xs : List Waiting) (t : Split) → p x ≡ false → (o : Option Split) → ((s : Split) → o ≡ Some s → IsSplit p xs s)
    → option_map (λ t. let s : Split = (x ∷ t.0, t.1, t.2) in s) o ≡ Some t → IsSplit p (x ∷ xs) t
later p x xs t isnt None ih e = absurd (true≢false (sym (ap is_some e)))
later p x xs t isnt (Some s) ih e =
    let k : IsSplit p xs s = ih s refl in
    let l : length xs ≡ length s.0 + suc (length s.2) = k.long in
    subst (IsSplit p (x ∷ xs)) (some_is _ t e) (record {
      long = omega (arith, l);
      none = ap (λ b. cond b (1 + left p s.0) (left p s.0)) isnt ∙ k.none;
      count = ap (λ b. cond b (1 + left p xs) (left p xs)) isnt ∙ k.count;
    })

pub split : (p : Waiting → Bool) (xs : List Waiting) (t : Split) → split_first p xs ≡ Some t → IsSplit p xs t
split p [] t e = absurd (true≢false (sym (ap is_some e)))
split p (x ∷ xs) t e =
    elim (p x) as (λ b. p x ≡ b → cond b (Some (let s : Split = ([], x, xs) in s)) (option_map (λ t. let s : Split = (x ∷ t.0, t.1, t.2) in s) (split_first p xs)) ≡ Some t → IsSplit p (x ∷ xs) t) [
      | true ↦ λ is e. subst (IsSplit p (x ∷ xs)) (some_is _ t e) (record { long = omega arith; none = refl; count = ap (λ b. cond b (1 + left p xs) (left p xs)) is ∙ omega arith })
      | false ↦ λ isnt e. later p x xs t isnt (split_first p xs) (λ s is. split p xs s is) e
    ] refl e

abbrev pub measure : World → ℕ
measure w = length w.waiting * (length w.waiting + 1) + left (is_untried w.commits) w.waiting

post_commits : (s : ℕ) (is : List Item) (o : Option Session) (w : World) → (post_to s is o w).commits ≡ w.commits
post_commits s is None w = refl
post_commits s is (Some x) w = refl

-- one less, whatever of it is left
shorter : (a b u v : ℕ) → v ≤ a + b → (a + b) * (a + b + 1) + v < (a + suc b) * (a + suc b + 1) + suc u
shorter a b u v h = omega (arith, h)

-- as long, with one less to try
marked : (a b u : ℕ) → (a + suc b) * (a + suc b + 1) + u < (a + suc b) * (a + suc b + 1) + suc u
marked a b u = omega arith

conclude : (L W U V a b u : ℕ) → L ≡ a + b → W ≡ a + suc b → U ≡ suc u → V ≤ L → L * (L + 1) + V < W * (W + 1) + U
conclude L W U V a b u e f g h =
    subst (λ l. l * (l + 1) + V < W * (W + 1) + U) (sym e)
    (subst (λ w. (a + b) * (a + b + 1) + V < w * (w + 1) + U) (sym f)
    (subst (λ x. (a + b) * (a + b + 1) + V < (a + suc b) * (a + suc b + 1) + x) (sym g) (shorter a b u V (subst (λ l. V ≤ l) e h))))

conclude_marked : (L W U V a b u : ℕ) → L ≡ a + suc b → W ≡ a + suc b → U ≡ suc u → V ≡ u → L * (L + 1) + V < W * (W + 1) + U
conclude_marked L W U V a b u e f g h =
    subst (λ l. l * (l + 1) + V < W * (W + 1) + U) (sym e)
    (subst (λ w. (a + suc b) * (a + suc b + 1) + V < w * (w + 1) + U) (sym f)
    (subst (λ x. (a + suc b) * (a + suc b + 1) + V < (a + suc b) * (a + suc b + 1) + x) (sym g)
    (subst (λ v. (a + suc b) * (a + suc b + 1) + v < (a + suc b) * (a + suc b + 1) + suc u) (sym h) (marked a b u))))

gone_long : (xs ys : List Waiting) → length (xs ++ [] ++ ys) ≡ length xs + length ys
gone_long xs ys = omega (arith, length-append (xs ++ []) ys, length-append xs (let n : List Waiting = [] in n))

kept_long : (xs ys : List Waiting) (p : Waiting) → length (xs ++ (p ∷ []) ++ ys) ≡ length xs + suc (length ys)
kept_long xs ys p = omega (arith, length-append (xs ++ p ∷ []) ys, length-append xs (p ∷ []))

kept_left : (test : Waiting → Bool) (xs ys : List Waiting) (p : Waiting) → left test xs ≡ 0 → test p ≡ false → left test (xs ++ (p ∷ []) ++ ys) ≡ left test ys
kept_left test xs ys p none isnt =
    let one : left test (p ∷ []) ≡ 0 = ap (λ b. cond b (1 + left test []) (left test [])) isnt in
    omega (arith, left-append test (xs ++ p ∷ []) ys, left-append test xs (p ∷ []), none, one)

module _ (h : Service) where
  pub less : (t : Split) (o : Outcome) (w : World) → IsSplit (is_untried w.commits) w.waiting t
      → measure (with_waiting h (λ ps q. t.0 ++ option_to_list q ++ t.2) w.waiting (on_outcome h t.1 o w)) < measure w
  less t (ended r changed) w k =
      conclude (length (t.0 ++ [] ++ t.2)) (length w.waiting) (left (is_untried w.commits) w.waiting) (left (is_untried (on_outcome h t.1 (ended r changed) w).0.commits) (t.0 ++ [] ++ t.2))
      (length t.0) (length t.2) (left (is_untried w.commits) t.2) (gone_long t.0 t.2) k.long k.count (left-length (is_untried (on_outcome h t.1 (ended r changed) w).0.commits) (t.0 ++ [] ++ t.2))
  less t (waiting deadline) w k =
      let p : Waiting = record (t.1) { deadline = deadline; tried = w.commits } in
      conclude_marked (length (t.0 ++ (p ∷ []) ++ t.2)) (length w.waiting) (left (is_untried w.commits) w.waiting) (left (is_untried w.commits) (t.0 ++ (p ∷ []) ++ t.2))
      (length t.0) (length t.2) (left (is_untried w.commits) t.2) (kept_long t.0 t.2 p) k.long k.count (kept_left (is_untried w.commits) t.0 t.2 p k.none (ap not (eq-eqb w.commits w.commits refl)))

  step : (n : ℕ) (w : World) → measure w < suc n → ((v : World) → measure v < n → untried h (retry h n v) ≡ None) → (o : Option Split) → untried h w ≡ o
      → untried h (elim o as (λ _. World) [ None ↦ w | Some t ↦ retry h n (try_one h t w) ]) ≡ None
  step n w m ih None is = is
  step n w m ih (Some t) is =
      let l : measure (try_one h t w) < measure w = less t _ w (split (is_untried w.commits) w.waiting t is) in
      ih (try_one h t w) (omega (arith, l, m))

  retry_enough : (n : ℕ) (w : World) → measure w < n → untried h (retry h n w) ≡ None
  retry_enough zero w m = absurd (omega arith)
  retry_enough (suc n) w m = step n w m (retry_enough n) (untried h w) refl

  -- after a retrying each waiting transaction was tried since the newest commit
  pub all_tried : (w : World) → untried h (retry_all h w) ≡ None
  all_tried w =
      let l : left (is_untried w.commits) w.waiting ≤ length w.waiting = left-length (is_untried w.commits) w.waiting in
      retry_enough ((length w.waiting + 1) * (length w.waiting + 1)) w (omega (arith, l))

  -- with nothing to try a retrying changes nothing
  retry_none : (n : ℕ) (w : World) → untried h w ≡ None → retry h n w ≡ w
  retry_none zero w e = refl
  retry_none (suc n) w e = ap (λ o. elim o as (λ _. World) [ None ↦ w | Some t ↦ retry h n (try_one h t w) ]) e

  pub retried_none : (w : World) → untried h w ≡ None → retry_all h w ≡ w
  retried_none w e = retry_none ((length w.waiting + 1) * (length w.waiting + 1)) w e

  -- rounds that are enough give the same, however many they are
  same_step : (n m : ℕ) (w : World) → measure w < suc n → measure w < suc m → ((v : World) → measure v < n → measure v < m → retry h n v ≡ retry h m v) → (o : Option Split) → untried h w ≡ o
      → (elim o as (λ _. World) [ None ↦ w | Some t ↦ retry h n (try_one h t w) ]) ≡ (elim o as (λ _. World) [ None ↦ w | Some t ↦ retry h m (try_one h t w) ])
  same_step n m w a b ih None is = refl
  same_step n m w a b ih (Some t) is =
      let l : measure (try_one h t w) < measure w = less t _ w (split (is_untried w.commits) w.waiting t is) in
      ih (try_one h t w) (omega (arith, l, a)) (omega (arith, l, b))

  enough : (n m : ℕ) (w : World) → measure w < n → measure w < m → retry h n w ≡ retry h m w
  enough zero m w a b = absurd (omega arith)
  enough (suc n) zero w a b = absurd (omega arith)
  enough (suc n) (suc m) w a b = same_step n m w a b (λ v c d. enough n m v c d) (untried h w) refl

  abbrev rounds : World → ℕ
  rounds w = (length w.waiting + 1) * (length w.waiting + 1)

  are_enough : (w : World) → measure w < rounds w
  are_enough w =
      let l : left (is_untried w.commits) w.waiting ≤ length w.waiting = left-length (is_untried w.commits) w.waiting in
      omega (arith, l)

  -- a retrying begins with the first that wasn't tried
  pub retried_next : (w : World) (t : Split) → untried h w ≡ Some t → retry_all h w ≡ retry_all h (try_one h t w)
  retried_next w t e =
      let v : World = try_one h t w in
      let n : ℕ = rounds w in
      let m : ℕ = rounds v in
      let l : measure v < measure w = less t _ w (split (is_untried w.commits) w.waiting t e) in
      let a : measure w < n = are_enough w in
      let b : measure v < m = are_enough v in
      enough n (suc (n + m)) w a (omega (arith, a))
      ∙ ap (λ o. elim o as (λ _. World) [ None ↦ w | Some t ↦ retry h (n + m) (try_one h t w) ]) e
      ∙ enough (n + m) m v (omega (arith, l, a)) b
