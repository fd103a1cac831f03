-- How many transactions of each session wait, after a change of one session's number, and after a change of the list.
use Rattle.std.proofs.Common.{◌≡◌, ℕ, ◌+◌, ◌==◌, ◌<◌, Bool, true, false, cond, not, List, [], ◌∷◌, ◌++◌, length, get_or, Some, None, refl, sym, ap, ◌∙◌, arith}
use Rattle.std.proofs.lemmas.List.Sums.{sum_by-cons, sum_by-remove, sum_by_push}
use Rattle.std.specs.BTreeMap as tree
use Rattle.std.specs.BTreeMap.{BTreeMap}
use Rattle.std.specs.Cmp.{unsigned_Decides}
use Rattle.std.specs.List.{AllZip, remove}
use Rattle.std.specs.Map.{lookup}
use Rattle.std.specs.Ordering.{is_eq, nat_cmp}
use Rattle.std.specs.Prelude.{count_by, filter, unwrap_or}
use Rattle.odb_locks.proofs.Indexes.{is_eq-nat_cmp}
use Rattle.odb_service.specs.World.{Waiting}

abbrev Numbers : Type 0
Numbers = BTreeMap ℕ ℕ

abbrev number_of : Numbers → ℕ → ℕ
number_of m s = unwrap_or (tree.get nat_cmp m s) 0

-- ---- a session's number becomes k

set_at : (s k : ℕ) (m n : Numbers) → tree.UpdatesBy nat_cmp (nat_cmp s) m n (Some k) → (t : ℕ) → number_of n t ≡ cond (s == t) k (number_of m t)
set_at s k m n to t = ap (λ o. unwrap_or o 0) (to.0 t ∙ ap (λ d. cond d (Some k) (tree.get nat_cmp m t)) (is_eq-nat_cmp s t)) ∙ by (s == t)
  where
    by : (d : Bool) → unwrap_or (cond d (Some k) (tree.get nat_cmp m t)) 0 ≡ cond d k (number_of m t)
    by true = refl
    by false = refl

pub one_more : (s k : ℕ) (m n : Numbers) → tree.UpdatesBy nat_cmp (nat_cmp s) m n (Some k) → k ≡ number_of m s + 1 → (t : ℕ) → number_of n t ≡ cond (s == t) (number_of m t + 1) (number_of m t)
one_more s k m n to is t = set_at s k m n to t ∙ by (s == t) refl
  where
    by : (d : Bool) → (s == t) ≡ d → cond d k (number_of m t) ≡ cond d (number_of m t + 1) (number_of m t)
    by true e = is ∙ ap (λ u. number_of m u + 1) ((unsigned_Decides s t).0 e)
    by false e = refl

pub one_less : (s k : ℕ) (m n : Numbers) → tree.UpdatesBy nat_cmp (nat_cmp s) m n (Some k) → k + 1 ≡ number_of m s → (t : ℕ) → number_of m t ≡ cond (s == t) (number_of n t + 1) (number_of n t)
one_less s k m n to is t = by (s == t) refl (set_at s k m n to t)
  where
    by : (d : Bool) → (s == t) ≡ d → number_of n t ≡ cond d k (number_of m t) → number_of m t ≡ cond d (number_of n t + 1) (number_of n t)
    by true e h = ap (number_of m) (sym ((unsigned_Decides s t).0 e)) ∙ sym is ∙ ap (λ a. a + 1) (sym h)
    by false e h = sym h

pub none_left : (s : ℕ) (m n : Numbers) → tree.UpdatesBy nat_cmp (nat_cmp s) m n None → (t : ℕ) → number_of n t ≡ cond (s == t) 0 (number_of m t)
none_left s m n to t = ap (λ o. unwrap_or o 0) (to.0 t ∙ ap (λ d. cond d None (tree.get nat_cmp m t)) (is_eq-nat_cmp s t)) ∙ by (s == t)
  where
    by : (d : Bool) → unwrap_or (cond d None (tree.get nat_cmp m t)) 0 ≡ cond d 0 (number_of m t)
    by true = refl
    by false = refl

equal_entries : (es fs : List (ℕ × ℕ)) → AllZip (λ e f. (f.0 ≡ e.0) × (f.1 ≡ e.1)) es fs → fs ≡ es
equal_entries [] [] h = refl
equal_entries [] (f ∷ fs) h = absurd h
equal_entries (e ∷ es) [] h = absurd h
equal_entries (e ∷ es) (f ∷ fs) h = λ i. let p : ℕ × ℕ = (h.0.0 i, h.0.1 i) in p ∷ equal_entries es fs h.1 i

pub copied : (m n : Numbers) → AllZip (λ e f. (f.0 ≡ e.0) × (f.1 ≡ e.1)) m.entries n.entries → (t : ℕ) → number_of n t ≡ number_of m t
copied m n h t = ap (λ es. unwrap_or (lookup (λ s. is_eq (nat_cmp t s)) es) 0) (equal_entries m.entries n.entries h)

-- ---- the list

abbrev pub of_session : ℕ → List Waiting → ℕ
of_session s ps = count_by (λ p. p.session == s) ps

-- numbers that are those of a list
abbrev pub AreOf : (ℕ → ℕ) → List Waiting → Type 0
AreOf f ps = (s : ℕ) → f s ≡ of_session s ps

-- the second has one more for a session
abbrev pub Adds : (ℕ → ℕ) → (ℕ → ℕ) → ℕ → Type 0
Adds f g n = (s : ℕ) → g s ≡ cond (n == s) (f s + 1) (f s)

pub counted_pushed : (f g : ℕ → ℕ) (ps : List Waiting) (p : Waiting) → AreOf f ps → Adds f g p.session → AreOf g (ps ++ p ∷ [])
counted_pushed f g ps p h more s = more s ∙ by (p.session == s) ∙ sym (sum_by_push (λ q. cond (q.session == s) 1 0) ps p)
  where
    by : (d : Bool) → cond d (f s + 1) (f s) ≡ of_session s ps + cond d 1 0
    by true = ap (λ a. a + 1) (h s)
    by false = let none : of_session s ps ≡ of_session s ps + 0 = omega arith in h s ∙ none

itself : (n : ℕ) → (n == n) ≡ true
itself n = (unsigned_Decides n n).1 refl

-- the one that is taken out, and what stays
parted : (ps : List Waiting) (k : ℕ) (x : Waiting) → k < length ps → x ≡ get_or ps k x → (s : ℕ) → of_session s (remove ps k) + cond (x.session == s) 1 0 ≡ of_session s ps
parted ps k x below is s = ap (λ (y : Waiting). of_session s (remove ps k) + cond (y.session == s) 1 0) is ∙ sum_by-remove (λ q. cond (q.session == s) 1 0) ps k x below

-- its session has one
pub has_one : (f : ℕ → ℕ) (ps : List Waiting) (k : ℕ) (x : Waiting) → AreOf f ps → k < length ps → x ≡ get_or ps k x → 0 < f x.session
has_one f ps k x h below is =
    let part : of_session x.session (remove ps k) + cond (x.session == x.session) 1 0 ≡ of_session x.session ps = parted ps k x below is x.session in
    let one : of_session x.session (remove ps k) + 1 ≡ of_session x.session (remove ps k) + cond (x.session == x.session) 1 0 = ap (λ b. of_session x.session (remove ps k) + cond b 1 0) (sym (itself x.session)) in
    let all : f x.session ≡ of_session x.session ps = h x.session in
    omega (arith, part, one, all)

pub counted_removed : (f g : ℕ → ℕ) (ps : List Waiting) (k : ℕ) (x : Waiting) → AreOf f ps → k < length ps → x ≡ get_or ps k x → Adds g f x.session → AreOf g (remove ps k)
counted_removed f g ps k x h below is more s = by (x.session == s) (more s) (parted ps k x below is s)
  where
    by : (d : Bool) → f s ≡ cond d (g s + 1) (g s) → of_session s (remove ps k) + cond d 1 0 ≡ of_session s ps → g s ≡ of_session s (remove ps k)
    by true e part = let all : f s ≡ of_session s ps = h s in omega (arith, e, part, all)
    by false e part = let all : f s ≡ of_session s ps = h s in omega (arith, e, part, all)

-- one that was added for a session and taken again
pub as_before : (f g i : ℕ → ℕ) (n : ℕ) → Adds f g n → Adds i g n → (s : ℕ) → i s ≡ f s
as_before f g i n more less s = by (n == s) (more s) (less s)
  where
    by : (d : Bool) → g s ≡ cond d (f s + 1) (f s) → g s ≡ cond d (i s + 1) (i s) → i s ≡ f s
    by true a b = omega (arith, a, b)
    by false a b = sym b ∙ a

pub has_added : (f g : ℕ → ℕ) (n : ℕ) → Adds f g n → 0 < g n
has_added f g n more =
    let one : g n ≡ f n + 1 = more n ∙ ap (λ b. cond b (f n + 1) (f n)) (itself n) in
    omega (arith, one)

-- ---- a session that ends

abbrev others : ℕ → List Waiting → List Waiting
others n ps = filter (λ p. not (p.session == n)) ps

of_others : (n s : ℕ) (ps : List Waiting) → cond (n == s) 0 (of_session s ps) ≡ of_session s (others n ps)
of_others n s [] = by (n == s)
  where
    by : (b : Bool) → (let k : ℕ = cond b 0 0 in k) ≡ 0
    by true = refl
    by false = refl
of_others n s (p ∷ ps) = ap (λ k. cond (n == s) 0 k) (sum_by-cons (λ q. cond (q.session == s) 1 0) p ps) ∙ by (of_others n s ps) (p.session == n) refl
  where
    gone : (k : ℕ) (b : Bool) → cond b 0 (cond b 1 0 + k) ≡ cond b 0 k
    gone k true = refl
    gone k false = omega arith

    stays : (p.session == n) ≡ false → (b : Bool) → (n == s) ≡ b → cond b 0 (cond (p.session == s) 1 0 + of_session s ps) ≡ cond (p.session == s) 1 0 + cond b 0 (of_session s ps)
    stays apart true is = sym (ap (λ c. cond c 1 0 + 0) (ap (λ u. p.session == u) (sym ((unsigned_Decides n s).0 is)) ∙ apart))
    stays apart false is = refl

    by : cond (n == s) 0 (of_session s ps) ≡ of_session s (others n ps) → (b : Bool) → (p.session == n) ≡ b
        → cond (n == s) 0 (cond (p.session == s) 1 0 + of_session s ps) ≡ of_session s (cond (not b) (p ∷ others n ps) (others n ps))
    by ih true e = ap (λ u. cond (n == s) 0 (cond (u == s) 1 0 + of_session s ps)) ((unsigned_Decides p.session n).0 e) ∙ gone (of_session s ps) (n == s) ∙ ih
    by ih false e = stays e (n == s) refl ∙ ap (λ k. cond (p.session == s) 1 0 + k) ih ∙ sym (sum_by-cons (λ q. cond (q.session == s) 1 0) p (others n ps))

pub counted_others : (f g : ℕ → ℕ) (n : ℕ) (ps qs : List Waiting) → AreOf f ps → ((s : ℕ) → g s ≡ cond (n == s) 0 (f s)) → qs ≡ others n ps → AreOf g qs
counted_others f g n ps qs h forgets left s = forgets s ∙ ap (λ k. cond (n == s) 0 k) (h s) ∙ of_others n s ps ∙ ap (of_session s) (sym left)

-- a list of equal ones is the same list
pub equal_list : (ps qs : List Waiting) → AllZip (λ x y. y ≡ x) ps qs → qs ≡ ps
equal_list [] [] h = refl
equal_list [] (q ∷ qs) h = absurd h
equal_list (p ∷ ps) [] h = absurd h
equal_list (p ∷ ps) (q ∷ qs) h = λ i. h.0 i ∷ equal_list ps qs h.1 i
