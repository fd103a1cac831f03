-- What keeps the numbers of sessions rising.
use Rattle.std.proofs.Common.{◌≡◌, ℕ, suc, zero, ◌+◌, ◌≤◌, Bool, true, false, cond, ◌==◌, T, List, [], ◌∷◌, ◌++◌, Some, filter, map, slice_get, slice_set, refl, sym, ap, subst, ◌∙◌, arith}
use Rattle.std.specs.declared.cmp.Ordering.TheVariants.{Less, Equal, Greater}
use Rattle.std.specs.Cmp.{nat_cmp_total}
use Rattle.std.specs.FinMap.Entries.{below_all}
use Rattle.std.specs.List.{AllByRecursion}
use Rattle.std.specs.Ordering.{is_lt, nat_cmp}
use borrow.Author.Tests.{eqb-true}
use Rattle.odb_atoms.proofs.Rising.{both, first, is_less, second}
use Rattle.odb_script.specs.Script.{ScriptSession}
use Rattle.odb_script.specs.Represented.Names.{AreInOrder, AreOpened, by_number}

abbrev pub AreBelow : ℕ → List ScriptSession → Type 0
AreBelow next xs = AllByRecursion (λ x. nat_cmp x.session next ≡ Less) xs

abbrev IsAfter : ℕ → List ScriptSession → Type 0
IsAfter k xs = T (below_all nat_cmp k (map by_number xs))

-- ---- one more at the end

after_end : (k : ℕ) (xs : List ScriptSession) (x : ScriptSession) → IsAfter k xs → nat_cmp k x.session ≡ Less → IsAfter k (xs ++ x ∷ [])
after_end k [] x h low = both _ _ (is_less low) tt
after_end k (y ∷ ys) x h low = both _ _ (first _ _ h) (after_end k ys x (second _ _ h) low)

pub order_end : (xs : List ScriptSession) (x : ScriptSession) → AreInOrder xs → AreBelow x.session xs → AreInOrder (xs ++ x ∷ [])
order_end [] x up low = tt
order_end (y ∷ ys) x up low = both _ _ (after_end y.session ys x (first _ _ up) low.0) (order_end ys x (second _ _ up) low.1)

pub below_end : (next : ℕ) (xs : List ScriptSession) (x : ScriptSession) → AreBelow next xs → nat_cmp x.session next ≡ Less → AreBelow next (xs ++ x ∷ [])
below_end next [] x low h = (h, tt)
below_end next (y ∷ ys) x low h = (low.0, below_end next ys x low.1 h)

-- ---- a later number

pub next_number : (m n : ℕ) → n ≡ m + 1 → nat_cmp m n ≡ Less
next_number m n is = ap (λ b. cond b Less (cond (m == n) Equal Greater)) {y = true} (grind (arith, is))

up_to : (m n : ℕ) → m ≤ n → (a : ℕ) → nat_cmp a m ≡ Less → nat_cmp a n ≡ Less
up_to m n h a low = by (m == n) refl
  where
    by : (b : Bool) → (m == n) ≡ b → nat_cmp a n ≡ Less
    by true e = subst (λ k. nat_cmp a k ≡ Less) (eqb-true m n e) low
    by false e = nat_cmp_total.trans a m n low (ap (λ b. cond b Less (cond (m == n) Equal Greater)) {y = true} (grind (arith, h, e)))

pub below_later : (m n : ℕ) → m ≤ n → (xs : List ScriptSession) → AreBelow m xs → AreBelow n xs
below_later m n h [] low = tt
below_later m n h (x ∷ xs) low = (up_to m n h x.session low.0, below_later m n h xs low.1)

-- where as many sessions were opened, and where one more was
pub as_opened : (m n : ℕ) (xs : List ScriptSession) → n ≡ m → AreOpened m xs → AreOpened n xs
as_opened m n xs same = subst (λ k. AreOpened k xs) (sym same)

pub later_opened : (m n : ℕ) (xs : List ScriptSession) → n ≡ m + 1 → AreOpened m xs → AreOpened n xs
later_opened m n xs is opened = (opened.0, (opened.1.0, below_later m n (omega (arith, is)) xs opened.1.1))

-- ---- some of them

after_filter : (k : ℕ) (p : ScriptSession → Bool) (xs : List ScriptSession) → IsAfter k xs → IsAfter k (filter p xs)
after_filter k p [] h = tt
after_filter k p (x ∷ xs) h = by (p x) (after_filter k p xs (second _ _ h))
  where
    by : (b : Bool) → IsAfter k (filter p xs) → IsAfter k (cond b (x ∷ filter p xs) (filter p xs))
    by true rest = both _ _ (first _ _ h) rest
    by false rest = rest

pub order_filter : (p : ScriptSession → Bool) (xs : List ScriptSession) → AreInOrder xs → AreInOrder (filter p xs)
order_filter p [] up = tt
order_filter p (x ∷ xs) up = by (p x) (order_filter p xs (second _ _ up))
  where
    by : (b : Bool) → AreInOrder (filter p xs) → AreInOrder (cond b (x ∷ filter p xs) (filter p xs))
    by true rest = both _ _ (after_filter x.session p xs (first _ _ up)) rest
    by false rest = rest

pub below_filter : (next : ℕ) (p : ScriptSession → Bool) (xs : List ScriptSession) → AreBelow next xs → AreBelow next (filter p xs)
below_filter next p [] low = tt
below_filter next p (x ∷ xs) low = by (p x) (below_filter next p xs low.1)
  where
    by : (b : Bool) → AreBelow next (filter p xs) → AreBelow next (cond b (x ∷ filter p xs) (filter p xs))
    by true rest = (low.0, rest)
    by false rest = rest

-- ---- another of the same number in its place

same_Some : (a b : ScriptSession) → Some a ≡ Some b → a ≡ b
same_Some a b g = cc

after_set : (q : ℕ) (xs : List ScriptSession) (k : ℕ) (x y : ScriptSession) → slice_get xs k ≡ Some x → y.session ≡ x.session → IsAfter q xs → IsAfter q (slice_set xs k y)
after_set q [] k x y there same h = h
after_set q (z ∷ zs) zero x y there same h = both _ _ (subst (λ n. T (is_lt (nat_cmp q n))) (ap (λ (w : ScriptSession). w.session) (same_Some z x there) ∙ sym same) (first _ _ h)) (second _ _ h)
after_set q (z ∷ zs) (suc k) x y there same h = both _ _ (first _ _ h) (after_set q zs k x y there same (second _ _ h))

pub order_set : (xs : List ScriptSession) (k : ℕ) (x y : ScriptSession) → slice_get xs k ≡ Some x → y.session ≡ x.session → AreInOrder xs → AreInOrder (slice_set xs k y)
order_set [] k x y there same up = up
order_set (z ∷ zs) zero x y there same up = both _ _ (subst (λ n. IsAfter n zs) (ap (λ (w : ScriptSession). w.session) (same_Some z x there) ∙ sym same) (first _ _ up)) (second _ _ up)
order_set (z ∷ zs) (suc k) x y there same up = both _ _ (after_set z.session zs k x y there same (first _ _ up)) (order_set zs k x y there same (second _ _ up))

pub below_set : (next : ℕ) (xs : List ScriptSession) (k : ℕ) (x y : ScriptSession) → slice_get xs k ≡ Some x → y.session ≡ x.session → AreBelow next xs → AreBelow next (slice_set xs k y)
below_set next [] k x y there same low = low
below_set next (z ∷ zs) zero x y there same low = (subst (λ n. nat_cmp n next ≡ Less) (ap (λ (w : ScriptSession). w.session) (same_Some z x there) ∙ sym same) low.0, low.1)
below_set next (z ∷ zs) (suc k) x y there same low = (low.0, below_set next zs k x y there same low.1)
