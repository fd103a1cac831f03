-- The last version up to which a row is kept tells which versions are reached.
use Rattle.std.proofs.Common.{◌≡◌, ℕ, arith, Bool, true, false, ◌||◌, nat_eq, nat_le, nat_lt, [], ◌∷◌, ◌++◌, Option, refl, sym, ap, ◌∙◌, true≢false}
use Rattle.std.proofs.lemmas.Bool.Decides.{nat_tests}
use Rattle.odb_atoms.specs.Row.{Row}
use Rattle.odb_chain.specs.OldRows.{History, reaches}
use Rattle.odb_chain.specs.Represented.Log.{IsLast, passes}
use Rattle.odb_chain.specs.Represented.MarkedVersions.{is_label}
use Rattle.odb_chain.proofs.Histories.{or_left, or_right}

reached_label : (p q : ℕ) (h : History) → is_label q h ≡ true → nat_le p q ≡ true → reaches p h ≡ true
reached_label p q [] e le = absurd (true≢false (sym e))
reached_label p q (x ∷ xs) e le = by (nat_eq q x.0) refl e (reached_label p q xs)
  where
    by : (b : Bool) → nat_eq q x.0 ≡ b → (b || is_label q xs) ≡ true → (is_label q xs ≡ true → nat_le p q ≡ true → reaches p xs ≡ true) → (nat_le p x.0 || reaches p xs) ≡ true
    by true is e rest = let low : nat_le p x.0 ≡ true = grind (arith, nat_tests) in or_left (nat_le p x.0) (reaches p xs) low
    by false is e rest = or_right (nat_le p x.0) (reaches p xs) (rest e le)

passed_label : (p q : ℕ) (h : History) → is_label q h ≡ true → nat_lt p q ≡ true → passes p h ≡ true
passed_label p q [] e lt = absurd (true≢false (sym e))
passed_label p q (x ∷ xs) e lt = by (nat_eq q x.0) refl e (passed_label p q xs)
  where
    by : (b : Bool) → nat_eq q x.0 ≡ b → (b || is_label q xs) ≡ true → (is_label q xs ≡ true → nat_lt p q ≡ true → passes p xs ≡ true) → (nat_lt p x.0 || passes p xs) ≡ true
    by true is e rest = let low : nat_lt p x.0 ≡ true = grind (arith, nat_tests) in or_left (nat_lt p x.0) (passes p xs) low
    by false is e rest = or_right (nat_lt p x.0) (passes p xs) (rest e lt)

beyond_last : (p l : ℕ) (h : History) → passes l h ≡ false → nat_lt l p ≡ true → reaches p h ≡ false
beyond_last p l [] e lt = refl
beyond_last p l (x ∷ xs) e lt = by (nat_lt l x.0) refl (nat_le p x.0) refl e (beyond_last p l xs)
  where
    by : (b : Bool) → nat_lt l x.0 ≡ b → (c : Bool) → nat_le p x.0 ≡ c → (b || passes l xs) ≡ false → (passes l xs ≡ false → nat_lt l p ≡ true → reaches p xs ≡ false) → (c || reaches p xs) ≡ false
    by true is c at e rest = absurd (true≢false e)
    by false is true at e rest = absurd (true≢false (sym at ∙ grind (arith, nat_tests)))
    by false is false at e rest = rest e lt

passed_on : (p l : ℕ) (h : History) → passes l h ≡ false → nat_le l p ≡ true → passes p h ≡ false
passed_on p l [] e le = refl
passed_on p l (x ∷ xs) e le = by (nat_lt l x.0) refl (nat_lt p x.0) refl e (passed_on p l xs)
  where
    by : (b : Bool) → nat_lt l x.0 ≡ b → (c : Bool) → nat_lt p x.0 ≡ c → (b || passes l xs) ≡ false → (passes l xs ≡ false → nat_le l p ≡ true → passes p xs ≡ false) → (c || passes p xs) ≡ false
    by true is c at e rest = absurd (true≢false e)
    by false is true at e rest = absurd (true≢false (sym at ∙ grind (arith, nat_tests)))
    by false is false at e rest = rest e le

pub reaches-last : (p l : ℕ) (h : History) → IsLast l h → nat_le p l ≡ reaches p h
reaches-last p l h last = by (nat_le p l) refl
  where
    by : (b : Bool) → nat_le p l ≡ b → b ≡ reaches p h
    by true is = sym (reached_label p l h last.0 is)
    by false is = let lt : nat_lt l p ≡ true = grind (arith, nat_tests) in sym (beyond_last p l h last.1 lt)

pub passes-last : (p l : ℕ) (h : History) → IsLast l h → nat_lt p l ≡ passes p h
passes-last p l h last = by (nat_lt p l) refl
  where
    by : (b : Bool) → nat_lt p l ≡ b → b ≡ passes p h
    by true is = sym (passed_label p l h last.0 is)
    by false is = let le : nat_le l p ≡ true = grind (arith, nat_tests) in sym (passed_on p l h last.1 le)

pub last_alone : (p : ℕ) (r : Option Row) → IsLast p ((p, r) ∷ [])
last_alone p r =
    let same : nat_eq p p ≡ true = grind (arith, nat_tests) in
    let none : nat_lt p p ≡ false = grind (arith, nat_tests) in
    (ap (λ b. b || false) same, ap (λ b. b || false) none)

-- ---- one old row more

second_unreached : (n : ℕ) (x : ℕ × Option Row) (xs : History) → reaches n (x ∷ xs) ≡ false → (nat_le n x.0 ≡ false) × (reaches n xs ≡ false)
second_unreached n x xs e = by (nat_le n x.0) refl e
  where
    by : (b : Bool) → nat_le n x.0 ≡ b → (b || reaches n xs) ≡ false → (nat_le n x.0 ≡ false) × (reaches n xs ≡ false)
    by true is e = absurd (true≢false e)
    by false is e = (is, e)

pub unreached_more : (n : ℕ) (x : ℕ × Option Row) (xs : History) → reaches n (x ∷ xs) ≡ false → reaches n xs ≡ false
unreached_more n x xs e = (second_unreached n x xs e).1

label_pushed_here : (n : ℕ) (r : Option Row) (h : History) → is_label n (h ++ (n, r) ∷ []) ≡ true
label_pushed_here n r [] = let same : nat_eq n n ≡ true = grind (arith, nat_tests) in ap (λ b. b || false) same
label_pushed_here n r (x ∷ xs) = or_right (nat_eq n x.0) (is_label n (xs ++ (n, r) ∷ [])) (label_pushed_here n r xs)

-- whose labels are all below a version, and that version
none_above : (n : ℕ) (r : Option Row) (h : History) → ((q : ℕ) → is_label q h ≡ true → nat_le n q ≡ false) → passes n (h ++ (n, r) ∷ []) ≡ false
none_above n r [] low = let none : nat_lt n n ≡ false = grind (arith, nat_tests) in ap (λ b. b || false) none
none_above n r (x ∷ xs) low =
    let same : nat_eq x.0 x.0 ≡ true = grind (arith, nat_tests) in
    let below : nat_le n x.0 ≡ false = low x.0 (or_left (nat_eq x.0 x.0) (is_label x.0 xs) same) in
    let past : nat_lt n x.0 ≡ false = grind (arith, nat_tests) in
    ap (λ b. b || passes n (xs ++ (n, r) ∷ [])) past ∙ none_above n r xs (λ q e. low q (or_right (nat_eq q x.0) (is_label q xs) e))

below_unreached : (n q : ℕ) (h : History) → reaches n h ≡ false → is_label q h ≡ true → nat_le n q ≡ false
below_unreached n q h un e = by (nat_le n q) refl
  where
    by : (b : Bool) → nat_le n q ≡ b → b ≡ false
    by true is = absurd (true≢false (sym (reached_label n q h e is) ∙ un))
    by false is = refl

pub last_pushed : (n : ℕ) (r : Option Row) (x : ℕ × Option Row) (xs ys : History) → reaches n (x ∷ xs) ≡ false → ((q : ℕ) → is_label q ys ≡ true → is_label q xs ≡ true) → IsLast n (x ∷ ys ++ (n, r) ∷ [])
last_pushed n r x xs ys un fewer =
    let parts = second_unreached n x xs un in
    let first : nat_le n x.0 ≡ false = parts.0 in
    let past : nat_lt n x.0 ≡ false = grind (arith, nat_tests) in (
      or_right (nat_eq n x.0) (is_label n (ys ++ (n, r) ∷ [])) (label_pushed_here n r ys),
      ap (λ b. b || passes n (ys ++ (n, r) ∷ [])) past ∙ none_above n r ys (λ q e. below_unreached n q xs parts.1 (fewer q e)),
    )
