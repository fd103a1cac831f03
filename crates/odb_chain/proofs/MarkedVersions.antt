-- Versions with their marks: one mark less, the first and the last of them, and one more.
use Rattle.std.proofs.Common.{◌≡◌, ℕ, zero, suc, ◌+◌, ◌-◌, ◌<◌, ◌≤◌, arith, Bool, true, false, cond, not, ◌||◌, nat_eq, nat_le, nat_lt, List, [], ◌∷◌, ◌++◌, length, slice_get, slice_set, option_map, Option, Some, None, IfNone, IfSome, refl, sym, ap, ◌∙◌, true≢false}
use Rattle.std.proofs.lemmas.Bool.Decides.{nat_tests}
use Rattle.std.proofs.lemmas.Option.{none-some, same_Some}
use Rattle.std.specs.List.{position, position_or_len, remove}
use Rattle.odb_chain.specs.Represented.Chain.{AllAfter, AreRising, Chain, earliest, fewer, here, marked_versions}
use Rattle.odb_chain.specs.Represented.MarkedVersions.{is_kept, is_marked}

abbrev pub MarkedVersion : Type 0
MarkedVersion = ℕ × ℕ

pub marked-++ : (p : ℕ) (xs ys : List MarkedVersion) → is_marked p (xs ++ ys) ≡ (is_marked p xs || is_marked p ys)
marked-++ p [] ys = refl
marked-++ p (x ∷ xs) ys = by (nat_eq p x.0) (marked-++ p xs ys)
  where
    by : (b : Bool) → is_marked p (xs ++ ys) ≡ (is_marked p xs || is_marked p ys) → (b || is_marked p (xs ++ ys)) ≡ ((b || is_marked p xs) || is_marked p ys)
    by true is = refl
    by false is = is

-- ---- before the version of now, and after another one

pub before_version : (v p : ℕ) (ls : List MarkedVersion) → AreRising v ls → is_marked p ls ≡ true → nat_lt p v ≡ true
before_version v p [] h there = absurd (true≢false (sym there))
before_version v p (l ∷ ls) h there = by (nat_eq p l.0) refl there (before_version v p ls h.3)
  where
    by : (b : Bool) → nat_eq p l.0 ≡ b → (b || is_marked p ls) ≡ true → (is_marked p ls ≡ true → nat_lt p v ≡ true) → nat_lt p v ≡ true
    by true is there rest = let low : l.0 < v = h.0 in grind (arith, nat_tests)
    by false is there rest = rest there

pub after_version : (q p : ℕ) (ls : List MarkedVersion) → AllAfter q ls → is_marked p ls ≡ true → nat_lt q p ≡ true
after_version q p [] h there = absurd (true≢false (sym there))
after_version q p (l ∷ ls) h there = by (nat_eq p l.0) refl there (after_version q p ls h.1)
  where
    by : (b : Bool) → nat_eq p l.0 ≡ b → (b || is_marked p ls) ≡ true → (is_marked p ls ≡ true → nat_lt q p ≡ true) → nat_lt q p ≡ true
    by true is there rest = let low : q < l.0 = h.0 in grind (arith, nat_tests)
    by false is there rest = rest there

-- the version of now has marks where some stand for what the table is now
pub here_is : (v p n : ℕ) → is_marked p (here v n) ≡ true → p ≡ v
here_is v p zero there = absurd (true≢false (sym there))
here_is v p (suc n) there = by (nat_eq p v) refl there
  where
    by : (b : Bool) → nat_eq p v ≡ b → (b || false) ≡ true → p ≡ v
    by true is there = grind (arith, nat_tests)
    by false is there = absurd (true≢false (sym there))

pub cases : (v p n : ℕ) (ls : List MarkedVersion) (G : Type 0) → is_marked p (ls ++ here v n) ≡ true → (is_marked p ls ≡ true → G) → (p ≡ v → is_marked p (here v n) ≡ true → G) → G
cases v p n ls G there f g = by (is_marked p ls) refl (sym (marked-++ p ls (here v n)) ∙ there)
  where
    by : (b : Bool) → is_marked p ls ≡ b → (b || is_marked p (here v n)) ≡ true → G
    by true is e = f is
    by false is e = g (here_is v p n e) e

-- ---- the first and the last

pub oldest_first : (v p n : ℕ) (l : MarkedVersion) (ls : List MarkedVersion) → AreRising v (l ∷ ls) → is_marked p ((l ∷ ls) ++ here v n) ≡ true → nat_le l.0 p ≡ true
oldest_first v p n l ls h there = cases v p n (l ∷ ls) (nat_le l.0 p ≡ true) there (λ e. by (nat_eq p l.0) refl e) (λ e _. let low : l.0 < v = h.0 in grind (arith, nat_tests))
  where
    by : (b : Bool) → nat_eq p l.0 ≡ b → (b || is_marked p ls) ≡ true → nat_le l.0 p ≡ true
    by true is e = grind (arith, nat_tests)
    by false is e = let later : nat_lt l.0 p ≡ true = after_version l.0 p ls h.2 e in grind (arith, nat_tests)

pub newest_last : (v p : ℕ) (ls : List MarkedVersion) (l : MarkedVersion) → AreRising v ls → is_marked p ls ≡ true → slice_get ls (length ls - 1) ≡ Some l → nat_le p l.0 ≡ true
newest_last v p [] l h there last = absurd (none-some l last)
newest_last v p (k ∷ []) l h there last = by (nat_eq p k.0) refl there
  where
    by : (b : Bool) → nat_eq p k.0 ≡ b → (b || false) ≡ true → nat_le p l.0 ≡ true
    by true is e = let same : k.0 ≡ l.0 = ap (λ (x : MarkedVersion). x.0) (same_Some k l last) in grind (arith, nat_tests)
    by false is e = absurd (true≢false (sym e))
newest_last v p (k ∷ j ∷ ls) l h there last = by (nat_eq p k.0) refl there (λ q e. newest_last v q (j ∷ ls) l h.3 e (sym (ap (slice_get (k ∷ j ∷ ls)) shorter) ∙ last))
  where
    shorter : length (k ∷ j ∷ ls) - 1 ≡ suc (length (j ∷ ls) - 1)
    shorter = omega arith

    alike : nat_eq j.0 j.0 ≡ true
    alike = grind (arith, nat_tests)

    first : is_marked j.0 (j ∷ ls) ≡ true
    first = ap (λ b. b || is_marked j.0 ls) alike

    by : (b : Bool) → nat_eq p k.0 ≡ b → (b || is_marked p (j ∷ ls)) ≡ true → ((q : ℕ) → is_marked q (j ∷ ls) ≡ true → nat_le q l.0 ≡ true) → nat_le p l.0 ≡ true
    by true is e rest = let low : k.0 < j.0 = h.2.0 in let high : nat_le j.0 l.0 ≡ true = rest j.0 first in grind (arith, nat_tests)
    by false is e rest = rest p e

pub earliest_first : (v n : ℕ) (ls : List MarkedVersion) (l : MarkedVersion) → slice_get ls 0 ≡ Some l → Some l.0 ≡ earliest (ls ++ here v n)
earliest_first v n [] l first = absurd (none-some l first)
earliest_first v n (k ∷ ls) l first = ap (λ (x : MarkedVersion). Some x.0) (sym (same_Some k l first))

pub earliest_here : (v n : ℕ) (ls : List MarkedVersion) (o : Option ℕ) → slice_get ls 0 ≡ None → IfNone o (n ≡ 0) → IfSome o (λ p. (p ≡ v) × (0 < n)) → o ≡ earliest (ls ++ here v n)
earliest_here v n (k ∷ ls) o first none some = absurd (none-some k (sym first))
earliest_here v zero [] None first none some = refl
earliest_here v (suc n) [] None first none some = absurd (omega (arith, none))
earliest_here v zero [] (Some p) first none some = let low : 0 < 0 = some.1 in absurd (omega (arith, low))
earliest_here v (suc n) [] (Some p) first none some = ap Some some.0

-- ---- one mark less

all_after_fewer : (q p : ℕ) (ls : List MarkedVersion) → AllAfter q ls → AllAfter q (fewer p ls)
all_after_fewer q p [] h = h
all_after_fewer q p (l ∷ ls) h = by (nat_eq p l.0) (nat_le l.1 1) (all_after_fewer q p ls h.1)
  where
    by : (b c : Bool) → AllAfter q (fewer p ls) → AllAfter q (cond b (cond c ls ((l.0, l.1 - 1) ∷ ls)) (l ∷ fewer p ls))
    by true true rest = h.1
    by true false rest = h
    by false c rest = (h.0, rest)

pub rising_fewer : (v p : ℕ) (ls : List MarkedVersion) → AreRising v ls → AreRising v (fewer p ls)
rising_fewer v p [] h = h
rising_fewer v p (l ∷ ls) h = by (nat_eq p l.0) (nat_le l.1 1) refl (rising_fewer v p ls h.3)
  where
    by : (b c : Bool) → nat_le l.1 1 ≡ c → AreRising v (fewer p ls) → AreRising v (cond b (cond c ls ((l.0, l.1 - 1) ∷ ls)) (l ∷ fewer p ls))
    by true true is rest = h.3
    by true false is rest = (h.0, grind (arith, nat_tests), h.2, h.3)
    by false c is rest = (h.0, h.1, all_after_fewer l.0 p ls h.2, rest)

-- of those that stand for what the table is now
pub fewer_here : (v n : ℕ) (ls : List MarkedVersion) → AreRising v ls → fewer v (ls ++ here v n) ≡ ls ++ here v (n - 1)
fewer_here v zero [] h = refl
fewer_here v (suc n) [] h = by n
  where
    alike : nat_eq v v ≡ true
    alike = grind (arith, nat_tests)

    by : (m : ℕ) → fewer v ((v, suc m) ∷ []) ≡ here v (suc m - 1)
    by zero = ap (λ b. cond b (cond (nat_le 1 1) [] ((v, 0) ∷ [])) ((v, 1) ∷ [])) alike
    by (suc m) =
        let many : nat_le (suc (suc m)) 1 ≡ false = grind (arith, nat_tests) in
        let less : suc (suc m) - 1 ≡ suc m = omega arith in
        (λ i. cond (alike i) (cond (many i) [] ((v, less i) ∷ [])) ((v, suc (suc m)) ∷ [])) ∙ ap (here v) (sym less)
fewer_here v n (l ∷ ls) h =
    let low : l.0 < v = h.0 in
    let other : nat_eq v l.0 ≡ false = grind (arith, nat_tests) in
    ap (λ b. cond b (cond (nat_le l.1 1) (ls ++ here v n) ((l.0, l.1 - 1) ∷ (ls ++ here v n))) (l ∷ fewer v (ls ++ here v n))) other ∙ ap (λ xs. l ∷ xs) (fewer_here v n ls h.3)

-- of others
pub fewer_before : (v p n : ℕ) (ls : List MarkedVersion) → nat_eq p v ≡ false → fewer p (ls ++ here v n) ≡ fewer p ls ++ here v n
fewer_before v p zero [] other = refl
fewer_before v p (suc n) [] other = ap (λ b. cond b (cond (nat_le (suc n) 1) [] ((v, suc n - 1) ∷ [])) ((v, suc n) ∷ [])) other
fewer_before v p n (l ∷ ls) other = by (nat_eq p l.0) (nat_le l.1 1) (fewer_before v p n ls other)
  where
    by : (b c : Bool) → fewer p (ls ++ here v n) ≡ fewer p ls ++ here v n
        → cond b (cond c (ls ++ here v n) ((l.0, l.1 - 1) ∷ (ls ++ here v n))) (l ∷ fewer p (ls ++ here v n)) ≡ cond b (cond c ls ((l.0, l.1 - 1) ∷ ls)) (l ∷ fewer p ls) ++ here v n
    by true true rest = refl
    by true false rest = refl
    by false c rest = ap (λ xs. l ∷ xs) rest

-- where the version stands
abbrev pub is_at : ℕ → MarkedVersion → Bool
is_at p l = nat_eq p l.0

pub fewer_at : (p : ℕ) (ls : List MarkedVersion) (i : ℕ) (l : MarkedVersion) → position_or_len (is_at p) ls ≡ i → slice_get ls i ≡ Some l → fewer p ls ≡ cond (nat_le l.1 1) (remove ls i) (slice_set ls i (l.0, l.1 - 1))
fewer_at p [] i l at there = absurd (none-some l there)
fewer_at p (k ∷ ls) i l at there = by (nat_eq p k.0) i at there (λ j. fewer_at p ls j l)
  where
    inner : (b : Bool) → (xs ys : List MarkedVersion) → cond b (k ∷ xs) (k ∷ ys) ≡ k ∷ cond b xs ys
    inner true xs ys = refl
    inner false xs ys = refl

    by : (b : Bool) (i : ℕ) → cond (not b) (1 + position_or_len (is_at p) ls) 0 ≡ i → slice_get (k ∷ ls) i ≡ Some l
        → ((j : ℕ) → position_or_len (is_at p) ls ≡ j → slice_get ls j ≡ Some l → fewer p ls ≡ cond (nat_le l.1 1) (remove ls j) (slice_set ls j (l.0, l.1 - 1)))
        → cond b (cond (nat_le k.1 1) ls ((k.0, k.1 - 1) ∷ ls)) (k ∷ fewer p ls) ≡ cond (nat_le l.1 1) (remove (k ∷ ls) i) (slice_set (k ∷ ls) i (l.0, l.1 - 1))
    by true zero at there rest = ap (λ (x : MarkedVersion). cond (nat_le x.1 1) ls ((x.0, x.1 - 1) ∷ ls)) (same_Some k l there)
    by true (suc i) at there rest = absurd (omega (arith, at))
    by false zero at there rest = absurd (omega (arith, at))
    by false (suc i) at there rest = ap (λ xs. k ∷ xs) (rest i (omega (arith, at)) there) ∙ sym (inner (nat_le l.1 1) (remove ls i) (slice_set ls i (l.0, l.1 - 1)))

pub fewer_nowhere : (p : ℕ) (ls : List MarkedVersion) → nat_lt (position_or_len (is_at p) ls) (length ls) ≡ false → fewer p ls ≡ ls
fewer_nowhere p [] e = refl
fewer_nowhere p (k ∷ ls) e = by (nat_eq p k.0) e (fewer_nowhere p ls)
  where
    by : (b : Bool) → nat_lt (cond (not b) (1 + position_or_len (is_at p) ls) 0) (suc (length ls)) ≡ false → (nat_lt (position_or_len (is_at p) ls) (length ls) ≡ false → fewer p ls ≡ ls)
        → cond b (cond (nat_le k.1 1) ls ((k.0, k.1 - 1) ∷ ls)) (k ∷ fewer p ls) ≡ k ∷ ls
    by true e rest = absurd (true≢false (sym (grind (arith, nat_tests)) ∙ e))
    by false e rest = ap (λ xs. k ∷ xs) (rest (grind (arith, nat_tests)))

none_at : (b : Bool) (n : ℕ) → cond b (Some n) None ≡ None → b ≡ false
none_at true n e = absurd (none-some n (sym e))
none_at false n e = refl

some_at : (b : Bool) (n i : ℕ) → cond b (Some n) None ≡ Some i → n ≡ i
some_at true n i e = same_Some n i e
some_at false n i e = absurd (none-some i e)

pub nowhere : (p : ℕ) (ls : List MarkedVersion) → position (is_at p) ls ≡ None → fewer p ls ≡ ls
nowhere p ls e = fewer_nowhere p ls (none_at (nat_lt (position_or_len (is_at p) ls) (length ls)) (position_or_len (is_at p) ls) e)

pub somewhere : (p : ℕ) (ls : List MarkedVersion) (i : ℕ) (l : MarkedVersion) → position (is_at p) ls ≡ Some i → slice_get ls i ≡ Some l → fewer p ls ≡ cond (nat_le l.1 1) (remove ls i) (slice_set ls i (l.0, l.1 - 1))
somewhere p ls i l at there = fewer_at p ls i l (some_at (nat_lt (position_or_len (is_at p) ls) (length ls)) (position_or_len (is_at p) ls) i at) there

-- ---- one version more

pub rising_later : (v : ℕ) (ls : List MarkedVersion) → AreRising v ls → AreRising (v + 1) ls
rising_later v [] h = h
rising_later v (l ∷ ls) h = let low : l.0 < v = h.0 in (omega (arith, low), h.1, h.2, rising_later v ls h.3)

after_pushed : (q v n : ℕ) (ls : List MarkedVersion) → q < v → AllAfter q ls → AllAfter q (ls ++ (v, n) ∷ [])
after_pushed q v n [] low h = (low, tt)
after_pushed q v n (l ∷ ls) low h = (h.0, after_pushed q v n ls low h.1)

pub rising_pushed : (v n : ℕ) (ls : List MarkedVersion) → 0 < n → AreRising v ls → AreRising (v + 1) (ls ++ (v, n) ∷ [])
rising_pushed v n [] some h = (omega arith, some, tt, tt)
rising_pushed v n (l ∷ ls) some h = let low : l.0 < v = h.0 in (omega (arith, low), h.1, after_pushed l.0 v n ls h.0 h.2, rising_pushed v n ls some h.3)

-- ---- of a chain

pub oldest_of : (x : Chain) (l : MarkedVersion) → AreRising x.version x.live → slice_get x.live 0 ≡ Some l → (p : ℕ) → is_marked p (marked_versions x) ≡ true → nat_le l.0 p ≡ true
oldest_of x l h first p there = by x.live h first there
  where
    by : (ls : List MarkedVersion) → AreRising x.version ls → slice_get ls 0 ≡ Some l → is_marked p (ls ++ here x.version x.fresh) ≡ true → nat_le l.0 p ≡ true
    by [] h first there = absurd (none-some l first)
    by (k ∷ ls) h first there = ap (λ (y : MarkedVersion). nat_le y.0 p) (sym (same_Some k l first)) ∙ oldest_first x.version p x.fresh k ls h there

kept_if : (n p : ℕ) (ls : List MarkedVersion) → is_marked p ls ≡ true → is_kept n ls p ≡ true
kept_if n p ls there = by (nat_le n p)
  where
    by : (b : Bool) → (b || is_marked p ls) ≡ true
    by true = refl
    by false = there

kept_after : (n p : ℕ) (ls : List MarkedVersion) → nat_le n p ≡ true → is_kept n ls p ≡ true
kept_after n p ls late = ap (λ b. b || is_marked p ls) late

pub newest_here : (x : Chain) → AreRising x.version x.live → (n : ℕ) → n ≡ x.version → (p : ℕ) → is_marked p (marked_versions x) ≡ true → (nat_le p n ≡ true) × (is_kept n x.live p ≡ true)
newest_here x h n is p there =
    cases x.version p x.fresh x.live ((nat_le p n ≡ true) × (is_kept n x.live p ≡ true)) there
    (λ e. let low : nat_lt p x.version ≡ true = before_version x.version p x.live h e in (grind (arith, nat_tests), kept_if n p x.live e))
    (λ e _. (grind (arith, nat_tests), kept_after n p x.live (grind (arith, nat_tests))))

last_is : (o : Option MarkedVersion) (n : ℕ) (G : Type 0) → option_map (λ (l : MarkedVersion). l.0) o ≡ Some n → ((l : MarkedVersion) → o ≡ Some l → l.0 ≡ n → G) → G
last_is None n G e f = absurd (none-some n e)
last_is (Some l) n G e f = f l refl (same_Some l.0 n e)

pub newest_before : (x : Chain) → AreRising x.version x.live → x.fresh ≡ 0 → (n : ℕ) → option_map (λ (l : MarkedVersion). l.0) (slice_get x.live (length x.live - 1)) ≡ Some n
    → (p : ℕ) → is_marked p (marked_versions x) ≡ true → (nat_le p n ≡ true) × (is_kept n x.live p ≡ true)
newest_before x h none n last p there =
    let in_live : is_marked p x.live ≡ true = cases x.version p x.fresh x.live (is_marked p x.live ≡ true) there (λ e. e) (λ _ e. absurd (true≢false (sym e ∙ ap (λ m. is_marked p (here x.version m)) none))) in
    last_is (slice_get x.live (length x.live - 1)) n ((nat_le p n ≡ true) × (is_kept n x.live p ≡ true)) last
    (λ l at is. (ap (nat_le p) (sym is) ∙ newest_last x.version p x.live l h in_live at, kept_if n p x.live in_live))

last_low : (v : ℕ) (ls : List MarkedVersion) (i : ℕ) (l : MarkedVersion) → AreRising v ls → slice_get ls i ≡ Some l → nat_le l.0 v ≡ true
last_low v [] i l h at = absurd (none-some l at)
last_low v (k ∷ ls) zero l h at = let low : k.0 < v = h.0 in let same : k.0 ≡ l.0 = ap (λ (x : MarkedVersion). x.0) (same_Some k l at) in grind (arith, nat_tests)
last_low v (k ∷ ls) (suc i) l h at = last_low v ls i l h.3 at

pub newest_past : (x : Chain) → AreRising x.version x.live → (n : ℕ) → option_map (λ (l : MarkedVersion). l.0) (slice_get x.live (length x.live - 1)) ≡ Some n → nat_le n x.version ≡ true
newest_past x h n last =
    last_is (slice_get x.live (length x.live - 1)) n (nat_le n x.version ≡ true) last
    (λ l at is. ap (λ m. nat_le m x.version) (sym is) ∙ last_low x.version x.live (length x.live - 1) l h at)

pub fresh_some : (x : Chain) → AreRising x.version x.live → is_marked x.version (marked_versions x) ≡ true → 1 ≤ x.fresh
fresh_some x h there =
    cases x.version x.version x.fresh x.live (1 ≤ x.fresh) there
    (λ e. let low : nat_lt x.version x.version ≡ true = before_version x.version x.version x.live h e in absurd (grind (arith, nat_tests)))
    (λ _ e. by x.fresh e)
  where
    by : (n : ℕ) → is_marked x.version (here x.version n) ≡ true → 1 ≤ n
    by zero e = absurd (true≢false (sym e))
    by (suc n) e = omega arith

got_version : (ls : List MarkedVersion) (i : ℕ) (l : MarkedVersion) → slice_get ls i ≡ Some l → is_marked l.0 ls ≡ true
got_version [] i l at = absurd (none-some l at)
got_version (k ∷ ls) zero l at = let same : k.0 ≡ l.0 = ap (λ (x : MarkedVersion). x.0) (same_Some k l at) in let own : nat_eq l.0 k.0 ≡ true = grind (arith, nat_tests) in ap (λ b. b || is_marked l.0 ls) own
got_version (k ∷ ls) (suc i) l at = by (nat_eq l.0 k.0) (got_version ls i l at)
  where
    by : (b : Bool) → is_marked l.0 ls ≡ true → (b || is_marked l.0 ls) ≡ true
    by true e = refl
    by false e = e

pub last_there : (x : Chain) (n : ℕ) → option_map (λ (l : MarkedVersion). l.0) (slice_get x.live (length x.live - 1)) ≡ Some n → is_marked n (marked_versions x) ≡ true
last_there x n last =
    last_is (slice_get x.live (length x.live - 1)) n (is_marked n (marked_versions x) ≡ true) last
    (λ l at is. marked-++ n x.live (here x.version x.fresh) ∙ ap (λ m. is_marked m x.live || is_marked m (here x.version x.fresh)) (sym is) ∙ ap (λ b. b || is_marked l.0 (here x.version x.fresh)) (got_version x.live (length x.live - 1) l at))

pub here_there : (x : Chain) (n : ℕ) → n ≡ x.version → 0 < x.fresh → is_marked n (marked_versions x) ≡ true
here_there x n is some = marked-++ n x.live (here x.version x.fresh) ∙ by (is_marked n x.live) x.fresh some
  where
    own : nat_eq n x.version ≡ true
    own = grind (arith, nat_tests)

    by : (b : Bool) (m : ℕ) → 0 < m → (b || is_marked n (here x.version m)) ≡ true
    by true m low = refl
    by false zero low = absurd (omega (arith, low))
    by false (suc m) low = ap (λ b. b || false) own
