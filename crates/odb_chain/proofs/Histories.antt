-- What is kept of one row. What the row is now may be added: that changes nothing. What is kept is so whatever the row becomes. What no version needs may go.
use Rattle.std.proofs.Common.{◌≡◌, ℕ, ◌+◌, arith, Bool, true, false, cond, if◌then◌else◌, not, ◌||◌, ◌&&◌, nat_le, nat_lt, nat_eq, List, [], ◌∷◌, ◌++◌, Option, refl, sym, ap, ◌∙◌, true≢false}
use Rattle.std.proofs.lemmas.Bool.Decides.{nat_tests}
use Rattle.std.specs.List.{dedup_from}
use Rattle.odb_atoms.specs.Row.{Row}
use Rattle.odb_chain.specs.OldRows.{History, at, reaches}
use Rattle.odb_chain.specs.Represented.MarkedVersions.{Past, cleaned, is_between, is_kept, is_label, is_marked}

abbrev Old : Type 0
Old = ℕ × Option Row

-- ---- neutral, found, needless

pub neutral : (p n : ℕ) (r : Option Row) (h : History) → at p r (h ++ (n, r) ∷ []) ≡ at p r h
neutral p n r [] = by (nat_le p n)
  where
    by : (b : Bool) → (if b then r else r) ≡ r
    by true = refl
    by false = refl
neutral p n r (e ∷ es) = ap (λ x. if nat_le p e.0 then e.1 else x) (neutral p n r es)

pub found : (p : ℕ) (r s : Option Row) (h : History) → reaches p h ≡ true → at p r h ≡ at p s h
found p r s [] e = absurd (true≢false (sym e))
found p r s (x ∷ xs) e = by (nat_le p x.0) e (found p r s xs)
  where
    by : (b : Bool) → (b || reaches p xs) ≡ true → (reaches p xs ≡ true → at p r xs ≡ at p s xs) → (if b then x.1 else at p r xs) ≡ (if b then x.1 else at p s xs)
    by true e rest = refl
    by false e rest = rest e

-- a version that isn't reached
pub beyond : (p : ℕ) (r : Option Row) (h : History) → reaches p h ≡ false → at p r h ≡ r
beyond p r [] e = refl
beyond p r (x ∷ xs) e = by (nat_le p x.0) e (beyond p r xs)
  where
    by : (b : Bool) → (b || reaches p xs) ≡ false → (reaches p xs ≡ false → at p r xs ≡ r) → (if b then x.1 else at p r xs) ≡ r
    by true e rest = absurd (true≢false e)
    by false e rest = rest e

-- a version that isn't between two others isn't reached by the later one, where it is after the earlier one
apart : (a b p : ℕ) (ls : List (ℕ × ℕ)) → is_marked p ls ≡ true → is_between ls a b ≡ false → nat_le p a ≡ false → nat_le p b ≡ false
apart a b p [] there none before = absurd (true≢false (sym there))
apart a b p (l ∷ ls) there none before = by (nat_eq p l.0) refl (nat_lt a l.0 && nat_le l.0 b) refl there none (apart a b p ls)
  where
    by : (c : Bool) → nat_eq p l.0 ≡ c → (d : Bool) → (nat_lt a l.0 && nat_le l.0 b) ≡ d → (c || is_marked p ls) ≡ true → (d || is_between ls a b) ≡ false
        → (is_marked p ls ≡ true → is_between ls a b ≡ false → nat_le p a ≡ false → nat_le p b ≡ false) → nat_le p b ≡ false
    by c is true in_it there none rest = absurd (true≢false none)
    by true is false out there none rest = grind (arith, nat_tests)
    by false is false out there none rest = rest there none before

module _ (ls : List (ℕ × ℕ)) where
  abbrev is_needless : Old → Old → Bool
  is_needless later earlier = not (is_between ls earlier.0 later.0)

  not_true : (b : Bool) → not b ≡ true → b ≡ false
  not_true true e = absurd (true≢false (sym e))
  not_true false e = refl

  skipped : (b c : Bool) (k x a : Option Row) → (b ≡ false → c ≡ false) → (if b then k else a) ≡ (if b then k else (if c then x else a))
  skipped true c k x a f = refl
  skipped false c k x a f = ap (λ d. if d then x else a) (sym (f refl))

  needless_from : (p : ℕ) (r : Option Row) (k : Old) (xs : History) → is_marked p ls ≡ true → at p r (dedup_from is_needless k xs) ≡ at p r (k ∷ xs)
  needless_from p r k [] h = refl
  needless_from p r k (x ∷ xs) h = by (is_needless x k) refl (needless_from p r k xs h) (needless_from p r x xs h)
    where
      by : (b : Bool) → is_needless x k ≡ b → at p r (dedup_from is_needless k xs) ≡ at p r (k ∷ xs) → at p r (dedup_from is_needless x xs) ≡ at p r (x ∷ xs)
          → at p r (cond b (dedup_from is_needless k xs) (k ∷ dedup_from is_needless x xs)) ≡ at p r (k ∷ x ∷ xs)
      by true is stays goes = stays ∙ skipped (nat_le p k.0) (nat_le p x.0) k.1 x.1 (at p r xs) (apart k.0 x.0 p ls h (not_true _ is))
      by false is stays goes = ap (λ y. if nat_le p k.0 then k.1 else y) goes

  pub needless : (p : ℕ) (r : Option Row) (h : History) → is_marked p ls ≡ true → at p r (cleaned ls h) ≡ at p r h
  needless p r [] there = refl
  needless p r (k ∷ xs) there = needless_from p r k xs there

  -- what isn't reached isn't either by what is left
  unreached_from : (p : ℕ) (k : Old) (xs : History) → reaches p (k ∷ xs) ≡ false → reaches p (dedup_from is_needless k xs) ≡ false
  unreached_from p k [] h = h
  unreached_from p k (x ∷ xs) h = by (is_needless x k) (nat_le p k.0) refl (nat_le p x.0) refl h (unreached_from p k xs) (unreached_from p x xs)
    where
      by : (b c : Bool) → nat_le p k.0 ≡ c → (d : Bool) → nat_le p x.0 ≡ d → (c || (d || reaches p xs)) ≡ false → (reaches p (k ∷ xs) ≡ false → reaches p (dedup_from is_needless k xs) ≡ false)
          → (reaches p (x ∷ xs) ≡ false → reaches p (dedup_from is_needless x xs) ≡ false) → reaches p (cond b (dedup_from is_needless k xs) (k ∷ dedup_from is_needless x xs)) ≡ false
      by b true is d at_x h stays goes = absurd (true≢false h)
      by b false is true at_x h stays goes = absurd (true≢false h)
      by true false is false at_x h stays goes = stays (ap (λ y. y || reaches p xs) is ∙ h)
      by false false is false at_x h stays goes = ap (λ y. y || reaches p (dedup_from is_needless x xs)) is ∙ goes (ap (λ y. y || reaches p xs) at_x ∙ h)

  unreached : (p : ℕ) (h : History) → reaches p h ≡ false → reaches p (cleaned ls h) ≡ false
  unreached p [] e = e
  unreached p (k ∷ xs) e = unreached_from p k xs e

  past_from : (v : ℕ) (r : Option Row) (k : Old) (xs : History) → Past v r (k ∷ xs) → Past v r (dedup_from is_needless k xs)
  past_from v r k [] h = h
  past_from v r k (x ∷ xs) h = by (is_needless x k) (past_from v r k xs (h.0, h.1, h.2.2)) (past_from v r x xs h.2)
    where
      by : (b : Bool) → Past v r (dedup_from is_needless k xs) → Past v r (dedup_from is_needless x xs) → Past v r (cond b (dedup_from is_needless k xs) (k ∷ dedup_from is_needless x xs))
      by true stays goes = stays
      by false stays goes = (h.0, h.1, goes)

  pub past_cleaned : (v : ℕ) (r : Option Row) (h : History) → Past v r h → Past v r (cleaned ls h)
  past_cleaned v r [] h = h
  past_cleaned v r (k ∷ xs) h = past_from v r k xs h

-- ---- what is reached

pub reached_before : (n p : ℕ) (h : History) → nat_le p n ≡ true → reaches n h ≡ true → reaches p h ≡ true
reached_before n p [] le e = e
reached_before n p (x ∷ xs) le e = by (nat_le n x.0) refl (nat_le p x.0) refl e (reached_before n p xs le)
  where
    by : (b : Bool) → nat_le n x.0 ≡ b → (c : Bool) → nat_le p x.0 ≡ c → (b || reaches n xs) ≡ true → (reaches n xs ≡ true → reaches p xs ≡ true) → (c || reaches p xs) ≡ true
    by b is true it e rest = refl
    by true is false it e rest = absurd (true≢false (sym (grind (arith, nat_tests)) ∙ it))
    by false is false it e rest = rest e

pub unreached_after : (n p : ℕ) (h : History) → nat_le n p ≡ true → reaches n h ≡ false → reaches p h ≡ false
unreached_after n p h le e = by (reaches p h) refl
  where
    by : (b : Bool) → reaches p h ≡ b → b ≡ false
    by true is = absurd (true≢false (sym (reached_before p n h le is) ∙ e))
    by false is = refl

le_itself : (n : ℕ) → nat_le n n ≡ true
le_itself n = grind (arith, nat_tests)

pub reached_pushed : (n : ℕ) (r : Option Row) (h : History) → reaches n (h ++ (n, r) ∷ []) ≡ true
reached_pushed n r [] = ap (λ b. b || false) (le_itself n)
reached_pushed n r (x ∷ xs) = by (nat_le n x.0) (reached_pushed n r xs)
  where
    by : (b : Bool) → reaches n (xs ++ (n, r) ∷ []) ≡ true → (b || reaches n (xs ++ (n, r) ∷ [])) ≡ true
    by true e = refl
    by false e = e

-- ---- of the past

pub past_pushed : (v n : ℕ) (r : Option Row) (h : History) → nat_le n v ≡ true → Past v r h → Past v r (h ++ (n, r) ∷ [])
past_pushed v n r [] le h = (le, λ _. refl, tt)
past_pushed v n r (x ∷ xs) le h = (h.0, h.1, past_pushed v n r xs le h.2)

-- at the version, and after it, the row is what it is now
pub past_at : (v p : ℕ) (r : Option Row) (h : History) → nat_le v p ≡ true → Past v r h → at p r h ≡ r
past_at v p r [] le h = refl
past_at v p r (x ∷ xs) le h = by (nat_le p x.0) refl (past_at v p r xs le h.2)
  where
    by : (b : Bool) → nat_le p x.0 ≡ b → at p r xs ≡ r → (if b then x.1 else at p r xs) ≡ r
    by true is rest = h.1 (grind (arith, nat_tests))
    by false is rest = rest

-- one version later the row may be another
pub past_moved : (v : ℕ) (r s : Option Row) (h : History) → Past v r h → Past (v + 1) s h
past_moved v r s [] h = tt
past_moved v r s (x ∷ xs) h = let low : nat_le x.0 v ≡ true = h.0 in (grind (arith, nat_tests), λ high. absurd (true≢false (sym high ∙ grind (arith, nat_tests))), past_moved v r s xs h.2)

-- ---- a push

module _ (n : ℕ) (ls : List (ℕ × ℕ)) (r : Option Row) (h : History) (new : reaches n h ≡ false) where
  pub clean_same : (p : ℕ) → is_kept n ls p ≡ true → at p r (cleaned ls h) ≡ at p r h
  clean_same p kept = by (nat_le n p) refl kept
    where
      by : (b : Bool) → nat_le n p ≡ b → (b || is_marked p ls) ≡ true → at p r (cleaned ls h) ≡ at p r h
      by true is e = beyond p r (cleaned ls h) (unreached_after n p (cleaned ls h) is (unreached ls n h new)) ∙ sym (beyond p r h (unreached_after n p h is new))
      by false is e = needless ls p r h e

-- ---- up to which versions old rows are kept

pub or_left : (a b : Bool) → a ≡ true → (a || b) ≡ true
or_left true b e = refl
or_left false b e = absurd (true≢false (sym e))

pub or_right : (a b : Bool) → b ≡ true → (a || b) ≡ true
or_right true b e = refl
or_right false b e = e

pub or_weaker : (a b c : Bool) → (a ≡ true → b ≡ true) → (a || c) ≡ true → (b || c) ≡ true
or_weaker true b c f e = or_left b c (f refl)
or_weaker false b c f e = or_right b c e

module _ (ls : List (ℕ × ℕ)) (q : ℕ) where
  label_from : (k : Old) (xs : History) → is_label q (dedup_from (is_needless ls) k xs) ≡ true → is_label q (k ∷ xs) ≡ true
  label_from k [] e = e
  label_from k (x ∷ xs) e = by (is_needless ls x k) e (label_from k xs) (label_from x xs)
    where
      skip : (a b c : Bool) → (a || c) ≡ true → (a || (b || c)) ≡ true
      skip true b c e = refl
      skip false b c e = or_right b c e

      both : (a b c : Bool) → (b ≡ true → c ≡ true) → (a || b) ≡ true → (a || c) ≡ true
      both true b c f e = refl
      both false b c f e = f e

      by : (b : Bool) → is_label q (cond b (dedup_from (is_needless ls) k xs) (k ∷ dedup_from (is_needless ls) x xs)) ≡ true → (is_label q (dedup_from (is_needless ls) k xs) ≡ true → is_label q (k ∷ xs) ≡ true)
          → (is_label q (dedup_from (is_needless ls) x xs) ≡ true → is_label q (x ∷ xs) ≡ true) → is_label q (k ∷ x ∷ xs) ≡ true
      by true e stays goes = skip (nat_eq q k.0) (nat_eq q x.0) (is_label q xs) (stays e)
      by false e stays goes = both (nat_eq q k.0) (is_label q (dedup_from (is_needless ls) x xs)) (is_label q (x ∷ xs)) goes e

  pub label_cleaned : (h : History) → is_label q (cleaned ls h) ≡ true → is_label q h ≡ true
  label_cleaned [] e = e
  label_cleaned (k ∷ xs) e = label_from k xs e

pub label_pushed : (q n : ℕ) (r : Option Row) (h : History) → is_label q (h ++ (n, r) ∷ []) ≡ true → (is_label q h || nat_eq q n) ≡ true
label_pushed q n r [] e = by (nat_eq q n) e
  where
    by : (b : Bool) → (b || false) ≡ true → b ≡ true
    by true e = refl
    by false e = e
label_pushed q n r (x ∷ xs) e = by (nat_eq q x.0) e (label_pushed q n r xs)
  where
    by : (b : Bool) → (b || is_label q (xs ++ (n, r) ∷ [])) ≡ true → (is_label q (xs ++ (n, r) ∷ []) ≡ true → (is_label q xs || nat_eq q n) ≡ true) → ((b || is_label q xs) || nat_eq q n) ≡ true
    by true e rest = refl
    by false e rest = rest e
