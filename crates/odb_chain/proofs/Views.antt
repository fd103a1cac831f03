-- What the marks of one table stand for: by each version, with one mark more or less, and with a change made.
use Rattle.std.proofs.Common.{◌≡◌, ℕ, zero, suc, ◌+◌, ◌-◌, arith, Bool, true, false, cond, ◌||◌, nat_eq, nat_le, nat_lt, List, [], ◌∷◌, ◌++◌, map, Option, Some, None, option_and_then, option_map, refl, sym, ap, subst, ◌∙◌, true≢false}
use Rattle.std.proofs.lemmas.Bool.Decides.{nat_tests}
use Rattle.std.proofs.lemmas.Option.{none-some}
use Rattle.std.specs.FinMap.Entries.{find}
use Rattle.std.specs.Ordering.{eq_by_cmp, nat_cmp}
use Rattle.odb_atoms.specs.FinMap as finite
use Rattle.odb_tables.specs.Database.{Table}
use Rattle.odb_chain.specs.Chains.{Live, Standing, marks_of, one_less, with_standing}
use Rattle.odb_chain.specs.OldRows.{Rows, content_at}
use Rattle.odb_chain.specs.Represented.Chain.{AreApart, AllAfter, AreRising, Chain, IsKeptOf, fewer, here, live_of, marked_versions, stands}
use Rattle.odb_chain.specs.Represented.MarkedVersions.{is_marked}
use Rattle.odb_chain.proofs.Contents.{now_content}
use Rattle.odb_chain.proofs.Numbers.{get-from_entries, get-insert, get-remove, same, same_number, same_test}
use Rattle.odb_chain.proofs.MarkedVersions.{MarkedVersion, after_version, before_version, rising_later, rising_pushed}

abbrev pub stand : Table → Rows → ℕ → ℕ → Standing
stand t rows p n = record { content = content_at p t rows; marks = n }

-- ---- versions that are found

find-stands : (t : Table) (rows : Rows) (p : ℕ) (ls : List MarkedVersion) → find nat_cmp p (map (stands t rows) ls) ≡ option_map (stand t rows p) (find nat_cmp p ls)
find-stands t rows p [] = refl
find-stands t rows p (l ∷ ls) = by (eq_by_cmp nat_cmp p l.0) refl (find-stands t rows p ls)
  where
    by : (b : Bool) → eq_by_cmp nat_cmp p l.0 ≡ b → find nat_cmp p (map (stands t rows) ls) ≡ option_map (stand t rows p) (find nat_cmp p ls)
        → cond b (Some (stand t rows l.0 l.1)) (find nat_cmp p (map (stands t rows) ls)) ≡ option_map (stand t rows p) (cond b (Some l.1) (find nat_cmp p ls))
    by true is rest = ap (λ q. Some (stand t rows q l.1)) (sym (same_number p l.0 is))
    by false is rest = rest

pub get-live_of : (t : Table) (c : Chain) (p : ℕ) → finite.get (live_of t c) p ≡ option_map (stand t c.rows p) (find nat_cmp p (marked_versions c))
get-live_of t c p = get-from_entries (map (stands t c.rows) (marked_versions c)) p ∙ find-stands t c.rows p (marked_versions c)

pub found_version : (p n : ℕ) (ls : List MarkedVersion) → find nat_cmp p ls ≡ Some n → is_marked p ls ≡ true
found_version p n [] e = absurd (none-some n e)
found_version p n (l ∷ ls) e = by (eq_by_cmp nat_cmp p l.0) refl e (found_version p n ls)
  where
    by : (b : Bool) → eq_by_cmp nat_cmp p l.0 ≡ b → cond b (Some l.1) (find nat_cmp p ls) ≡ Some n → (find nat_cmp p ls ≡ Some n → is_marked p ls ≡ true) → (nat_eq p l.0 || is_marked p ls) ≡ true
    by true is e rest = ap (λ b. b || is_marked p ls) (sym (same_test p l.0) ∙ is)
    by false is e rest = ap (λ b. b || is_marked p ls) (sym (same_test p l.0) ∙ is) ∙ rest e

not_version : (p : ℕ) (ls : List MarkedVersion) → is_marked p ls ≡ false → find nat_cmp p ls ≡ None
not_version p ls e = by (find nat_cmp p ls) refl
  where
    by : (o : Option ℕ) → find nat_cmp p ls ≡ o → o ≡ None
    by None is = refl
    by (Some n) is = absurd (true≢false (sym (found_version p n ls is) ∙ e))

find-++ : (p : ℕ) (xs ys : List MarkedVersion) → find nat_cmp p xs ≡ None → find nat_cmp p (xs ++ ys) ≡ find nat_cmp p ys
find-++ p [] ys e = refl
find-++ p (x ∷ xs) ys e = by (eq_by_cmp nat_cmp p x.0) e (find-++ p xs ys)
  where
    by : (b : Bool) → cond b (Some x.1) (find nat_cmp p xs) ≡ None → (find nat_cmp p xs ≡ None → find nat_cmp p (xs ++ ys) ≡ find nat_cmp p ys) → cond b (Some x.1) (find nat_cmp p (xs ++ ys)) ≡ find nat_cmp p ys
    by true e rest = absurd (none-some x.1 (sym e))
    by false e rest = rest e

find-other : (p : ℕ) (xs : List MarkedVersion) (v n m : ℕ) → eq_by_cmp nat_cmp p v ≡ false → find nat_cmp p (xs ++ here v n) ≡ find nat_cmp p (xs ++ here v m)
find-other p [] v n m other = nowhere n ∙ sym (nowhere m)
  where
    nowhere : (k : ℕ) → find nat_cmp p (here v k) ≡ None
    nowhere zero = refl
    nowhere (suc k) = ap (λ b. cond b (Some (suc k)) None) other
find-other p (x ∷ xs) v n m other = ap (cond (eq_by_cmp nat_cmp p x.0) (Some x.1)) (find-other p xs v n m other)

-- ---- one mark more

version_not_before : (v : ℕ) (ls : List MarkedVersion) → AreRising v ls → find nat_cmp v ls ≡ None
version_not_before v ls h = not_version v ls (by (is_marked v ls) refl)
  where
    by : (b : Bool) → is_marked v ls ≡ b → b ≡ false
    by true is = let low : nat_lt v v ≡ true = before_version v v ls h is in absurd (grind (arith, nat_tests))
    by false is = refl

alike : (v : ℕ) → eq_by_cmp nat_cmp v v ≡ true
alike v = same_test v v ∙ grind (arith, nat_tests)

find-here : (v n : ℕ) → find nat_cmp v (here v (suc n)) ≡ Some (suc n)
find-here v n = ap (λ b. cond b (Some (suc n)) None) (alike v)

-- how many marks stand for what the table is now
pub marks_now : (t : Table) (c : Chain) → IsKeptOf t c → marks_of (finite.get (live_of t c) c.version) ≡ c.fresh
marks_now t c h =
    ap marks_of (get-live_of t c c.version ∙ ap (option_map (stand t c.rows c.version)) (find-++ c.version c.live (here c.version c.fresh) (version_not_before c.version c.live h.0)))
    ∙ by c.fresh
  where
    by : (n : ℕ) → marks_of (option_map (stand t c.rows c.version) (find nat_cmp c.version (here c.version n))) ≡ n
    by zero = refl
    by (suc n) = ap (λ o. marks_of (option_map (stand t c.rows c.version) o)) (find-here c.version n)

pub more_marks : (t : Table) (c : Chain) → IsKeptOf t c → live_of t (record c { fresh = c.fresh + 1 }) ≡ finite.insert (live_of t c) c.version (record { content = t; marks = marks_of (finite.get (live_of t c) c.version) + 1 })
more_marks t c h =
    same _ _
    (λ p. get-live_of t (record c { fresh = c.fresh + 1 }) p ∙ by p (eq_by_cmp nat_cmp p c.version) refl ∙ sym (get-insert (live_of t c) c.version (record { content = t; marks = marks_of (finite.get (live_of t c) c.version) + 1 }) p))
  where
    v : ℕ
    v = c.version

    longer : c.fresh + 1 ≡ suc c.fresh
    longer = omega arith

    le_itself : nat_le v v ≡ true
    le_itself = grind (arith, nat_tests)

    now : find nat_cmp v (c.live ++ here v (c.fresh + 1)) ≡ Some (c.fresh + 1)
    now = find-++ v c.live (here v (c.fresh + 1)) (version_not_before v c.live h.0) ∙ ap (λ n. find nat_cmp v (here v n)) longer ∙ find-here v c.fresh ∙ ap Some (sym longer)

    by : (p : ℕ) (b : Bool) → eq_by_cmp nat_cmp p v ≡ b → option_map (stand t c.rows p) (find nat_cmp p (c.live ++ here v (c.fresh + 1)))
        ≡ cond b (Some (record { content = t; marks = marks_of (finite.get (live_of t c) v) + 1 })) (finite.get (live_of t c) p)
    by p true is =
        ap (λ q. option_map (stand t c.rows q) (find nat_cmp q (c.live ++ here v (c.fresh + 1)))) (same_number p v is) ∙ ap (option_map (stand t c.rows v)) now
        ∙ (λ i. let s : Option Standing = Some (record { content = now_content v v t c.rows le_itself h.1 i; marks = sym (marks_now t c h) i + 1 }) in s)
    by p false is = ap (option_map (stand t c.rows p)) (find-other p c.live v (c.fresh + 1) c.fresh is) ∙ sym (get-live_of t c p)

-- ---- one mark less

abbrev pub less : ℕ → Option ℕ
less n = cond (nat_le n 1) None (Some (n - 1))

pub apart : (v : ℕ) (ls : List MarkedVersion) → AreRising v ls → AreApart ls
apart v [] h = tt
apart v (l ∷ ls) h = (h.2, apart v ls h.3)

pub versions_apart : (c : Chain) → AreRising c.version c.live → AreApart (marked_versions c)
versions_apart c h = apart (c.version + 1) (c.live ++ here c.version c.fresh) (by c.fresh)
  where
    append_nil : (ls : List MarkedVersion) → ls ++ [] ≡ ls
    append_nil [] = refl
    append_nil (l ∷ ls) = ap (λ xs. l ∷ xs) (append_nil ls)

    by : (n : ℕ) → AreRising (c.version + 1) (c.live ++ here c.version n)
    by zero = subst (AreRising (c.version + 1)) (sym (append_nil c.live)) (rising_later c.version c.live h)
    by (suc n) = rising_pushed c.version (suc n) c.live (omega arith) h

none_after : (p : ℕ) (ls : List MarkedVersion) → AllAfter p ls → find nat_cmp p ls ≡ None
none_after p ls h = not_version p ls (by (is_marked p ls) refl)
  where
    by : (b : Bool) → is_marked p ls ≡ b → b ≡ false
    by true is = let low : nat_lt p p ≡ true = after_version p p ls h is in absurd (grind (arith, nat_tests))
    by false is = refl

find-fewer : (p q : ℕ) (ls : List MarkedVersion) → AreApart ls → find nat_cmp q (fewer p ls) ≡ cond (eq_by_cmp nat_cmp q p) (option_and_then less (find nat_cmp p ls)) (find nat_cmp q ls)
find-fewer p q [] h = by (eq_by_cmp nat_cmp q p)
  where
    by : (b : Bool) → None ≡ (let o : Option ℕ = cond b None None in o)
    by true = refl
    by false = refl
find-fewer p q (l ∷ ls) h = by (eq_by_cmp nat_cmp p l.0) refl (eq_by_cmp nat_cmp q p) refl (find-fewer p q ls h.1)
  where
    Goal : Bool → Bool → Type 0
    Goal b d = find nat_cmp q (cond b (cond (nat_le l.1 1) ls ((l.0, l.1 - 1) ∷ ls)) (l ∷ fewer p ls)) ≡ cond d (option_and_then less (cond b (Some l.1) (find nat_cmp p ls))) (cond (eq_by_cmp nat_cmp q l.0) (Some l.1) (find nat_cmp q ls))

    -- the mark is one of these
    here_same : p ≡ l.0 → q ≡ p → (e : Bool) → find nat_cmp q (cond e ls ((l.0, l.1 - 1) ∷ ls)) ≡ cond e None (Some (l.1 - 1))
    here_same is at true = ap (λ x. find nat_cmp x ls) (at ∙ is) ∙ none_after l.0 ls h.0
    here_same is at false = ap (λ b. cond b (Some (l.1 - 1)) (find nat_cmp q ls)) (ap (λ x. eq_by_cmp nat_cmp x l.0) (at ∙ is) ∙ alike l.0)

    here_other : eq_by_cmp nat_cmp q l.0 ≡ false → (e : Bool) → find nat_cmp q (cond e ls ((l.0, l.1 - 1) ∷ ls)) ≡ find nat_cmp q ls
    here_other is true = refl
    here_other is false = ap (λ b. cond b (Some (l.1 - 1)) (find nat_cmp q ls)) is

    by : (b : Bool) → eq_by_cmp nat_cmp p l.0 ≡ b → (d : Bool) → eq_by_cmp nat_cmp q p ≡ d → find nat_cmp q (fewer p ls) ≡ cond d (option_and_then less (find nat_cmp p ls)) (find nat_cmp q ls)
        → find nat_cmp q (cond (nat_eq p l.0) (cond (nat_le l.1 1) ls ((l.0, l.1 - 1) ∷ ls)) (l ∷ fewer p ls)) ≡ cond d (option_and_then less (cond b (Some l.1) (find nat_cmp p ls))) (cond (eq_by_cmp nat_cmp q l.0) (Some l.1) (find nat_cmp q ls))
    by true is true at rest = ap (λ b. find nat_cmp q (cond b (cond (nat_le l.1 1) ls ((l.0, l.1 - 1) ∷ ls)) (l ∷ fewer p ls))) (sym (same_test p l.0) ∙ is) ∙ here_same (same_number p l.0 is) (same_number q p at) (nat_le l.1 1)
    by true is false at rest =
        let other : eq_by_cmp nat_cmp q l.0 ≡ false = ap (eq_by_cmp nat_cmp q) (sym (same_number p l.0 is)) ∙ at in
        ap (λ b. find nat_cmp q (cond b (cond (nat_le l.1 1) ls ((l.0, l.1 - 1) ∷ ls)) (l ∷ fewer p ls))) (sym (same_test p l.0) ∙ is) ∙ here_other other (nat_le l.1 1) ∙ sym (ap (λ b. cond b (Some l.1) (find nat_cmp q ls)) other)
    by false is true at rest =
        let other : eq_by_cmp nat_cmp q l.0 ≡ false = ap (λ x. eq_by_cmp nat_cmp x l.0) (same_number q p at) ∙ is in
        ap (λ b. find nat_cmp q (cond b (cond (nat_le l.1 1) ls ((l.0, l.1 - 1) ∷ ls)) (l ∷ fewer p ls))) (sym (same_test p l.0) ∙ is) ∙ ap (λ b. cond b (Some l.1) (find nat_cmp q (fewer p ls))) other ∙ rest
    by false is false at rest =
        ap (λ b. find nat_cmp q (cond b (cond (nat_le l.1 1) ls ((l.0, l.1 - 1) ∷ ls)) (l ∷ fewer p ls))) (sym (same_test p l.0) ∙ is) ∙ ap (cond (eq_by_cmp nat_cmp q l.0) (Some l.1)) rest

get-with_standing : (l : Live) (p : ℕ) (o : Option Standing) (q : ℕ) → finite.get (with_standing l p o) q ≡ cond (eq_by_cmp nat_cmp q p) o (finite.get l q)
get-with_standing l p None q = get-remove l p q
get-with_standing l p (Some x) q = get-insert l p x q

-- a content with one mark less
less_stands : (t : Table) (rows : Rows) (p : ℕ) (o : Option ℕ) → option_map (stand t rows p) (option_and_then less o) ≡ option_and_then one_less (option_map (stand t rows p) o)
less_stands t rows p None = refl
less_stands t rows p (Some n) = by (nat_le n 1)
  where
    by : (b : Bool) → option_map (stand t rows p) (cond b None (Some (n - 1))) ≡ cond b None (Some (stand t rows p (n - 1)))
    by true = refl
    by false = refl

same_stand : (t : Table) (old new : Rows) (p : ℕ) (o : Option ℕ) → ((n : ℕ) → o ≡ Some n → content_at p t new ≡ content_at p t old) → option_map (stand t new p) o ≡ option_map (stand t old p) o
same_stand t old new p None f = refl
same_stand t old new p (Some n) f = ap (λ x. let s : Option Standing = Some (record { content = x; marks = n }) in s) (f n refl)

pub fewer_marks : (t : Table) (p : ℕ) (old new : Chain) → AreRising old.version old.live → marked_versions new ≡ fewer p (marked_versions old)
    → ((q : ℕ) → is_marked q (marked_versions new) ≡ true → content_at q t new.rows ≡ content_at q t old.rows)
    → live_of t new ≡ with_standing (live_of t old) p (option_and_then one_less (finite.get (live_of t old) p))
fewer_marks t p old new h is contents =
    same _ _
    (λ q. get-live_of t new q ∙ same_stand t old.rows new.rows q (find nat_cmp q (marked_versions new)) (λ n e. contents q (found_version q n (marked_versions new) e))
    ∙ ap (option_map (stand t old.rows q)) (ap (find nat_cmp q) is ∙ find-fewer p q (marked_versions old) (versions_apart old h))
    ∙ by q (eq_by_cmp nat_cmp q p) refl
    ∙ sym (get-with_standing (live_of t old) p (option_and_then one_less (finite.get (live_of t old) p)) q))
  where
    by : (q : ℕ) (b : Bool) → eq_by_cmp nat_cmp q p ≡ b → option_map (stand t old.rows q) (cond b (option_and_then less (find nat_cmp p (marked_versions old))) (find nat_cmp q (marked_versions old)))
        ≡ cond b (option_and_then one_less (finite.get (live_of t old) p)) (finite.get (live_of t old) q)
    by q true is = ap (λ x. option_map (stand t old.rows x) (option_and_then less (find nat_cmp p (marked_versions old)))) (same_number q p is) ∙ less_stands t old.rows p (find nat_cmp p (marked_versions old)) ∙ ap (option_and_then one_less) (sym (get-live_of t old p))
    by q false is = sym (get-live_of t old q)

-- ---- the same marks

same_list : (t s : Table) (old new : Rows) (ls : List MarkedVersion) → ((p : ℕ) → is_marked p ls ≡ true → content_at p s new ≡ content_at p t old) → map (stands s new) ls ≡ map (stands t old) ls
same_list t s old new [] f = refl
same_list t s old new (l ∷ ls) f =
    let own : nat_eq l.0 l.0 ≡ true = grind (arith, nat_tests) in
    λ i. (l.0, record { content = f l.0 (ap (λ b. b || is_marked l.0 ls) own) i; marks = l.1 }) ∷ same_list t s old new ls (λ p there. f p (by (nat_eq p l.0) p there)) i
  where
    by : (b : Bool) (p : ℕ) → is_marked p ls ≡ true → (b || is_marked p ls) ≡ true
    by true p there = refl
    by false p there = there

pub same_marks : (t s : Table) (old new : Chain) → marked_versions new ≡ marked_versions old → ((p : ℕ) → is_marked p (marked_versions old) ≡ true → content_at p s new.rows ≡ content_at p t old.rows) → live_of s new ≡ live_of t old
same_marks t s old new is f = ap (λ ls. finite.from_entries {R = nat_cmp} (map (stands s new.rows) ls)) is ∙ ap (finite.from_entries {R = nat_cmp}) (same_list t s old.rows new.rows (marked_versions old) f)
