-- The index finds a session by the keys of what it asks, also after a filter is added, taken out or forgotten.
use Rattle.std.specs.Prelude.{◌≡◌, ℕ, zero, suc, ◌+◌, ◌<◌, Bool, true, false, cond, not, ◌&&◌, ◌||◌, ◌==◌, List, [], ◌∷◌, ◌++◌, length, map, take, drop, slice_get, Option, Some, None}
use mathlib.Core.Bool.{true≢false}
use mathlib.Core.Logic.{inl, inr}
use mathlib.Core.Path.{refl, sym, ap, ◌∙◌}
use Rattle.std.proofs.Common.{get_or, slice_set}
use Rattle.std.proofs.lemmas.List.{take-append-drop, take_more}
use Rattle.std.proofs.lemmas.List.Folds.{list_any-append, list_any_more}
use Rattle.std.proofs.lemmas.Option.{none-some, same_Some}
use Rattle.std.specs.Cmp.{unsigned_Decides}
use Rattle.std.specs.List.{cons_option, filter_map, list_any}
use Rattle.odb_cond.specs.Filter.{Filter}
use Rattle.odb_cond.specs.Represented.Filter.{member_of}
use Rattle.odb_cond.specs.declared.filter.Member.{Member}
use Rattle.odb_interest.specs.Keys.{Asked, Interests, Key, asked_at, key_of}
use Rattle.odb_interest.specs.Represented.Asked.{LosesFirst}
use Rattle.odb_interest.specs.Represented.SessionsByKey.{Covers, CoversLacking, CoversSome, Indexes, IsUnchanged, Puts, Uncovers, UncoversAll, UncoversAt, UncoversFound, finds, is_own}
use Rattle.odb_interest.specs.Represented.Key.{among, has_key, held, is_asked, same_key}
use Rattle.odb_interest.specs.Represented.Lists.{Asks, IsSame, with_filter}
use Rattle.odb_interest.specs.declared.index.SessionsByKey.{SessionsByKey}
use Rattle.odb_interest.proofs.Booleans.{all_out, back, both_parts, each_part, exchanged_none, exchanged_one, goes, grouped, middle_out, never_own, not_own, one_fewer, one_filter_fewer, one_more, or_false, or_turned, own, part_reached, put_among, some_reached, stays, stays_so, twice_not}
use Rattle.odb_interest.proofs.Asking.{asks_itself}
use Rattle.odb_interest.proofs.Touching.{key_is, same_number}

-- ---- the keys of a filter, member by member

any-filter_map : {X Y : Type 0} (p : Y → Bool) (f : X → Option Y) (xs : List X) → list_any p (filter_map f xs) ≡ list_any (λ x. held p (f x)) xs
any-filter_map p f [] = refl
any-filter_map {Y = Y} p f (x ∷ xs) = by (f x) ∙ ap (λ b. held p (f x) || b) (any-filter_map p f xs)
  where
    by : (o : Option Y) → list_any p (cons_option o (filter_map f xs)) ≡ (held p o || list_any p (filter_map f xs))
    by None = refl
    by (Some y) = refl

any-members : (p : Key → Bool) (ms : List Member) → list_any (λ m. held p (key_of m)) (map member_of ms) ≡ list_any (λ m. held p (key_of (member_of m))) ms
any-members p [] = refl
any-members p (m ∷ ms) = ap (λ b. held p (key_of (member_of m)) || b) (any-members p ms)

-- a filter with members is looked up by theirs
pub among-has_key : (ms : List Member) (k : Key) → (length ms == 0) ≡ false → among ms k ≡ has_key k (map member_of ms)
among-has_key [] k e = absurd (true≢false e)
among-has_key (m ∷ ms) k e = sym (any-filter_map (same_key k) key_of (map member_of (m ∷ ms)) ∙ any-members (same_key k) (m ∷ ms))

among_more : (ms : List Member) (i : ℕ) (m : Member) (k : Key) → i < length ms → m ≡ get_or ms i m → among (take (i + 1) ms) k ≡ (among (take i ms) k || held (same_key k) (key_of (member_of m)))
among_more ms i m k inside is =
    list_any_more (λ x. held (same_key k) (key_of (member_of x))) ms i m inside
    ∙ ap (λ x. among (take i ms) k || held (same_key k) (key_of (member_of x))) (sym is)

among_part : (ms : List Member) (i : ℕ) (k : Key) → among (take i ms) k ≡ true → among ms k ≡ true
among_part ms i k h =
    ap (λ xs. among xs k) (sym (take-append-drop i ms)) ∙ list_any-append (λ x. held (same_key k) (key_of (member_of x))) (take i ms) (drop i ms) ∙ ap (λ b. b || among (drop i ms) k) h

-- ---- one key

module _ (table session : ℕ) where
  pub put_covers : (now new : SessionsByKey) (key : Key) → Puts now new table key session true → Covers now new table (λ k. same_key k key) session
  put_covers now new key puts t k s = puts t k s ∙ put_among (finds now t k s) (table == t) (same_key k key) (session == s)

  pub put_releases : (now new : SessionsByKey) (key : Key) (others : List Asked) → is_asked others table key ≡ false → Puts now new table key session false → Uncovers now new table (λ k. same_key k key) session others
  put_releases now new key others none puts t k s =
      puts t k s
      ∙ goes (finds now t k s) (table == t) (same_key k key) (session == s) (is_asked others t k)
      (λ here same. (λ i. is_asked others (sym (same_number table t here) i) (key_is k key same i)) ∙ none)

  pub none_releases : (now : SessionsByKey) (key : Key) (others : List Asked) → is_asked others table key ≡ true → Uncovers now now table (λ k. same_key k key) session others
  none_releases now key others some t k s =
      stays (finds now t k s) (table == t) (same_key k key) (session == s) (is_asked others t k)
      (λ here same. (λ i. is_asked others (sym (same_number table t here) i) (key_is k key same i)) ∙ some)

  -- ---- the same for other tests, and for one member more

  pub covers_by : (old new : SessionsByKey) (p q : Key → Bool) → ((k : Key) → p k ≡ q k) → Covers old new table p session → Covers old new table q session
  covers_by old new p q is h t k s = h t k s ∙ ap (λ b. finds old t k s || (is_own table session t s && b)) (is k)

  pub covers_some_by : (old new : SessionsByKey) (p q : Key → Bool) → ((k : Key) → p k ≡ q k) → CoversSome old new table p session → CoversSome old new table q session
  covers_some_by old new p q is h t k s = let w = h t k s in (w.0, w.1 ∙ ap (λ b. finds old t k s || (w.0 && (is_own table session t s && b))) (is k))

  pub uncovers_by : (old new : SessionsByKey) (p q : Key → Bool) (others : List Asked) → ((k : Key) → p k ≡ q k) → Uncovers old new table p session others → Uncovers old new table q session others
  uncovers_by old new p q others is h t k s = h t k s ∙ ap (λ b. finds old t k s && not (is_own table session t s && (b && not (is_asked others t k)))) (is k)

  pub covers_more : (old now new : SessionsByKey) (ms : List Member) (i : ℕ) (m : Member) → i < length ms → m ≡ get_or ms i m → Covers old now table (among (take i ms)) session → Covers now new table (λ k. held (same_key k) (key_of (member_of m))) session → Covers old new table (among (take (i + 1) ms)) session
  covers_more old now new ms i m inside is before more t k s =
      more t k s ∙ ap (λ b. b || (is_own table session t s && held (same_key k) (key_of (member_of m)))) (before t k s)
      ∙ one_more (finds old t k s) (is_own table session t s) (among (take i ms) k) (held (same_key k) (key_of (member_of m)))
      ∙ ap (λ b. finds old t k s || (is_own table session t s && b)) (sym (among_more ms i m k inside is))

  pub uncovers_more : (old now new : SessionsByKey) (ms : List Member) (i : ℕ) (m : Member) (others : List Asked) → i < length ms → m ≡ get_or ms i m → Uncovers old now table (among (take i ms)) session others → Uncovers now new table (λ k. held (same_key k) (key_of (member_of m))) session others → Uncovers old new table (among (take (i + 1) ms)) session others
  uncovers_more old now new ms i m others inside is before more t k s =
      more t k s ∙ ap (λ b. b && not (is_own table session t s && (held (same_key k) (key_of (member_of m)) && not (is_asked others t k)))) (before t k s)
      ∙ one_fewer (finds old t k s) (is_own table session t s) (among (take i ms) k) (held (same_key k) (key_of (member_of m))) (not (is_asked others t k))
      ∙ ap (λ b. finds old t k s && not (is_own table session t s && (b && not (is_asked others t k)))) (sym (among_more ms i m k inside is))

  pub none_covers : (now : SessionsByKey) (p : Key → Bool) → ((k : Key) → p k ≡ false) → Covers now now table p session
  none_covers now p none t k s = by (finds now t k s) (is_own table session t s) ∙ ap (λ b. finds now t k s || (is_own table session t s && b)) (sym (none k))
    where
      by : (b o : Bool) → b ≡ (b || (o && false))
      by true o = refl
      by false true = refl
      by false false = refl

  pub none_uncovers : (now : SessionsByKey) (p : Key → Bool) (others : List Asked) → ((k : Key) → p k ≡ false) → Uncovers now now table p session others
  none_uncovers now p others none t k s = by (finds now t k s) (is_own table session t s) (not (is_asked others t k)) ∙ ap (λ b. finds now t k s && not (is_own table session t s && (b && not (is_asked others t k)))) (sym (none k))
    where
      by : (b o n : Bool) → b ≡ (b && not (o && (false && n)))
      by false o n = refl
      by true true n = refl
      by true false n = refl

  -- where memory was refused, the keys so far are covered
  pub covers_so_far : (old now new : SessionsByKey) (ms : List Member) (i : ℕ) → Covers old now table (among (take i ms)) session → IsUnchanged now new → CoversSome old new table (among ms) session
  covers_so_far old now new ms i before same t k s = (
    among (take i ms) k,
    same t k s ∙ before t k s ∙ some_reached (finds old t k s) (is_own table session t s) (among (take i ms) k) (among ms k) (among_part ms i k),
  )

-- ---- the keys that the other filter lacks

-- one of the members of the code is looked up by the key, so the filter is
pub among_gives : (ms : List Member) (k : Key) → among ms k ≡ true → has_key k (map member_of ms) ≡ true
among_gives [] k h = absurd (true≢false (sym h))
among_gives (m ∷ ms) k h = any-filter_map (same_key k) key_of (map member_of (m ∷ ms)) ∙ any-members (same_key k) (m ∷ ms) ∙ h

pub at_place : (ms : List Member) (i : ℕ) (m : Member) (k : Key) → i < length ms → m ≡ get_or ms i m → held (same_key k) (key_of (member_of m)) ≡ true → among ms k ≡ true
at_place ms i m k inside is h =
    among_part ms (i + 1) k (among_more ms i m k inside is ∙ ap (λ b. among (take i ms) k || b) h ∙ or_turned (among (take i ms) k) true)

-- what is looked up by a key that is among the members
pub near_has : (ms : List Member) (o : Option Key) (key k : Key) → o ≡ Some key → among ms key ≡ true → held (same_key k) o ≡ true → among ms k ≡ true
near_has ms o key k is found h = ap (among ms) (key_is k key (sym (ap (held (same_key k)) is) ∙ h)) ∙ found

module _ (table session : ℕ) where
  pub covers_lacking : (old new : SessionsByKey) (p other : Key → Bool) → Covers old new table p session → CoversLacking old new table p other session
  covers_lacking old new p other h t k s = (true, λ _. refl, h t k s)

  pub none_lacking : (now : SessionsByKey) (p other : Key → Bool) → ((k : Key) → p k ≡ true → other k ≡ true) → CoversLacking now now table p other session
  none_lacking now p other h t k s = (false, h k, or_false (finds now t k s))

  pub covers_lacking_by : (old new : SessionsByKey) (p q other : Key → Bool) → ((k : Key) → p k ≡ q k) → CoversLacking old new table p other session → CoversLacking old new table q other session
  covers_lacking_by old new p q other is h t k s =
      let w = h t k s in
      (w.0, λ has. w.1 (is k ∙ has), w.2 ∙ ap (λ b. finds old t k s || (w.0 && (is_own table session t s && b))) (is k))

  pub some_lacking : (old new : SessionsByKey) (p other : Key → Bool) → CoversLacking old new table p other session → CoversSome old new table p session
  some_lacking old new p other h t k s = let w = h t k s in (w.0, w.2)

  pub lacking_more : (old now new : SessionsByKey) (ms : List Member) (i : ℕ) (m : Member) (other : Key → Bool) → i < length ms → m ≡ get_or ms i m → CoversLacking old now table (among (take i ms)) other session → CoversLacking now new table (λ k. held (same_key k) (key_of (member_of m))) other session → CoversLacking old new table (among (take (i + 1) ms)) other session
  lacking_more old now new ms i m other inside is before more t k s =
      let w = before t k s in
      let v = more t k s in
      let p = among (take i ms) k in
      let q = held (same_key k) (key_of (member_of m)) in
      let o = is_own table session t s in (
        ((w.0 && p) || (v.0 && q)),
        λ has. each_part p q w.0 v.0 (other k) w.1 v.1 (sym (among_more ms i m k inside is) ∙ has),
        v.2 ∙ ap (λ b. b || (v.0 && (o && q))) w.2 ∙ both_parts (finds old t k s) o p q w.0 v.0
            ∙ ap (λ b. finds old t k s || (((w.0 && p) || (v.0 && q)) && (o && b))) (sym (among_more ms i m k inside is)),
      )

  -- where memory was refused, some keys are covered
  pub lacking_so_far : (old now new : SessionsByKey) (ms : List Member) (i : ℕ) (other : Key → Bool) → CoversLacking old now table (among (take i ms)) other session → IsUnchanged now new → CoversSome old new table (among ms) session
  lacking_so_far old now new ms i other before same t k s =
      let w = before t k s in (
        (w.0 && among (take i ms) k),
        same t k s ∙ w.2 ∙ part_reached (finds old t k s) (is_own table session t s) (among (take i ms) k) (among ms k) w.0 (among_part ms i k),
      )

  -- ---- the keys by which another index finds it

  pub found_by : (old new : SessionsByKey) (p q : Key → Bool) (found : SessionsByKey) → ((k : Key) → p k ≡ q k) → UncoversFound old new table p session found → UncoversFound old new table q session found
  found_by old new p q found is h t k s = h t k s ∙ ap (λ b. finds old t k s && not (is_own table session t s && (b && finds found table k session))) (is k)

  pub found_more : (old now new : SessionsByKey) (ms : List Member) (i : ℕ) (m : Member) (found : SessionsByKey) → i < length ms → m ≡ get_or ms i m → UncoversFound old now table (among (take i ms)) session found → UncoversFound now new table (λ k. held (same_key k) (key_of (member_of m))) session found → UncoversFound old new table (among (take (i + 1) ms)) session found
  found_more old now new ms i m found inside is before more t k s =
      more t k s ∙ ap (λ b. b && not (is_own table session t s && (held (same_key k) (key_of (member_of m)) && finds found table k session))) (before t k s)
      ∙ one_fewer (finds old t k s) (is_own table session t s) (among (take i ms) k) (held (same_key k) (key_of (member_of m))) (finds found table k session)
      ∙ ap (λ b. finds old t k s && not (is_own table session t s && (b && finds found table k session))) (sym (among_more ms i m k inside is))

  pub none_found : (now found : SessionsByKey) (p : Key → Bool) → ((k : Key) → p k ≡ false) → UncoversFound now now table p session found
  none_found now found p none t k s = by (finds now t k s) (is_own table session t s) (finds found table k session) ∙ ap (λ b. finds now t k s && not (is_own table session t s && (b && finds found table k session))) (sym (none k))
    where
      by : (b o n : Bool) → b ≡ (b && not (o && (false && n)))
      by false o n = refl
      by true true n = refl
      by true false n = refl

  pub put_found_out : (now new found : SessionsByKey) (key : Key) → finds found table key session ≡ true → Puts now new table key session false → UncoversFound now new table (λ k. same_key k key) session found
  put_found_out now new found key there puts t k s =
      puts t k s
      ∙ goes (finds now t k s) (table == t) (same_key k key) (session == s) (not (finds found table k session))
      (λ here same. (λ i. not (finds found table (key_is k key same i) session)) ∙ ap not there)
      ∙ ap (λ b. finds now t k s && not (is_own table session t s && (same_key k key && b))) (twice_not (finds found table k session))

  pub none_found_out : (now found : SessionsByKey) (key : Key) → finds found table key session ≡ false → UncoversFound now now table (λ k. same_key k key) session found
  none_found_out now found key gone t k s =
      stays (finds now t k s) (table == t) (same_key k key) (session == s) (not (finds found table k session))
      (λ here same. (λ i. not (finds found table (key_is k key same i) session)) ∙ ap not gone)
      ∙ ap (λ b. finds now t k s && not (is_own table session t s && (same_key k key && b))) (twice_not (finds found table k session))

  -- ---- the filters of a table

  pub at_table : (old now new : SessionsByKey) (fs : List Asked) (i : ℕ) (a : Asked) → i < length fs → a ≡ get_or fs i a → UncoversAt old now table session (take i fs) → UncoversAt now new table session (a ∷ []) → UncoversAt old new table session (take (i + 1) fs)
  at_table old now new fs i a inside is before more t k s =
      more t k s ∙ ap (λ b. b && not (is_own table session t s && is_asked (a ∷ []) t k)) (before t k s)
      ∙ one_filter_fewer (finds old t k s) (is_own table session t s) (is_asked (take i fs) t k) (is_asked (a ∷ []) t k)
      ∙ ap (λ b. finds old t k s && not (is_own table session t s && b)) (sym (ap (λ xs. is_asked xs t k) (take_more fs i a inside ∙ ap (λ x. take i fs ++ x ∷ []) (sym is)) ∙ list_any-append (λ (x : Asked). (x.0 == t) && has_key k x.1) (take i fs) (a ∷ [])))

  -- a filter of another table
  pub other_table : (now : SessionsByKey) (a : Asked) → (a.0 == table) ≡ false → UncoversAt now now table session (a ∷ [])
  other_table now a e t k s = by (table == t) refl
    where
      apart : (table == t) ≡ true → (a.0 == t) ≡ false
      apart h = ap (λ n. a.0 == n) (sym (same_number table t h)) ∙ e

      by : (b : Bool) → (table == t) ≡ b → finds now t k s ≡ (finds now t k s && not (((table == t) && (session == s)) && (((a.0 == t) && has_key k a.1) || false)))
      by true h = sym (ap (λ b. finds now t k s && not (((table == t) && (session == s)) && ((b && has_key k a.1) || false))) (apart h) ∙ ap (λ b. finds now t k s && not b) (never_own ((table == t) && (session == s))) ∙ stays_so (finds now t k s))
      by false h = sym (ap (λ b. finds now t k s && not ((b && (session == s)) && (((a.0 == t) && has_key k a.1) || false))) h ∙ stays_so (finds now t k s))

  -- a filter of this one, which no others share
  pub own_table : (now new : SessionsByKey) (a : Asked) → a.0 ≡ table → Uncovers now new table (λ k. has_key k a.1) session [] → UncoversAt now new table session (a ∷ [])
  own_table now new a same h t k s = h t k s ∙ ap (λ b. finds now t k s && not b) (by (table == t) (session == s) (has_key k a.1)) ∙ ap (λ (n : ℕ). finds now t k s && not (((table == t) && (session == s)) && (((n == t) && has_key k a.1) || false))) (sym same)
    where
      by : (t s h : Bool) → ((t && s) && (h && true)) ≡ ((t && s) && ((t && h) || false))
      by true true true = refl
      by true true false = refl
      by true false h = refl
      by false s h = refl

-- ---- the index and the lists

at_session : (session s : ℕ) → (session == s) ≡ true → session ≡ s
at_session session s e = same_number session s e

is_asked-append : (fs gs : List Asked) (t : ℕ) (k : Key) → is_asked (fs ++ gs) t k ≡ (is_asked fs t k || is_asked gs t k)
is_asked-append fs gs t k = list_any-append (λ (a : Asked). (a.0 == t) && has_key k a.1) fs gs

itself_number : (n : ℕ) → (n == n) ≡ true
itself_number n = (unsigned_Decides n n).1 refl

-- what is asked by the other filters of a list, and by one of them or by another in its place
with_filter_parts : (fs : List Asked) (place : ℕ) (a : Asked) (f : Filter) (t : ℕ) (k : Key) → slice_get fs place ≡ Some a → (others : Bool) × (is_asked fs t k ≡ (others || ((a.0 == t) && has_key k a.1))) × (is_asked (with_filter fs place f) t k ≡ (others || ((a.0 == t) && has_key k f)))
with_filter_parts [] place a f t k there = absurd (none-some a there)
with_filter_parts (x ∷ xs) zero a f t k there =
    let is : x ≡ a = same_Some x a there in (
      is_asked xs t k,
      (λ i. ((is i).0 == t) && has_key k (is i).1 || is_asked xs t k) ∙ or_turned ((a.0 == t) && has_key k a.1) (is_asked xs t k),
      (λ i. ((is i).0 == t) && has_key k f || is_asked xs t k) ∙ or_turned ((a.0 == t) && has_key k f) (is_asked xs t k),
    )
with_filter_parts (x ∷ xs) (suc place) a f t k there =
    let part = with_filter_parts xs place a f t k there in
    let h = (x.0 == t) && has_key k x.1 in (
      (h || part.0),
      ap (λ b. h || b) part.1 ∙ sym (grouped h part.0 ((a.0 == t) && has_key k a.1)),
      ap (λ b. h || b) part.2 ∙ sym (grouped h part.0 ((a.0 == t) && has_key k f)),
    )

-- a filter is put in the place of another of its table
pub put_filter : (fs : List Asked) (k : ℕ) (a b : Asked) → slice_get fs k ≡ Some b → b.0 ≡ a.0 → slice_set fs k a ≡ with_filter fs k a.1
put_filter [] k a b there same = absurd (none-some b there)
put_filter (x ∷ xs) zero a b there same = λ i. ((sym same ∙ ap (λ (y : Asked). y.0) (sym (same_Some x b there))) i, a.1) ∷ xs
put_filter (x ∷ xs) (suc k) a b there same = ap (λ ys. x ∷ ys) (put_filter xs k a b there same)

-- past the last nothing is put
pub past_last : (fs : List Asked) (place : ℕ) (f : Filter) → slice_get fs place ≡ None → with_filter fs place f ≡ fs
past_last [] place f e = refl
past_last (x ∷ xs) zero f e = absurd (none-some x (sym e))
past_last (x ∷ xs) (suc place) f e = ap (λ ys. x ∷ ys) (past_last xs place f e)

module _ (x : SessionsByKey) (v : Interests) (agrees : Indexes x v) (session : ℕ) where
  pub entered : (y : SessionsByKey) (w : Interests) (a : Asked) → Covers x y a.0 (λ k. has_key k a.1) session → Asks v w session (asked_at v session ++ a ∷ []) → Indexes y w
  entered y w a covers asks t k s = covers t k s ∙ ap (λ b. b || (is_own a.0 session t s && has_key k a.1)) (agrees t k s) ∙ by (session == s) refl ∙ sym (ap (λ fs. is_asked fs t k) (asks s))
    where
      by : (b : Bool) → (session == s) ≡ b → (is_asked (asked_at v s) t k || (((a.0 == t) && (session == s)) && has_key k a.1)) ≡ is_asked (cond b (asked_at v session ++ a ∷ []) (asked_at v s)) t k
      by true e =
          ap (λ b. is_asked (asked_at v s) t k || (((a.0 == t) && b) && has_key k a.1)) e
          ∙ own (is_asked (asked_at v s) t k) (a.0 == t) (has_key k a.1)
          ∙ ap (λ n. is_asked (asked_at v n) t k || (((a.0 == t) && has_key k a.1) || false)) (sym (at_session session s e))
          ∙ sym (is_asked-append (asked_at v session) (a ∷ []) t k)
      by false e = ap (λ b. is_asked (asked_at v s) t k || (((a.0 == t) && b) && has_key k a.1)) e ∙ not_own (is_asked (asked_at v s) t k) (a.0 == t) (has_key k a.1)

  pub taken_back : (y z : SessionsByKey) (w : Interests) (a : Asked) → CoversSome x y a.0 (λ k. has_key k a.1) session → IsSame v w → Uncovers y z a.0 (λ k. has_key k a.1) session (asked_at w session) → Indexes z w
  taken_back y z w a covers same uncovers t k s =
      let part = covers t k s in
      let o = is_own a.0 session t s in
      let n = is_asked (asked_at w session) t k in
      uncovers t k s
      ∙ ap (λ b. b && not (o && (has_key k a.1 && not n))) (part.1 ∙ ap (λ b. b || (part.0 && (o && has_key k a.1))) (agrees t k s ∙ ap (λ fs. is_asked fs t k) (sym (same s))))
      ∙ back (is_asked (asked_at w s) t k) n part.0 o (has_key k a.1) (λ e. ap (λ m. is_asked (asked_at w m) t k) (at_session session s (second (a.0 == t) (session == s) e)))
    where
      second : (p q : Bool) → (p && q) ≡ true → q ≡ true
      second true q e = e
      second false q e = absurd (true≢false (sym e))

  pub taken_out : (z : SessionsByKey) (w : Interests) (a : Asked) → LosesFirst a (asked_at v session) (asked_at w session) → Asks v w session (asked_at w session) → Uncovers x z a.0 (λ k. has_key k a.1) session (asked_at w session) → Indexes z w
  taken_out z w a loses asks uncovers t k s =
      uncovers t k s ∙ ap (λ b. b && not (is_own a.0 session t s && (has_key k a.1 && not (is_asked (asked_at w session) t k)))) (agrees t k s) ∙ by (session == s) refl ∙ sym (ap (λ fs. is_asked fs t k) (asks s))
    where
      here : LosesFirst a (asked_at v session) (asked_at w session) → (is_asked (asked_at v session) t k && not ((a.0 == t) && (has_key k a.1 && not (is_asked (asked_at w session) t k)))) ≡ is_asked (asked_at w session) t k
      here (inl split) =
          let front = split.0 in
          let back' = split.1 in
          let now : is_asked (asked_at w session) t k ≡ (is_asked front t k || is_asked back' t k) = ap (λ fs. is_asked fs t k) split.3 ∙ is_asked-append front back' t k in
          let was : is_asked (asked_at v session) t k ≡ (is_asked front t k || (((a.0 == t) && has_key k a.1) || is_asked back' t k)) = ap (λ fs. is_asked fs t k) split.2 ∙ is_asked-append front (a ∷ back') t k in
          (λ i. was i && not ((a.0 == t) && (has_key k a.1 && not (now i))))
          ∙ middle_out (is_asked front t k) (a.0 == t) (has_key k a.1) (is_asked back' t k) ∙ sym now
      here (inr none) =
          ap (λ fs. is_asked fs t k && not ((a.0 == t) && (has_key k a.1 && not (is_asked (asked_at w session) t k)))) (sym none.0)
          ∙ kept (is_asked (asked_at w session) t k) (a.0 == t) (has_key k a.1)
        where
          kept : (l t h : Bool) → (l && not (t && (h && not l))) ≡ l
          kept true true true = refl
          kept true true false = refl
          kept true false h = refl
          kept false t h = refl

      by : (b : Bool) → (session == s) ≡ b → (is_asked (asked_at v s) t k && not (((a.0 == t) && (session == s)) && (has_key k a.1 && not (is_asked (asked_at w session) t k)))) ≡ is_asked (cond b (asked_at w session) (asked_at v s)) t k
      by true e =
          (λ i. is_asked (asked_at v (sym (at_session session s e) i)) t k && not (((a.0 == t) && e i) && (has_key k a.1 && not (is_asked (asked_at w session) t k))))
          ∙ ap (λ b. is_asked (asked_at v session) t k && not (b && (has_key k a.1 && not (is_asked (asked_at w session) t k)))) (stays_so (a.0 == t))
          ∙ here loses
      by false e =
          ap (λ b. is_asked (asked_at v s) t k && not (((a.0 == t) && b) && (has_key k a.1 && not (is_asked (asked_at w session) t k)))) e
          ∙ ap (λ b. is_asked (asked_at v s) t k && not (b && (has_key k a.1 && not (is_asked (asked_at w session) t k)))) (never_own (a.0 == t))
          ∙ stays_so (is_asked (asked_at v s) t k)

  -- a filter in the place of another of its table, over an index of what the old one alone may have
  pub exchanged : (y z none going left : SessionsByKey) (w : Interests) (place : ℕ) (old : Asked) (f : Filter) → slice_get (asked_at v session) place ≡ Some old → ((t : ℕ) (k : Key) (s : ℕ) → finds none t k s ≡ false) → CoversLacking none going old.0 (λ k. has_key k old.1) (λ k. has_key k f) session → UncoversAt going left old.0 session (asked_at w session) → CoversLacking x y old.0 (λ k. has_key k f) (λ k. has_key k old.1) session → Asks v w session (with_filter (asked_at v session) place f) → UncoversFound y z old.0 (λ k. has_key k old.1) session left → Indexes z w
  exchanged y z none going left w place old f there empty goes leaves comes asks uncovers t k s = uncovers t k s ∙ by (session == s) refl (old.0 == t) refl
    where
      o : Bool
      o = has_key k old.1

      n : Bool
      n = has_key k f

      part : (others : Bool) × (is_asked (asked_at v session) t k ≡ (others || ((old.0 == t) && o))) × (is_asked (with_filter (asked_at v session) place f) t k ≡ (others || ((old.0 == t) && n)))
      part = with_filter_parts (asked_at v session) place old f t k there

      here : (some : Bool) × (n ≡ true → (some || o) ≡ true) × (finds y t k s ≡ (finds x t k s || (some && (is_own old.0 session t s && n))))
      here = comes t k s

      gone : (some : Bool) × (o ≡ true → (some || n) ≡ true) × (finds going old.0 k session ≡ (finds none old.0 k session || (some && (is_own old.0 session old.0 session && o))))
      gone = goes old.0 k session

      out : Bool → Bool
      out own = (is_asked (asked_at v s) t k || (here.0 && (own && n))) && not (own && (o && finds left old.0 k session))

      starts : (finds y t k s && not (((old.0 == t) && (session == s)) && (o && finds left old.0 k session))) ≡ out ((old.0 == t) && (session == s))
      starts = ap (λ b. b && not (((old.0 == t) && (session == s)) && (o && finds left old.0 k session))) (here.2 ∙ ap (λ b. b || (here.0 && (((old.0 == t) && (session == s)) && n))) (agrees t k s))

      own_session : asked_at w session ≡ with_filter (asked_at v session) place f
      own_session = asks_itself session v w (with_filter (asked_at v session) place f) asks

      by : (b : Bool) → (session == s) ≡ b → (d : Bool) → (old.0 == t) ≡ d → (finds y t k s && not (((old.0 == t) && (session == s)) && (o && finds left old.0 k session))) ≡ is_asked (asked_at w s) t k
      by false e d same =
          starts ∙ ap out (ap (λ b. (old.0 == t) && b) e ∙ never_own (old.0 == t))
          ∙ exchanged_none (is_asked (asked_at v s) t k) here.0 n (o && finds left old.0 k session)
          ∙ sym (ap (λ fs. is_asked fs t k) (asks s ∙ ap (λ b. cond b (with_filter (asked_at v session) place f) (asked_at v s)) e))
      by true e false same =
          starts ∙ ap (λ b. out (b && (session == s))) same
          ∙ exchanged_none (is_asked (asked_at v s) t k) here.0 n (o && finds left old.0 k session)
          ∙ ap (λ m. is_asked (asked_at v m) t k) (sym (at_session session s e))
          ∙ part.1 ∙ ap (λ b. part.0 || (b && o)) same ∙ sym (ap (λ b. part.0 || (b && n)) same) ∙ sym part.2
          ∙ ap (λ fs. is_asked fs t k) (sym own_session) ∙ ap (λ m. is_asked (asked_at w m) t k) (at_session session s e)
      by true e true same =
          let was : is_asked (asked_at v s) t k ≡ (part.0 || o) = ap (λ m. is_asked (asked_at v m) t k) (sym (at_session session s e)) ∙ part.1 ∙ ap (λ b. part.0 || (b && o)) same in
          let now : is_asked (with_filter (asked_at v session) place f) t k ≡ (part.0 || n) = part.2 ∙ ap (λ b. part.0 || (b && n)) same in
          let at : old.0 ≡ t = same_number old.0 t same in
          let itself : is_own old.0 session old.0 session ≡ true = (λ i. itself_number old.0 i && itself_number session i) in
          let first : finds going old.0 k session ≡ (gone.0 && o) = gone.2 ∙ (λ i. empty old.0 k session i || (gone.0 && (itself i && o))) in
          let last : finds left old.0 k session ≡ ((gone.0 && o) && not (part.0 || n)) =
          leaves old.0 k session ∙ (λ i. first i && not (itself i && is_asked (asked_at w session) (at i) k)) ∙ ap (λ b. (gone.0 && o) && not b) (ap (λ fs. is_asked fs t k) own_session ∙ now) in
          starts ∙ (λ i. (was i || (here.0 && ((same i && e i) && n))) && not ((same i && e i) && (o && last i)))
          ∙ exchanged_one part.0 o n here.0 gone.0 here.1 gone.1
          ∙ sym now ∙ ap (λ fs. is_asked fs t k) (sym own_session) ∙ ap (λ m. is_asked (asked_at w m) t k) (at_session session s e)

  pub forgotten : (y : SessionsByKey) (w : Interests) → UncoversAll x y session (asked_at v session) → Asks v w session [] → Indexes y w
  forgotten y w uncovers asks t k s = uncovers t k s ∙ ap (λ b. b && not ((session == s) && is_asked (asked_at v session) t k)) (agrees t k s) ∙ by (session == s) refl ∙ sym (ap (λ fs. is_asked fs t k) (asks s))
    where
      by : (b : Bool) → (session == s) ≡ b → (is_asked (asked_at v s) t k && not ((session == s) && is_asked (asked_at v session) t k)) ≡ is_asked (cond b [] (asked_at v s)) t k
      by true e =
          (λ i. is_asked (asked_at v (sym (at_session session s e) i)) t k && not (e i && is_asked (asked_at v session) t k))
          ∙ all_out (is_asked (asked_at v session) t k)
      by false e = ap (λ b. is_asked (asked_at v s) t k && not (b && is_asked (asked_at v session) t k)) e ∙ stays_so (is_asked (asked_at v s) t k)

  pub unchanged : (w : Interests) → IsSame v w → Indexes x w
  unchanged w same t k s = agrees t k s ∙ ap (λ fs. is_asked fs t k) (sym (same s))
