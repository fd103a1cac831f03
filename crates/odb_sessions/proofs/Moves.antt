-- Marks that are moved to now, one after the other: what stays.
use Rattle.std.proofs.Common.{◌≡◌, ℕ, zero, suc, ◌+◌, ◌<◌, ◌≤◌, arith, Bool, true, false, cond, ◌&&◌, nat_eq, List, [], ◌∷◌, ◌++◌, length, map, slice_get, slice_set, unwrap_or, Option, Some, None, refl, sym, ap, subst, ◌∙◌, true≢false}
use Rattle.std.proofs.lemmas.Bool.Decides.{nat_tests}
use Rattle.std.proofs.lemmas.Option.{none-some, same_Some}
use Rattle.std.specs.Cmp.{unsigned_tied}
use Rattle.std.specs.Ordering.{nat_cmp}
use Rattle.odb_atoms.specs.FinMap as finite
use Rattle.odb_atoms.proofs.FinMaps.{get-empty}
use Rattle.odb_chain.specs.Chains.{Chains, IsNow, Live, Mark, Standing, count, live_at, mark_of, marked, marks_of, released, standing, version}
use Rattle.odb_service.proofs.SessionMaps.{get-insert}
use Rattle.odb_tables.specs.Database.{Table, table_at}
use Rattle.odb_sessions.specs.Moved.{Moves, all_now, now_of}
use Rattle.odb_sessions.specs.Tied.{AreLive, Frees, HasAll, KeepsContents, bit, is_at, uses}
use Rattle.odb_sessions.proofs.Releases.{frees_one, live-right, still_live, uses-++}

-- ---- where somebody stands

pub stood : (o : Option Standing) (content : Table) → 0 < marks_of o → ((y : Standing) → o ≡ Some y → y.content ≡ content)
    → o ≡ Some (record { content = content; marks = marks_of o })
stood None content low same = absurd (omega (arith, low))
stood (Some y) content low same = λ i. let s : Option Standing = Some (record { content = same y refl i; marks = y.marks }) in s

table_and_version : (t p : ℕ) (m : Mark) → is_at t p m ≡ true → (t ≡ m.table) × (p ≡ m.version)
table_and_version t p m e = by (nat_eq t m.table) refl e
  where
    by : (b : Bool) → nat_eq t m.table ≡ b → (b && nat_eq p m.version) ≡ true → (t ≡ m.table) × (p ≡ m.version)
    by true is e = (grind (arith, nat_tests), grind (arith, nat_tests))
    by false is e = absurd (true≢false (sym e))

-- ---- one mark more for now

got_other : (ls : List Live) (t q : ℕ) (l : Live) → nat_eq q t ≡ false → unwrap_or (slice_get (slice_set ls t l) q) finite.empty ≡ unwrap_or (slice_get ls q) finite.empty
got_other [] t q l e = refl
got_other (x ∷ ls) zero zero l e = absurd (true≢false e)
got_other (x ∷ ls) zero (suc q) l e = refl
got_other (x ∷ ls) (suc t) zero l e = refl
got_other (x ∷ ls) (suc t) (suc q) l e = got_other ls t q l (grind (arith, nat_tests))

got_here : (ls : List Live) (t : ℕ) (l : Live) → t < length ls → unwrap_or (slice_get (slice_set ls t l) t) finite.empty ≡ l
got_here [] t l low = absurd (omega (arith, low))
got_here (x ∷ ls) zero l low = refl
got_here (x ∷ ls) (suc t) l low = got_here ls t l (omega (arith, low))

inside : (ls : List Live) (t p : ℕ) (x : Standing) → finite.get (unwrap_or (slice_get ls t) finite.empty) p ≡ Some x → t < length ls
inside [] t p x there = absurd (none-some x (sym (get-empty nat_cmp p) ∙ there))
inside (l ∷ ls) zero p x there = omega arith
inside (l ∷ ls) (suc t) p x there = let low : t < length ls = inside ls t p x there in omega (arith, low)

module _ (k : Chains) (table : ℕ) (low : table < length k.live) where
  abbrev newest : ℕ
  newest = version k table

  abbrev more : Standing
  more = record { content = table_at k.db table; marks = count k table newest + 1 }

  abbrev new : Live
  new = finite.insert (live_at k table) newest more

  stands_marked : (t p : ℕ) → standing (marked table k) t p ≡ cond (is_at t p (mark_of k table)) (Some more) (standing k t p)
  stands_marked t p = by (nat_eq t table) refl
    where
      by : (b : Bool) → nat_eq t table ≡ b → standing (marked table k) t p ≡ cond (b && nat_eq p newest) (Some more) (standing k t p)
      by true is =
          let own : t ≡ table = grind (arith, nat_tests) in
          ap (λ q. standing (marked table k) q p) own ∙ ap (λ (l : Live). finite.get l p) (got_here k.live table new low)
          ∙ get-insert (live_at k table) newest more p
          ∙ ap (λ b. cond b (Some more) (standing k table p)) (unsigned_tied p newest)
          ∙ ap (λ q. cond (nat_eq p newest) (Some more) (standing k q p)) (sym own)
      by false is = ap (λ (l : Live). finite.get l p) (got_other k.live table t new is)

  pub counted : (t p : ℕ) → count k t p + bit (is_at t p (mark_of k table)) ≡ count (marked table k) t p
  counted t p = by (is_at t p (mark_of k table)) refl
    where
      by : (b : Bool) → is_at t p (mark_of k table) ≡ b → count k t p + bit b ≡ count (marked table k) t p
      by true is =
          let at : (t ≡ table) × (p ≡ newest) = table_and_version t p (mark_of k table) is in
          (λ i. count k (at.0 i) (at.1 i) + 1) ∙ sym (ap marks_of (stands_marked t p ∙ ap (λ b. cond b (Some more) (standing k t p)) is))
      by false is =
          let same : count (marked table k) t p ≡ count k t p = ap marks_of (stands_marked t p ∙ ap (λ b. cond b (Some more) (standing k t p)) is) in
          omega (arith, same)

  kept : IsNow k → (t p : ℕ) (x : Standing) → standing k t p ≡ Some x → standing (marked table k) t p ≡ Some (record { content = x.content; marks = count (marked table k) t p })
  kept now t p x there = by (is_at t p (mark_of k table)) refl
    where
      by : (b : Bool) → is_at t p (mark_of k table) ≡ b → standing (marked table k) t p ≡ Some (record { content = x.content; marks = count (marked table k) t p })
      by true is =
          let at : (t ≡ table) × (p ≡ newest) = table_and_version t p (mark_of k table) is in
          let stands : standing (marked table k) t p ≡ Some more = stands_marked t p ∙ ap (λ b. cond b (Some more) (standing k t p)) is in
          let late : p ≡ version k t = at.1 ∙ ap (version k) (sym at.0) in
          let same : table_at k.db table ≡ x.content = ap (table_at k.db) (sym at.0) ∙ sym ((now t p x there).1 late) in
          subst (λ (o : Option Standing). o ≡ Some (record { content = x.content; marks = marks_of o })) (sym stands)
          (λ i. let s : Option Standing = Some (record { content = same i; marks = more.marks }) in s)
      by false is =
          let stands : standing (marked table k) t p ≡ Some x = stands_marked t p ∙ ap (λ b. cond b (Some more) (standing k t p)) is ∙ there in
          subst (λ (o : Option Standing). o ≡ Some (record { content = x.content; marks = marks_of o })) (sym stands) refl

-- ---- one mark is moved

pub moves_one : (k new : Chains) (m : Mark) → HasAll k (m ∷ []) → IsNow k → new ≡ released m.table m.version (marked m.table k) → IsNow new → Moves k new (m ∷ [])
moves_one k new m has now is last =
    let t0 = m.table in
    let k1 : Chains = marked t0 k in
    let low : t0 < length k.live = inside k.live t0 m.version _ has.0.0.1 in
    let m1 : Mark = mark_of k t0 in
    let some : (t p : ℕ) → uses t p (m ∷ []) ≤ count k1 t p = λ t p.
    let one : count k t p + bit (is_at t p m1) ≡ count k1 t p = counted k t0 low t p in
    let there : uses t p (m ∷ []) ≤ count k t p = has.1 t p in
    omega (arith, one, there) in
    let live : AreLive k1 (m ∷ []) = ((count k1 t0 m.version, kept k t0 low now t0 m.version _ has.0.0.1), tt) in
    let f : Frees k1 new (m ∷ []) = frees_one k1 new m (live, some) is last in (
      f.0,
      f.1,
      λ t p.
          let one : count k t p + bit (is_at t p m1) ≡ count k1 t p = counted k t0 low t p in
          let less : count k1 t p ≡ count new t p + uses t p (m ∷ []) = f.2 t p in
          omega (arith, one, less),
      λ t p x there h. f.3 t p (record { content = x.content; marks = count k1 t p }) (kept k t0 low now t p x there) h,
      λ n. last,
    )

-- ---- lists of marks

-- with the same database and versions, now is the same
pub same_now : (a b : Chains) (ms : List Mark) → b.db ≡ a.db → b.versions ≡ a.versions → all_now b ms ≡ all_now a ms
same_now a b ms db versions = λ i. map (λ m. let x : Mark = record { table = m.table; version = unwrap_or (slice_get (versions i) m.table) 0; content = table_at (db i) m.table } in x) ms

pub same_version : (a b : Chains) (t : ℕ) → b.versions ≡ a.versions → version b t ≡ version a t
same_version a b t versions = ap (λ vs. unwrap_or (slice_get vs t) 0) versions

now-++ : (k : Chains) (xs ys : List Mark) → all_now k (xs ++ ys) ≡ all_now k xs ++ all_now k ys
now-++ k [] ys = refl
now-++ k (x ∷ xs) ys = ap (λ zs. now_of k x ∷ zs) (now-++ k xs ys)

-- a mark that was moved stands at its table's version
pub came_late : (k : Chains) (ms : List Mark) (t p : ℕ) → 0 < uses t p (all_now k ms) → p ≡ version k t
came_late k [] t p h = absurd (omega (arith, h))
came_late k (m ∷ ms) t p h = by (is_at t p (now_of k m)) refl h (came_late k ms t p)
  where
    by : (b : Bool) → is_at t p (now_of k m) ≡ b → 0 < bit b + uses t p (all_now k ms) → (0 < uses t p (all_now k ms) → p ≡ version k t) → p ≡ version k t
    by true is h rest =
        let at : (t ≡ m.table) × (p ≡ version k m.table) = table_and_version t p (now_of k m) is in
        at.1 ∙ ap (version k) (sym at.0)
    by false is h rest = rest (omega (arith, h))

pub moves_none : (k : Chains) → Moves k k []
moves_none k = (refl, refl, λ t p. refl, λ t p x there h. stood (standing k t p) x.content h (λ y is. ap (λ (z : Standing). z.content) (same_Some y x (sym is ∙ there))), λ n. n)

-- a mark that stands for now
pub stays_now : (k : Chains) (m : Mark) → m.version ≡ version k m.table → m.content ≡ table_at k.db m.table → now_of k m ≡ m
stays_now k m same content = λ i. let x : Mark = record { table = m.table; version = sym same i; content = sym content i } in x

pub moves_still : (k : Chains) (m : Mark) → now_of k m ≡ m → Moves k k (m ∷ [])
moves_still k m same =
    let none : Moves k k [] = moves_none k in
    (refl, refl, λ t p. ap (λ (n : Mark). count k t p + uses t p (n ∷ [])) same, none.3, none.4)

module _ (a b c : Chains) (xs ys : List Mark) (now : IsNow a) (f : Moves a b xs) (g : Moves b c ys) where
  later : (t p : ℕ) → count b t p + uses t p (all_now a ys) ≡ count c t p + uses t p ys
  later t p = ap (λ ms. count b t p + uses t p ms) (sym (same_now a b ys f.0 f.1)) ∙ g.2 t p

  keeps_on : KeepsContents a c
  keeps_on t p x there h = by (count b t p) refl
    where
      by : (n : ℕ) → count b t p ≡ n → standing c t p ≡ Some (record { content = x.content; marks = count c t p })
      by (suc n) is =
          let some : 0 < count b t p = omega (arith, is) in
          g.3 t p (record { content = x.content; marks = count b t p }) (f.3 t p x there some) h
      by zero is =
          let all : count b t p + uses t p (all_now a ys) ≡ count c t p + uses t p ys = later t p in
          let came : 0 < uses t p (all_now a ys) = omega (arith, is, all, h) in
          let late : p ≡ version a t = came_late a ys t p came in
          let then : x.content ≡ table_at a.db t = (now t p x there).1 late in
          let latest : p ≡ version c t = late ∙ sym (same_version a c t (g.1 ∙ f.1)) in
          stood (standing c t p) x.content h (λ y is. (g.4 (f.4 now) t p y is).1 latest ∙ ap (λ db. table_at db t) (g.0 ∙ f.0) ∙ sym then)

  pub moves_on : Moves a c (xs ++ ys)
  moves_on = (
    g.0 ∙ f.0,
    g.1 ∙ f.1,
    λ t p.
        let first : count a t p + uses t p (all_now a xs) ≡ count b t p + uses t p xs = f.2 t p in
        let second : count b t p + uses t p (all_now a ys) ≡ count c t p + uses t p ys = later t p in
        let gone : uses t p (xs ++ ys) ≡ uses t p xs + uses t p ys = uses-++ t p xs ys in
        let came : uses t p (all_now a (xs ++ ys)) ≡ uses t p (all_now a xs) + uses t p (all_now a ys) = ap (uses t p) (now-++ a xs ys) ∙ uses-++ t p (all_now a xs) (all_now a ys) in
        omega (arith, first, second, gone, came),
    keeps_on,
    λ n. g.4 (f.4 n),
  )

-- the others are there as before
pub moved-rest : (old new : Chains) (xs ys : List Mark) → HasAll old (xs ++ ys) → Moves old new xs → HasAll new ys
moved-rest old new xs ys h f =
    let low : (t p : ℕ) → uses t p ys ≤ count new t p = λ t p.
    let sum : uses t p (xs ++ ys) ≡ uses t p xs + uses t p ys = uses-++ t p xs ys in
    let all : uses t p (xs ++ ys) ≤ count old t p = h.1 t p in
    let moved : count old t p + uses t p (all_now old xs) ≡ count new t p + uses t p xs = f.2 t p in
    omega (arith, sum, all, moved) in
    (still_live old new ys f.3 (live-right old xs ys h.0) low, low)

-- ---- marks that were moved are live

module _ (old new : Chains) (db : new.db ≡ old.db) (versions : new.versions ≡ old.versions) (now : IsNow new) where
  live_now : (ms : List Mark) → ((t p : ℕ) → uses t p (all_now old ms) ≤ count new t p) → AreLive new (all_now old ms)
  live_now [] low = tt
  live_now (m ∷ ms) low =
      let t = m.table in
      let p = version old t in
      let a : nat_eq t t ≡ true = grind (arith, nat_tests) in
      let b : nat_eq p p ≡ true = grind (arith, nat_tests) in
      let one : bit (is_at t p (now_of old m)) ≡ 1 = λ i. bit (a i && b i) in
      let all : uses t p (all_now old (m ∷ ms)) ≤ count new t p = low t p in
      let some : 0 < count new t p = omega (arith, one, all) in
      let at : p ≡ version new t = sym (same_version old new t versions) in (
        (count new t p, stood (standing new t p) (table_at old.db t) some (λ y is. (now t p y is).1 at ∙ ap (λ d. table_at d t) db)),
        live_now ms (λ q r. let more : uses q r (all_now old (m ∷ ms)) ≤ count new q r = low q r in omega (arith, more)),
      )

pub moved_live : (old new : Chains) (ms : List Mark) → HasAll old ms → IsNow old → Moves old new ms → HasAll new (all_now old ms)
moved_live old new ms h now f =
    let low : (t p : ℕ) → uses t p (all_now old ms) ≤ count new t p = λ t p.
    let had : uses t p ms ≤ count old t p = h.1 t p in
    let moved : count old t p + uses t p (all_now old ms) ≡ count new t p + uses t p ms = f.2 t p in
    omega (arith, had, moved) in
    (live_now old new f.0 f.1 (f.4 now) ms low, low)
