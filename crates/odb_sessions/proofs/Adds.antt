-- Marks that are made: what stands stays, and the marks are live.
use Rattle.std.proofs.Common.{◌≡◌, ℕ, ◌+◌, ◌<◌, arith, Bool, true, false, cond, ◌&&◌, nat_eq, List, [], ◌∷◌, ◌++◌, length, slice_set, zero, suc, Option, Some, None, refl, sym, ap, subst, ◌∙◌, true≢false}
use Rattle.std.proofs.lemmas.Bool.Decides.{nat_tests}
use Rattle.std.proofs.lemmas.Option.{none-some, same_Some}
use Rattle.std.specs.Cmp.{unsigned_tied}
use Rattle.odb_atoms.specs.FinMap as finite
use Rattle.odb_chain.specs.Chains.{Chains, IsLive, IsNow, Live, Mark, Standing, count, live_at, mark_of, marked, marks_of, standing, version}
use Rattle.odb_service.proofs.SessionMaps.{get-insert}
use Rattle.odb_tables.specs.Database.{table_at}
use Rattle.odb_sessions.specs.Tied.{Adds, AreLive, HasAll, HoldsContents, KeepsContents, bit, is_at, uses}
use Rattle.odb_sessions.proofs.Releases.{got_here, got_other, itself_at, uses-++}

pub stands_itself : (o : Option Standing) (x : Standing) → o ≡ Some x → o ≡ Some (record { content = x.content; marks = marks_of o })
stands_itself None x is = absurd (none-some x is)
stands_itself (Some y) x is = ap (λ (z : Standing). let s : Option Standing = Some (record { content = z.content; marks = y.marks }) in s) (same_Some y x is)

both_true : (a b : Bool) → (a && b) ≡ true → (a ≡ true) × (b ≡ true)
both_true true b is = (refl, is)
both_true false b is = absurd (true≢false (sym is))

-- ---- one mark

module _ (k : Chains) (t : ℕ) (low : t < length k.live) (now : IsNow k) where
  abbrev new : Chains
  new = marked t k

  abbrev fresh : Standing
  fresh = record { content = table_at k.db t; marks = count k t (version k t) + 1 }

  stands_new : (q p : ℕ) → standing new q p ≡ cond (is_at q p (mark_of k t)) (Some fresh) (standing k q p)
  stands_new q p = by (nat_eq q t) refl
    where
      l : Live
      l = finite.insert (live_at k t) (version k t) fresh

      by : (b : Bool) → nat_eq q t ≡ b → standing new q p ≡ cond (b && nat_eq p (version k t)) (Some fresh) (standing k q p)
      by true is =
          let own : q ≡ t = grind (arith, nat_tests) in
          ap (λ r. standing new r p) own ∙ ap (λ (x : Live). finite.get x p) (got_here k.live t l low)
          ∙ get-insert (live_at k t) (version k t) fresh p
          ∙ ap (λ b. cond b (Some fresh) (standing k t p)) (unsigned_tied p (version k t))
          ∙ ap (λ r. cond (nat_eq p (version k t)) (Some fresh) (standing k r p)) (sym own)
      by false is = ap (λ (x : Live). finite.get x p) (got_other k.live t q l is)

  -- where the mark stands
  at_mark : (q p : ℕ) → is_at q p (mark_of k t) ≡ true → (q ≡ t) × (p ≡ version k t)
  at_mark q p is =
      let table : nat_eq q t ≡ true = (both_true (nat_eq q t) (nat_eq p (version k t)) is).0 in
      let newest : nat_eq p (version k t) ≡ true = (both_true (nat_eq q t) (nat_eq p (version k t)) is).1 in
      (grind (arith, nat_tests), grind (arith, nat_tests))

  count_new : (q p : ℕ) → count new q p ≡ count k q p + bit (is_at q p (mark_of k t))
  count_new q p = by (is_at q p (mark_of k t)) refl
    where
      by : (b : Bool) → is_at q p (mark_of k t) ≡ b → count new q p ≡ count k q p + bit b
      by true is =
          let at : (q ≡ t) × (p ≡ version k t) = at_mark q p is in
          ap marks_of (stands_new q p ∙ ap (λ b. cond b (Some fresh) (standing k q p)) is) ∙ (λ i. count k (sym at.0 i) (sym at.1 i) + 1)
      by false is =
          let same : count new q p ≡ count k q p = ap marks_of (stands_new q p ∙ ap (λ b. cond b (Some fresh) (standing k q p)) is) in
          omega (arith, same)

  holds_new : HoldsContents k new
  holds_new q p x there = by (is_at q p (mark_of k t)) refl
    where
      by : (b : Bool) → is_at q p (mark_of k t) ≡ b → standing new q p ≡ Some (record { content = x.content; marks = count new q p })
      by true is =
          let at : (q ≡ t) × (p ≡ version k t) = at_mark q p is in
          let stands : standing new q p ≡ Some fresh = stands_new q p ∙ ap (λ b. cond b (Some fresh) (standing k q p)) is in
          let content : x.content ≡ table_at k.db q = (now q p x there).1 (at.1 ∙ ap (version k) (sym at.0)) in
          stands ∙ (λ i. let s : Option Standing = Some (record { content = (ap (table_at k.db) (sym at.0) ∙ sym content) i; marks = sym (ap marks_of stands) i }) in s)
      by false is = stands_itself (standing new q p) x (stands_new q p ∙ ap (λ b. cond b (Some fresh) (standing k q p)) is ∙ there)

  live_new : IsLive new (mark_of k t)
  live_new = (count k t (version k t) + 1, stands_new t (version k t) ∙ ap (λ b. cond b (Some fresh) (standing k t (version k t))) (itself_at (mark_of k t)))

pub length-set : (ls : List Live) (t : ℕ) (l : Live) → length (slice_set ls t l) ≡ length ls
length-set [] t l = refl
length-set (x ∷ ls) zero l = refl
length-set (x ∷ ls) (suc t) l = ap suc (length-set ls t l)

adds_fresh : (k : Chains) (t : ℕ) → t < length k.live → IsNow k → IsNow (marked t k) → Adds k (marked t k) (mark_of k t ∷ [])
adds_fresh k t low before now = (
  refl,
  refl,
  length-set k.live t _,
  λ q p. let one : count (marked t k) q p ≡ count k q p + bit (is_at q p (mark_of k t)) = count_new k t low before q p in omega (arith, one),
  holds_new k t low before,
  (live_new k t low before, tt),
  now,
)

pub adds_one : (k new : Chains) (t : ℕ) (m : Mark) → t < length k.live → IsNow k → m ≡ mark_of k t → new ≡ marked t k → IsNow new → Adds k new (m ∷ [])
adds_one k new t m low before mark is now =
    subst (λ (x : Mark). Adds k new (x ∷ [])) (sym mark)
    (subst (λ (c : Chains). IsNow c → Adds k c (mark_of k t ∷ [])) (sym is) (adds_fresh k t low before) now)

-- ---- one after the other

pub held_live : (old new : Chains) (ms : List Mark) → HoldsContents old new → AreLive old ms → AreLive new ms
held_live old new [] holds live = tt
held_live old new (m ∷ ms) holds live = ((count new m.table m.version, holds m.table m.version _ live.0.1), held_live old new ms holds live.1)

pub live_joined : (k : Chains) (xs ys : List Mark) → AreLive k xs → AreLive k ys → AreLive k (xs ++ ys)
live_joined k [] ys left right = right
live_joined k (x ∷ xs) ys left right = (left.0, live_joined k xs ys left.1 right)

pub adds_none : (k : Chains) → IsNow k → Adds k k []
adds_none k now = (refl, refl, refl, λ t p. omega arith, λ t p x there. stands_itself (standing k t p) x there, tt, now)

pub adds_on : (a b c : Chains) (xs ys : List Mark) → Adds a b xs → Adds b c ys → Adds a c (xs ++ ys)
adds_on a b c xs ys f g = (
  g.0 ∙ f.0,
  g.1 ∙ f.1,
  g.2 ∙ f.2,
  λ t p.
      let first : count b t p ≡ count a t p + uses t p xs = f.3 t p in
      let second : count c t p ≡ count b t p + uses t p ys = g.3 t p in
      let sum : uses t p (xs ++ ys) ≡ uses t p xs + uses t p ys = uses-++ t p xs ys in
      omega (arith, first, second, sum),
  λ t p x there. g.4 t p (record { content = x.content; marks = count b t p }) (f.4 t p x there),
  live_joined c xs ys (held_live b c xs g.4 f.5) g.5,
  g.6,
)

-- what was made can be given back
pub has_made : (old new : Chains) (ms : List Mark) → Adds old new ms → HasAll new ms
has_made old new ms f = (f.5, λ t p. let sum : count new t p ≡ count old t p + uses t p ms = f.3 t p in omega (arith, sum))

pub keeps_made : (old new : Chains) → HoldsContents old new → KeepsContents old new
keeps_made old new holds t p x there h = holds t p x there
