-- Marks that are released, one after the other: what stays.
use Rattle.std.proofs.Common.{◌≡◌, ℕ, zero, suc, ◌+◌, ◌-◌, ◌<◌, ◌≤◌, arith, Bool, true, false, cond, ◌&&◌, nat_eq, nat_le, List, [], ◌∷◌, ◌++◌, length, slice_get, slice_set, unwrap_or, Option, Some, None, option_and_then, refl, sym, ap, subst, ◌∙◌, true≢false}
use Rattle.std.proofs.lemmas.Bool.Decides.{nat_tests}
use Rattle.std.proofs.lemmas.Option.{none-some, same_Some}
use Rattle.std.specs.Cmp.{unsigned_tied}
use Rattle.std.specs.Ordering.{eq_by_cmp, nat_cmp}
use Rattle.odb_atoms.specs.FinMap as finite
use Rattle.odb_chain.specs.Chains.{Chains, IsLive, IsNow, Live, Mark, Standing, count, live_at, marks_of, one_less, released, standing, with_standing}
use Rattle.odb_atoms.proofs.FinMaps.{get-empty}
use Rattle.odb_service.proofs.SessionMaps.{get-insert, get-remove}
use Rattle.odb_sessions.specs.Tied.{AreLive, Frees, HasAll, KeepsContents, bit, is_at, uses}

-- ---- one mark

pub got_other : (ls : List Live) (t q : ℕ) (l : Live) → nat_eq q t ≡ false → unwrap_or (slice_get (slice_set ls t l) q) finite.empty ≡ unwrap_or (slice_get ls q) finite.empty
got_other [] t q l e = refl
got_other (x ∷ ls) zero zero l e = absurd (true≢false e)
got_other (x ∷ ls) zero (suc q) l e = refl
got_other (x ∷ ls) (suc t) zero l e = refl
got_other (x ∷ ls) (suc t) (suc q) l e = got_other ls t q l (grind (arith, nat_tests))

-- where somebody stands there is a table
pub got_here : (ls : List Live) (t : ℕ) (l : Live) → t < length ls → unwrap_or (slice_get (slice_set ls t l) t) finite.empty ≡ l
got_here [] t l low = absurd (omega (arith, low))
got_here (x ∷ ls) zero l low = refl
got_here (x ∷ ls) (suc t) l low = got_here ls t l (omega (arith, low))

inside : (ls : List Live) (t p : ℕ) (x : Standing) → finite.get (unwrap_or (slice_get ls t) finite.empty) p ≡ Some x → t < length ls
inside [] t p x there = absurd (none-some x (sym (get-empty nat_cmp p) ∙ there))
inside (l ∷ ls) zero p x there = omega arith
inside (l ∷ ls) (suc t) p x there = let low : t < length ls = inside ls t p x there in omega (arith, low)

get-with_standing : (l : Live) (p : ℕ) (o : Option Standing) (q : ℕ) → finite.get (with_standing l p o) q ≡ cond (eq_by_cmp nat_cmp q p) o (finite.get l q)
get-with_standing l p None q = get-remove l p q
get-with_standing l p (Some x) q = get-insert l p x q

module _ (k : Chains) (m : Mark) (live : IsLive k m) where
  abbrev pub after : Chains
  after = released m.table m.version k

  pub stands_after : (t p : ℕ) → standing after t p ≡ cond (is_at t p m) (option_and_then one_less (standing k t p)) (standing k t p)
  stands_after t p = by (nat_eq t m.table) refl
    where
      new : Live
      new = with_standing (live_at k m.table) m.version (option_and_then one_less (standing k m.table m.version))

      low : m.table < length k.live
      low = inside k.live m.table m.version _ live.1

      at_version : (b : Bool) → nat_eq p m.version ≡ b → cond b (option_and_then one_less (standing k m.table m.version)) (standing k m.table p) ≡ cond b (option_and_then one_less (standing k m.table p)) (standing k m.table p)
      at_version true is = let own : m.version ≡ p = grind (arith, nat_tests) in ap (λ q. option_and_then one_less (standing k m.table q)) own
      at_version false is = refl

      by : (b : Bool) → nat_eq t m.table ≡ b → standing after t p ≡ cond (b && nat_eq p m.version) (option_and_then one_less (standing k t p)) (standing k t p)
      by true is =
          let own : t ≡ m.table = grind (arith, nat_tests) in
          ap (λ q. standing after q p) own ∙ ap (λ (l : Live). finite.get l p) (got_here k.live m.table new low)
          ∙ get-with_standing (live_at k m.table) m.version (option_and_then one_less (standing k m.table m.version)) p
          ∙ ap (λ b. cond b (option_and_then one_less (standing k m.table m.version)) (standing k m.table p)) (unsigned_tied p m.version)
          ∙ at_version (nat_eq p m.version) refl
          ∙ ap (λ q. cond (nat_eq p m.version) (option_and_then one_less (standing k q p)) (standing k q p)) (sym own)
      by false is = ap (λ (l : Live). finite.get l p) (got_other k.live m.table t new is)

  -- how many stand there
  marks_less : (o : Option Standing) → 0 < marks_of o → marks_of o ≡ marks_of (option_and_then one_less o) + 1
  marks_less None h = absurd (omega (arith, h))
  marks_less (Some x) h = by (nat_le x.marks 1) refl h
    where
      by : (b : Bool) → nat_le x.marks 1 ≡ b → 0 < x.marks → x.marks ≡ marks_of (cond b None (Some (record x { marks = x.marks - 1 }))) + 1
      by true is h = let few : x.marks ≤ 1 = grind (arith, nat_tests) in omega (arith, few, h)
      by false is h = omega (arith, h)

  content_stays : (o : Option Standing) (x : Standing) → o ≡ Some x → 0 < marks_of (option_and_then one_less o) → option_and_then one_less o ≡ Some (record { content = x.content; marks = marks_of (option_and_then one_less o) })
  content_stays None x is h = absurd (none-some x is)
  content_stays (Some y) x is h = by (nat_le y.marks 1) h
    where
      by : (b : Bool) → 0 < marks_of (cond b None (Some (record y { marks = y.marks - 1 })))
          → cond b None (Some (record y { marks = y.marks - 1 })) ≡ Some (record { content = x.content; marks = marks_of (cond b None (Some (record y { marks = y.marks - 1 }))) })
      by true h = absurd (omega (arith, h))
      by false h = ap (λ (z : Standing). let s : Option Standing = Some (record { content = z.content; marks = y.marks - 1 }) in s) (same_Some y x is)

  itself_stands : (o : Option Standing) (x : Standing) → o ≡ Some x → o ≡ Some (record { content = x.content; marks = marks_of o })
  itself_stands None x is = absurd (none-some x is)
  itself_stands (Some y) x is = ap (λ (z : Standing). let s : Option Standing = Some (record { content = z.content; marks = y.marks }) in s) (same_Some y x is)

  pub count_after : (t p : ℕ) → (is_at t p m ≡ true → 0 < count k t p) → count k t p ≡ count after t p + bit (is_at t p m)
  count_after t p some = by (is_at t p m) refl
    where
      by : (b : Bool) → is_at t p m ≡ b → count k t p ≡ count after t p + bit b
      by true is =
          let left : standing after t p ≡ option_and_then one_less (standing k t p) = stands_after t p ∙ ap (λ b. cond b (option_and_then one_less (standing k t p)) (standing k t p)) is in
          marks_less (standing k t p) (some is) ∙ ap (λ o. marks_of o + 1) (sym left)
      by false is =
          let left : standing after t p ≡ standing k t p = stands_after t p ∙ ap (λ b. cond b (option_and_then one_less (standing k t p)) (standing k t p)) is in
          let same : count after t p ≡ count k t p = ap marks_of left in
          omega (arith, same)

  pub contents_after : KeepsContents k after
  contents_after t p x there h = by (is_at t p m) refl
    where
      by : (b : Bool) → is_at t p m ≡ b → standing after t p ≡ Some (record { content = x.content; marks = count after t p })
      by true is =
          let left : standing after t p ≡ option_and_then one_less (standing k t p) = stands_after t p ∙ ap (λ b. cond b (option_and_then one_less (standing k t p)) (standing k t p)) is in
          subst (λ (o : Option Standing). o ≡ Some (record { content = x.content; marks = marks_of o })) (sym left) (content_stays (standing k t p) x there (subst (λ (o : Option Standing). 0 < marks_of o) left h))
      by false is =
          let left : standing after t p ≡ standing k t p = stands_after t p ∙ ap (λ b. cond b (option_and_then one_less (standing k t p)) (standing k t p)) is in
          subst (λ (o : Option Standing). o ≡ Some (record { content = x.content; marks = marks_of o })) (sym left) (itself_stands (standing k t p) x there)

-- ---- lists of marks

pub uses-++ : (t p : ℕ) (xs ys : List Mark) → uses t p (xs ++ ys) ≡ uses t p xs + uses t p ys
uses-++ t p [] ys = omega arith
uses-++ t p (x ∷ xs) ys = let rest : uses t p (xs ++ ys) ≡ uses t p xs + uses t p ys = uses-++ t p xs ys in omega (arith, rest)

pub live-left : (k : Chains) (xs ys : List Mark) → AreLive k (xs ++ ys) → AreLive k xs
live-left k [] ys h = tt
live-left k (x ∷ xs) ys h = (h.0, live-left k xs ys h.1)

pub live-right : (k : Chains) (xs ys : List Mark) → AreLive k (xs ++ ys) → AreLive k ys
live-right k [] ys h = h
live-right k (x ∷ xs) ys h = live-right k xs ys h.1

pub has-left : (k : Chains) (xs ys : List Mark) → HasAll k (xs ++ ys) → HasAll k xs
has-left k xs ys h = (live-left k xs ys h.0, λ t p. let sum : uses t p (xs ++ ys) ≡ uses t p xs + uses t p ys = uses-++ t p xs ys in let low : uses t p (xs ++ ys) ≤ count k t p = h.1 t p in omega (arith, sum, low))

pub itself_at : (m : Mark) → is_at m.table m.version m ≡ true
itself_at m = let a : nat_eq m.table m.table ≡ true = grind (arith, nat_tests) in let b : nat_eq m.version m.version ≡ true = grind (arith, nat_tests) in λ i. a i && b i

pub used_once : (m : Mark) (ms : List Mark) → 1 ≤ uses m.table m.version (m ∷ ms)
used_once m ms = let one : bit (is_at m.table m.version m) ≡ 1 = ap bit (itself_at m) in omega (arith, one)

-- marks that are counted still are live still
pub still_live : (old new : Chains) (ms : List Mark) → KeepsContents old new → AreLive old ms → ((t p : ℕ) → uses t p ms ≤ count new t p) → AreLive new ms
still_live old new [] keeps live low = tt
still_live old new (m ∷ ms) keeps live low =
    let one : 1 ≤ uses m.table m.version (m ∷ ms) = used_once m ms in
    let left : uses m.table m.version (m ∷ ms) ≤ count new m.table m.version = low m.table m.version in
    ((count new m.table m.version, keeps m.table m.version _ live.0.1 (omega (arith, one, left))), still_live old new ms keeps live.1 (λ t p. let all : uses t p (m ∷ ms) ≤ count new t p = low t p in omega (arith, all)))

pub has-rest : (old new : Chains) (xs ys : List Mark) → HasAll old (xs ++ ys) → Frees old new xs → HasAll new ys
has-rest old new xs ys h f =
    let low : (t p : ℕ) → uses t p ys ≤ count new t p = λ t p.
    let sum : uses t p (xs ++ ys) ≡ uses t p xs + uses t p ys = uses-++ t p xs ys in
    let all : uses t p (xs ++ ys) ≤ count old t p = h.1 t p in
    let less : count old t p ≡ count new t p + uses t p xs = f.2 t p in
    omega (arith, sum, all, less) in
    (still_live old new ys f.3 (live-right old xs ys h.0) low, low)

pub frees_none : (k : Chains) → Frees k k []
frees_none k = (refl, refl, λ t p. omega arith, λ t p x there h. itself (standing k t p) x there, λ h. h)
  where
    itself : (o : Option Standing) (x : Standing) → o ≡ Some x → o ≡ Some (record { content = x.content; marks = marks_of o })
    itself None x is = absurd (none-some x is)
    itself (Some y) x is = ap (λ (z : Standing). let s : Option Standing = Some (record { content = z.content; marks = y.marks }) in s) (same_Some y x is)

pub frees_on : (a b c : Chains) (xs ys : List Mark) → Frees a b xs → Frees b c ys → Frees a c (xs ++ ys)
frees_on a b c xs ys f g = (
  g.0 ∙ f.0,
  g.1 ∙ f.1,
  λ t p.
      let first : count a t p ≡ count b t p + uses t p xs = f.2 t p in
      let second : count b t p ≡ count c t p + uses t p ys = g.2 t p in
      let sum : uses t p (xs ++ ys) ≡ uses t p xs + uses t p ys = uses-++ t p xs ys in
      omega (arith, first, second, sum),
  λ t p x there h.
      let second : count b t p ≡ count c t p + uses t p ys = g.2 t p in
      g.3 t p (record { content = x.content; marks = count b t p }) (f.3 t p x there (omega (arith, second, h))) h,
  λ now. g.4 (f.4 now),
)

-- one mark is released
pub frees_one : (k new : Chains) (m : Mark) → HasAll k (m ∷ []) → new ≡ released m.table m.version k → IsNow new → Frees k new (m ∷ [])
frees_one k new m h is now =
    subst (λ (c : Chains). IsNow c → Frees k c (m ∷ [])) (sym is)
    (λ now. (
      refl,
      refl,
      λ t p.
          let some : is_at t p m ≡ true → 0 < count k t p = λ at. (let own : bit (is_at t p m) ≡ 1 = ap bit at in let low : uses t p (m ∷ []) ≤ count k t p = h.1 t p in omega (arith, own, low)) in
          let less : count k t p ≡ count (released m.table m.version k) t p + bit (is_at t p m) = count_after k m h.0.0 t p some in
          omega (arith, less),
      contents_after k m h.0.0,
      λ before. now,
    )) now
