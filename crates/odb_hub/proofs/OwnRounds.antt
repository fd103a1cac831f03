-- A round of one session alone.
use Rattle.std.proofs.Common.{◌≡◌, ℕ, ◌+◌, ◌==◌, ◌≤◌, ◌||◌, length, Bool, true, false, cond, List, [], ◌∷◌, Option, Some, None, refl, sym, ap, subst, ◌∙◌, append-nil, true≢false, arith, Ok}
use Rattle.std.proofs.lemmas.List.{nil_from_length}
use borrow.Author.Tests.{eqb-true}
use Rattle.odb_atoms.specs.FinMap.{get}
use Rattle.odb_hub.specs.Counted.{submits}
use Rattle.odb_hub.specs.Guarded.{IsGuarded, Guarded, Takes}
use Rattle.odb_hub.specs.Own.{FlushesOwn, GivesOwn, GivesTo, TakesIf, TakesOwnRound, TakesOwnRounds}
use Rattle.odb_hub.specs.Rings.{HandsOver, HasRoom, IsFlushedAt, Ring, Rings, Text, is_free_at, room_of, texts, texts_to}
use Rattle.odb_hub.proofs.Counting.{same_count, same_events}
use Rattle.odb_hub.proofs.HandingOver.{flushed_itself, nothing_more, served}
use Rattle.odb_hub.proofs.Keeping.{Grows, grown, grown_kept, most_texts, round_kept}
use Rattle.odb_service.specs.Run.{round}
use Rattle.odb_service.specs.Server.{Server, serve}

abbrev Same : ℕ → Rings → Rings → Type 0
Same s m k = (t : ℕ) → (s == t) ≡ false → get k t ≡ get m t

-- ---- what it gives

none_for : (s t : ℕ) (v w : Server) (outs : List (ℕ × Text)) → serve (round (s ∷ [])) v ≡ Ok (w, outs) → (s == t) ≡ false → texts_to t outs ≡ []
none_for s t v w outs went apart =
    let most : length (texts_to t outs) ≤ 0 = subst (λ b. length (texts_to t outs) ≤ cond (b || false) 1 0) apart (most_texts (s ∷ []) v w outs went t) in
    let zero : length (texts_to t outs) ≡ 0 = omega (arith, most) in
    nil_from_length (texts_to t outs) zero

pub has_room : (o : Option Ring) → is_free_at o ≡ true → 1 ≤ room_of o
has_room None e = absurd (true≢false (sym e))
has_room (Some r) e = subst (λ b. 1 ≤ (let n : ℕ = cond b 1 0 in n)) (sym e) (omega arith)

pub own_rooms : (m : Rings) (s : ℕ) (v w : Server) (outs : List (ℕ × Text)) → is_free_at (get m s) ≡ true → serve (round (s ∷ [])) v ≡ Ok (w, outs) → (q : ℕ) → HasRoom (get m q) (texts_to q outs)
own_rooms m s v w outs free went q = by (s == q) refl
  where
    by : (b : Bool) → (s == q) ≡ b → length (texts_to q outs) ≤ room_of (get m q)
    by true e =
        let most : length (texts_to q outs) ≤ 1 = subst (λ b. length (texts_to q outs) ≤ cond (b || false) 1 0) e (most_texts (s ∷ []) v w outs went q) in
        let room : 1 ≤ room_of (get m q) = has_room (get m q) (ap (λ k. is_free_at (get m k)) (sym (eqb-true s q e)) ∙ free) in
        omega (arith, most, room)
    by false e =
        let none : length (texts_to q outs) ≡ 0 = ap length (none_for s q v w outs went e) in
        omega (arith, none)

-- ---- what it makes of the rings

hands_nothing : (o p : Option Ring) (outs : List Text) → outs ≡ [] → HandsOver o outs p → p ≡ o
hands_nothing None p outs none h = h.1
hands_nothing (Some a) p outs none h = h.1 ∙ ap (λ (r : Ring). let x : Option Ring = Some r in x) (h.3 none)

-- what was held back went, and the round was handed over
pub own_round : (s : ℕ) (old new : Guarded) (mid : Rings) (outs : List (ℕ × Text)) → ((t : ℕ) → IsFlushedAt (get old.rings t) (get mid t)) → Same s old.rings mid → is_free_at (get mid s) ≡ true
    → Takes (round (s ∷ [])) old new outs → ((t : ℕ) → HandsOver (get mid t) (texts_to t outs) (get new.rings t)) → TakesOwnRound s (length outs) old new
own_round s old new mid outs flushed others free takes over = (
  true,
  outs,
  takes,
  refl,
  served true (texts_to s outs) (get old.rings s) (get mid s) (get new.rings s) (flushed s) (sym free) (own_rooms mid s old.server new.server outs free takes.0 s) (over s),
  λ t apart. hands_nothing (get mid t) (get new.rings t) (texts_to t outs) (none_for s t old.server new.server outs takes.0 apart) (over t) ∙ others t apart,
)

-- a message is held back still, or there is no ring
pub own_waits : (s : ℕ) (old new : Guarded) → FlushesOwn s old new → is_free_at (get new.rings s) ≡ false → TakesOwnRound s 0 old new
own_waits s old new f holds =
    let room : HasRoom (get new.rings s) [] = omega arith in
    (false, [], (f.0, f.1, f.2, refl), refl, served false [] (get old.rings s) (get new.rings s) (get new.rings s) f.3 (sym holds) room (nothing_more (get new.rings s)), f.4)

-- ---- what is kept

stays : (o : Option Ring) → Grows [] o o
stays None = refl
stays (Some a) = (a, refl, sym (append-nil (texts a)))

none_of : (listed : Bool) (s : ℕ) (old new : Guarded) (outs : List (ℕ × Text)) → TakesIf listed (round (s ∷ [])) old new outs → (t : ℕ) → (s == t) ≡ false → texts_to t outs ≡ []
none_of true s old new outs takes t apart = none_for s t old.server new.server outs takes.0 apart
none_of false s old new outs same t apart = ap (texts_to t) same.3

own_grows : (s : ℕ) (m k : Rings) (outs : List (ℕ × Text)) → ((t : ℕ) → (s == t) ≡ false → texts_to t outs ≡ []) → Grows (texts_to s outs) (get m s) (get k s) → Same s m k → (t : ℕ) → Grows (texts_to t outs) (get m t) (get k t)
own_grows s m k outs none here others t = by (s == t) refl
  where
    by : (b : Bool) → (s == t) ≡ b → Grows (texts_to t outs) (get m t) (get k t)
    by true e = subst (λ q. Grows (texts_to q outs) (get m q) (get k q)) (eqb-true s t e) here
    by false e = subst (λ ts. Grows ts (get m t) (get k t)) (sym (none t e)) (subst (λ (o : Option Ring). Grows [] (get m t) o) (sym (others t e)) (stays (get m t)))

pub own_grown : (s count : ℕ) (old new : Guarded) (o : TakesOwnRound s count old new) → (t : ℕ) → Grows (texts_to t o.1) (get old.rings t) (get new.rings t)
own_grown s count old new o =
    own_grows s old.rings new.rings o.1 (none_of o.0 s old new o.1 o.2) (grown o.0 (texts_to s o.1) (get old.rings s) (get new.rings s) o.4) o.5

own_taken : (listed : Bool) (s : ℕ) (old new : Guarded) (outs : List (ℕ × Text)) → IsGuarded old → TakesIf listed (round (s ∷ [])) old new outs → ((t : ℕ) → Grows (texts_to t outs) (get old.rings t) (get new.rings t)) → IsGuarded new
own_taken true s old new outs kept takes grows = round_kept old new kept (s ∷ []) outs takes grows
own_taken false s old new outs kept same grows = grown_kept old new kept same.0 same.1 same.2 (λ t. subst (λ os. Grows (texts_to t os) (get old.rings t) (get new.rings t)) same.3 (grows t))

pub own_kept : (s count : ℕ) (old new : Guarded) → IsGuarded old → TakesOwnRound s count old new → IsGuarded new
own_kept s count old new kept o = own_taken o.0 s old new o.1 kept o.2 (own_grown s count old new o)

-- ---- such rounds one after another

pub flushed_nothing : (s : ℕ) (k : Guarded) → FlushesOwn s k k
flushed_nothing s k = (refl, refl, refl, flushed_itself (get k.rings s), λ t apart. refl)

-- they were all
pub gives_all : (s : ℕ) (old new : Guarded) (counts : List ℕ) → TakesOwnRounds s counts old new → GivesOwn s old new
gives_all s old new counts rounds = (counts, new, rounds, flushed_nothing s new)

-- ---- submits

one_counted : (listed : Bool) (s : ℕ) (old new : Guarded) (outs : List (ℕ × Text)) (total settled : ℕ) → total ≡ settled + submits old.events → TakesIf listed (round (s ∷ [])) old new outs → total ≡ settled + submits new.events
one_counted true s old new outs total settled count takes = same_count total settled old.events new.events (round (s ∷ [])) count takes.1 refl
one_counted false s old new outs total settled count same = same_events old new total settled count same.2

rounds_counted : (s : ℕ) (counts : List ℕ) (old new : Guarded) (total settled : ℕ) → total ≡ settled + submits old.events → TakesOwnRounds s counts old new → total ≡ settled + submits new.events
rounds_counted s [] old new total settled count same = same_events old new total settled count (ap (λ (k : Guarded). k.events) same)
rounds_counted s (n ∷ ns) old new total settled count t = one_counted t.2.0 s t.0 new t.2.1 total settled (rounds_counted s ns old t.0 total settled count t.1) t.2.2

pub own_counted : (s : ℕ) (old new : Guarded) (total settled : ℕ) → total ≡ settled + submits old.events → GivesOwn s old new → total ≡ settled + submits new.events
own_counted s old new total settled count g = same_events g.1 new total settled (rounds_counted s g.0 old g.1 total settled count g.2) g.3.2

pub next_counted : (o : Option ℕ) (old new : Guarded) (total settled : ℕ) → total ≡ settled + submits old.events → GivesTo o old new → total ≡ settled + submits new.events
next_counted (Some s) old new total settled count g = own_counted s old new total settled count g
next_counted None old new total settled count g = subst (λ (k : Guarded). total ≡ settled + submits k.events) (sym g) count
