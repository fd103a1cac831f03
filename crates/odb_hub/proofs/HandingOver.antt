-- Messages that are put into rings one after another.
use Rattle.std.proofs.Common.{◌≡◌, ℕ, ◌==◌, ◌≤◌, Bool, true, false, cond, not, length, List, [], ◌∷◌, ◌++◌, Option, Some, None, is_some, refl, sym, ap, subst, ◌∙◌, append-nil, append_assoc, arith, inl, inr, true≢false, suc}
use Rattle.std.specs.Prelude.{◌⊎◌, option_to_list}
use borrow.Author.Tests.{eq-eqb}
use Rattle.odb_atoms.specs.FinMap.{get}
use Rattle.odb_hub.specs.Rings.{HandsOver, HasRoom, IsFlushed, IsFlushedAt, IsLookedAt, IsPut, IsUnsent, IsPutAt, IsServed, IsShort, PutsBy, Ring, Rings, StillHolds, Text, is_free, is_free_at, room_of, texts, texts_to}
use Rattle.odb_hub.specs.Room.{IsLooked, has_room, size_of}

-- nothing is put
pub nothing_more : (o : Option Ring) → HandsOver o [] o
nothing_more None = (refl, refl)
nothing_more (Some a) = (a, refl, ([], sym (append-nil a.sent), sym (append-nil (option_to_list a.held))), λ _. refl, refl)

pub free_is : (r : Ring) → 1 ≤ room_of (Some r) → r.held ≡ None
free_is r h = by r.held refl
  where
    by : (o : Option Text) → r.held ≡ o → o ≡ None
    by None is = refl
    by (Some t) is = absurd (let e : room_of (Some r) ≡ 0 = ap (λ (x : Option Text). let n : ℕ = cond (not (is_some x)) 1 0 in n) is in omega (arith, h, e))

not_nil : (x : Text) (xs : List Text) → (x ∷ xs) ≡ [] → (A : Type 0) → A
not_nil x xs e A = absurd (let f : suc (length xs) ≡ 0 = ap length e in omega (arith, f))

-- ---- putting one

-- it was sent, or it is held back
pub put_cases : (text : Text) (a b : Ring) (p : IsPut text a b) → ((b.sent ≡ a.sent ++ text ∷ []) × (b.held ≡ None)) ⊎ ((b.sent ≡ a.sent) × (b.waiting ≡ p.0) × (b.held ≡ Some text))
put_cases text a b p = by (has_room p.0 (size_of text)) p.2
  where
    by : (c : Bool) → PutsBy c text p.0 a b → ((b.sent ≡ a.sent ++ text ∷ []) × (b.held ≡ None)) ⊎ ((b.sent ≡ a.sent) × (b.waiting ≡ p.0) × (b.held ≡ Some text))
    by true is = inl (ap (λ (r : Ring). r.sent) is, ap (λ (r : Ring). r.held) is)
    by false is = inr (ap (λ (r : Ring). r.sent) is, ap (λ (r : Ring). r.waiting) is, ap (λ (r : Ring). r.held) is)

pub put_name : (text : Text) (a b : Ring) → IsPut text a b → b.name ≡ a.name
put_name text a b p = by (has_room p.0 (size_of text)) p.2
  where
    by : (c : Bool) → PutsBy c text p.0 a b → b.name ≡ a.name
    by true is = ap (λ (r : Ring). r.name) is
    by false is = ap (λ (r : Ring). r.name) is

same_text : (x y : Text) → (let o : Option Text = Some x in o) ≡ Some y → x ≡ y
same_text x y e = cc

none_some : {A : Type 0} (o : Option Text) (x : Text) → o ≡ None → o ≡ Some x → A
none_some o x none some = absurd (true≢false (ap is_some (sym some ∙ none)))

-- where it is held back there is no room
pub put_short : (text : Text) (a b : Ring) → IsPut text a b → IsShort b
put_short text a b p = by (has_room p.0 (size_of text)) refl p.2
  where
    by : (c : Bool) → has_room p.0 (size_of text) ≡ c → PutsBy c text p.0 a b → IsShort b
    by true room is t held = none_some b.held t (ap (λ (r : Ring). r.held) is) held
    by false room is t held =
        let same : text ≡ t = same_text text t (sym (ap (λ (r : Ring). r.held) is) ∙ held) in
        ap (λ ws. has_room ws (size_of t)) (ap (λ (r : Ring). r.waiting) is) ∙ ap (λ x. has_room p.0 (size_of x)) (sym same) ∙ room

pub looked_on : (xs ys zs : List ℕ) → IsLooked xs ys → IsLooked ys zs → IsLooked xs zs
looked_on xs ys zs a b = (a.0 ++ b.0, a.1 ∙ ap (λ ws. a.0 ++ ws) b.1 ∙ sym (append_assoc a.0 b.0 zs))

-- there was room for it
pub sent_is_put : (text : Text) (old mid new : Ring) → old.held ≡ None → IsLookedAt old mid → has_room mid.waiting (size_of text) ≡ true
    → new ≡ record { name = mid.name; sent = mid.sent ++ text ∷ []; waiting = mid.waiting ++ size_of text ∷ []; held = mid.held } → IsPut text old new
sent_is_put text old mid new free looked room is =
    let there : has_room looked.0 (size_of text) ≡ true = ap (λ (r : Ring). has_room r.waiting (size_of text)) (sym looked.2) ∙ room in
    let new_is : new ≡ record { name = old.name; sent = old.sent ++ text ∷ []; waiting = looked.0 ++ size_of text ∷ []; held = None } =
    is ∙ (λ i. record { name = (looked.2 i).name; sent = (looked.2 i).sent ++ text ∷ []; waiting = (looked.2 i).waiting ++ size_of text ∷ []; held = (looked.2 i).held })
    ∙ (λ i. record { name = old.name; sent = old.sent ++ text ∷ []; waiting = looked.0 ++ size_of text ∷ []; held = free i }) in
    (looked.0, looked.1, subst (λ b. PutsBy b text looked.0 old new) (sym there) new_is)

-- there was none
pub unsent_is_put : (text : Text) (old mid new : Ring) → IsUnsent text old mid → new ≡ record mid { held = Some text } → IsPut text old new
unsent_is_put text old mid new unsent is =
    let looked : IsLookedAt old mid = unsent.0 in
    let none : has_room looked.0 (size_of text) ≡ false = ap (λ (r : Ring). has_room r.waiting (size_of text)) (sym looked.2) ∙ unsent.1 in
    let new_is : new ≡ record { name = old.name; sent = old.sent; waiting = looked.0; held = Some text } =
    is ∙ (λ i. record { name = (looked.2 i).name; sent = (looked.2 i).sent; waiting = (looked.2 i).waiting; held = Some text }) in
    (looked.0, looked.1, subst (λ b. PutsBy b text looked.0 old new) (sym none) new_is)

-- one that was not sent is tried again
pub retried : (text : Text) (a b c : Ring) → b.name ≡ a.name → b.sent ≡ a.sent → IsLooked a.waiting b.waiting → IsPut text b c → IsPut text a c
retried text a b c name sent looked p = (p.0, looked_on a.waiting b.waiting p.0 looked p.1, by (has_room p.0 (size_of text)) p.2)
  where
    by : (d : Bool) → PutsBy d text p.0 b c → PutsBy d text p.0 a c
    by true is = is ∙ (λ i. record { name = name i; sent = sent i ++ text ∷ []; waiting = p.0 ++ size_of text ∷ []; held = None })
    by false is = is ∙ (λ i. record { name = name i; sent = sent i; waiting = p.0; held = Some text })

pub put_again : (text : Text) (a b c : Ring) → IsLookedAt a b → IsPut text b c → IsPut text a c
put_again text a b c l p =
    let looked : IsLooked a.waiting b.waiting = subst (λ ws. IsLooked a.waiting ws) (sym (ap (λ (r : Ring). r.waiting) l.2)) l.1 in
    retried text a b c (ap (λ (r : Ring). r.name) l.2) (ap (λ (r : Ring). r.sent) l.2) looked p

sent_on : (text : Text) (a b c : Ring) (ys : List Text) → a.held ≡ None → IsPut text a b
    → ((more : List Text) × (c.sent ≡ b.sent ++ more) × (more ++ option_to_list c.held ≡ option_to_list b.held ++ ys))
    → (more : List Text) × (c.sent ≡ a.sent ++ more) × (more ++ option_to_list c.held ≡ option_to_list a.held ++ text ∷ ys)
sent_on text a b c ys free p m = by (put_cases text a b p)
  where
    by : ((b.sent ≡ a.sent ++ text ∷ []) × (b.held ≡ None)) ⊎ ((b.sent ≡ a.sent) × (b.waiting ≡ p.0) × (b.held ≡ Some text))
        → (more : List Text) × (c.sent ≡ a.sent ++ more) × (more ++ option_to_list c.held ≡ option_to_list a.held ++ text ∷ ys)
    by (inl is) = (
      text ∷ m.0,
      m.1 ∙ ap (λ ts. ts ++ m.0) is.0 ∙ append_assoc a.sent (text ∷ []) m.0,
      ap (λ ts. text ∷ ts) (m.2 ∙ ap (λ (o : Option Text). option_to_list o ++ ys) is.1) ∙ ap (λ (o : Option Text). option_to_list o ++ text ∷ ys) (sym free),
    )
    by (inr is) = (
      m.0,
      m.1 ∙ ap (λ ts. ts ++ m.0) is.0,
      m.2 ∙ ap (λ (o : Option Text). option_to_list o ++ ys) is.2 ∙ ap (λ (o : Option Text). option_to_list o ++ text ∷ ys) (sym free),
    )

flushed_name : (a b : Ring) → IsFlushed a b → b.name ≡ a.name
flushed_name a b (inl is) = ap (λ (r : Ring). r.name) is
flushed_name a b (inr p) = put_name p.0 a b p.2

pub flushed_short : (a b : Ring) → IsShort a → IsFlushed a b → IsShort b
flushed_short a b short (inl is) = subst IsShort (sym is) short
flushed_short a b short (inr p) = put_short p.0 a b p.2

-- what is put first, and then the rest
pub put_first : (b : Bool) (text : Text) (ys : List Text) (o p q : Option Ring) → HasRoom o (cond b (text ∷ ys) ys) → IsPutAt b text o p → HandsOver p ys q → HandsOver o (cond b (text ∷ ys) ys) q
put_first false text ys o p q room put rest = subst (λ (x : Option Ring). HandsOver x ys q) put rest
put_first true text ys None p q room put rest = absurd (omega (arith, room))
put_first true text ys (Some a) p q room put rest =
    let free : a.held ≡ None = free_is a (omega (arith, room)) in
    let on : HandsOver (Some put.0) ys q = subst (λ (x : Option Ring). HandsOver x ys q) put.1 rest in
    (on.0, on.1, sent_on text a put.0 on.0 ys free put.2 on.2, λ none. not_nil text ys none (on.0 ≡ a), on.4 ∙ put_name text a put.0 put.2)

-- and there is room for the rest
pub room_on : (b : Bool) (text : Text) (ys : List Text) (o p : Option Ring) → HasRoom o (cond b (text ∷ ys) ys) → IsPutAt b text o p → HasRoom p ys
room_on false text ys o p room put = subst (λ (x : Option Ring). HasRoom x ys) (sym put) room
room_on true text ys None p room put = absurd (omega (arith, room))
room_on true text ys (Some a) p room put = omega (arith, room, most (is_free a))
  where
    most : (b : Bool) → (let n : ℕ = cond b 1 0 in n) ≤ 1
    most true = omega arith
    most false = omega arith

-- ---- a round, of the ring of one session

flushed_free : (a b : Ring) → IsFlushed a b → is_free b ≡ true → b.sent ≡ texts a
flushed_free a b (inl is) free = by b.held refl
  where
    by : (o : Option Text) → b.held ≡ o → b.sent ≡ texts a
    by None e = sym (append-nil b.sent) ∙ ap (λ (x : Option Text). b.sent ++ option_to_list x) (sym e) ∙ ap texts is
    by (Some t) e = absurd (let f : false ≡ true = ap (λ (x : Option Text). not (is_some x)) (sym e) ∙ free in true≢false (sym f))
flushed_free a b (inr p) free = by (put_cases p.0 a b p.2)
  where
    by : ((b.sent ≡ a.sent ++ p.0 ∷ []) × (b.held ≡ None)) ⊎ ((b.sent ≡ a.sent) × (b.waiting ≡ p.2.0) × (b.held ≡ Some p.0)) → b.sent ≡ texts a
    by (inl is) = is.0 ∙ ap (λ (o : Option Text). a.sent ++ option_to_list o) (sym p.1)
    by (inr is) = absurd (let f : false ≡ true = ap (λ (x : Option Text). not (is_some x)) (sym is.2) ∙ free in true≢false (sym f))

pub flushed_holds : (a b : Ring) → IsFlushed a b → is_free b ≡ false → (is_some a.held ≡ true) × StillHolds a b
flushed_holds a b (inl is) holds = (ap (λ (r : Ring). is_some r.held) (sym is) ∙ by (is_some b.held) refl, (ap (λ (r : Ring). r.name) is, ap (λ (r : Ring). r.sent) is, ap (λ (r : Ring). r.held) is))
  where
    by : (c : Bool) → is_some b.held ≡ c → c ≡ true
    by true e = refl
    by false e = absurd (true≢false (ap not (sym e) ∙ holds))
flushed_holds a b (inr p) holds = by (put_cases p.0 a b p.2)
  where
    by : ((b.sent ≡ a.sent ++ p.0 ∷ []) × (b.held ≡ None)) ⊎ ((b.sent ≡ a.sent) × (b.waiting ≡ p.2.0) × (b.held ≡ Some p.0)) → (is_some a.held ≡ true) × StillHolds a b
    by (inl is) = absurd (true≢false (ap (λ (x : Option Text). not (is_some x)) (sym is.1) ∙ holds))
    by (inr is) = (ap is_some p.1, (put_name p.0 a b p.2, is.0, is.2 ∙ sym p.1))

pub still_texts : (a b : Ring) → StillHolds a b → texts b ≡ texts a
still_texts a b h = (λ i. h.1 i ++ option_to_list (h.2 i))

pub flushed_texts : (a b : Ring) → IsFlushed a b → texts b ≡ texts a
flushed_texts a b (inl e) = ap texts e
flushed_texts a b (inr p) = by (put_cases p.0 a b p.2)
  where
    by : ((b.sent ≡ a.sent ++ p.0 ∷ []) × (b.held ≡ None)) ⊎ ((b.sent ≡ a.sent) × (b.waiting ≡ p.2.0) × (b.held ≡ Some p.0)) → texts b ≡ texts a
    by (inl is) = (λ i. is.0 i ++ option_to_list (is.1 i)) ∙ append-nil (a.sent ++ p.0 ∷ []) ∙ ap (λ (o : Option Text). a.sent ++ option_to_list o) (sym p.1)
    by (inr is) = (λ i. is.0 i ++ option_to_list ((is.2 ∙ sym p.1) i))

held_none : (r : Ring) → is_free r ≡ true → r.held ≡ None
held_none r free = by r.held refl
  where
    by : (o : Option Text) → r.held ≡ o → o ≡ None
    by None e = refl
    by (Some t) e = absurd (true≢false (sym (ap (λ (x : Option Text). not (is_some x)) (sym e) ∙ free)))

nothing_in : (o : Option Ring) (outs : List Text) → HasRoom o outs → is_free_at o ≡ false → outs ≡ []
nothing_in None [] room e = refl
nothing_in None (x ∷ xs) room e = absurd (omega (arith, room))
nothing_in (Some r) [] room e = refl
nothing_in (Some r) (x ∷ xs) room e = absurd (let f : room_of (Some r) ≡ 0 = ap (λ b. let n : ℕ = cond b 1 0 in n) e in omega (arith, room, f))

-- what was held back goes first; where it went the session is given what it is sent
pub served : (listed : Bool) (outs : List Text) (o p q : Option Ring) → IsFlushedAt o p → listed ≡ is_free_at p → HasRoom p outs → HandsOver p outs q → IsServed listed outs o q
served listed outs None p q flushed is room over =
    let on : HandsOver None outs q = subst (λ (x : Option Ring). HandsOver x outs q) flushed over in
    (is ∙ ap is_free_at flushed, on.0, on.1)
served listed outs (Some a) p q flushed is room over =
    let b : Ring = flushed.0 in
    let on : HandsOver (Some b) outs q = subst (λ (x : Option Ring). HandsOver x outs q) flushed.1 over in
    by listed (is_free b) refl (is ∙ ap is_free_at flushed.1) on
  where
    by : (l f : Bool) → is_free flushed.0 ≡ f → l ≡ f → HandsOver (Some flushed.0) outs q → IsServed l outs (Some a) q
    by true true free same on =
        (on.0, on.1, on.2.0, on.2.1 ∙ ap (λ ts. ts ++ on.2.0) (flushed_free a flushed.0 flushed.2 free), on.2.2 ∙ ap (λ (x : Option Text). option_to_list x ++ outs) (held_none flushed.0 free), on.4 ∙ flushed_name a flushed.0 flushed.2)
    by false false holds same on =
        let h : (is_some a.held ≡ true) × StillHolds a flushed.0 = flushed_holds a flushed.0 flushed.2 holds in
        let none : outs ≡ [] = nothing_in (Some flushed.0) outs (subst (λ (x : Option Ring). HasRoom x outs) flushed.1 room) holds in
        (h.0, none, flushed.0, on.1 ∙ ap (λ (r : Ring). let x : Option Ring = Some r in x) (on.3 none), h.1)
    by true false holds same on = absurd (true≢false same)
    by false true free same on = absurd (true≢false (sym same))

-- ---- flushing

pub flushed_itself : (o : Option Ring) → IsFlushedAt o o
flushed_itself None = refl
flushed_itself (Some a) = (a, refl, inl refl)

flushed_again : (a b c : Ring) → IsFlushed a b → IsFlushed b c → IsFlushed a c
flushed_again a b c (inl e) f = subst (λ (r : Ring). IsFlushed r c) e f
flushed_again a b c (inr p) (inl f) = inr (p.0, p.1, subst (λ (r : Ring). IsPut p.0 a r) (sym f) p.2)
flushed_again a b c (inr p) (inr q) = by (put_cases p.0 a b p.2)
  where
    by : ((b.sent ≡ a.sent ++ p.0 ∷ []) × (b.held ≡ None)) ⊎ ((b.sent ≡ a.sent) × (b.waiting ≡ p.2.0) × (b.held ≡ Some p.0)) → IsFlushed a c
    by (inl is) = none_some b.held q.0 is.1 q.1
    by (inr is) =
        let same : q.0 ≡ p.0 = same_text q.0 p.0 (sym q.1 ∙ is.2) in
        let looked : IsLooked a.waiting b.waiting = subst (λ ws. IsLooked a.waiting ws) (sym is.1) p.2.1 in
        inr (p.0, p.1, retried p.0 a b c (put_name p.0 a b p.2) is.0 looked (subst (λ t. IsPut t b c) same q.2))

pub flushed_twice : (o p q : Option Ring) → IsFlushedAt o p → IsFlushedAt p q → IsFlushedAt o q
flushed_twice None p q e f = subst (λ (x : Option Ring). IsFlushedAt x q) e f
flushed_twice (Some a) p q e f =
    let g : IsFlushedAt (Some e.0) q = subst (λ (x : Option Ring). IsFlushedAt x q) e.1 f in
    (g.0, g.1, flushed_again a e.0 g.0 e.2 g.2)

-- ---- one message more

pub hand_step : (m k : Rings) (o : ℕ × Text) (os all : List (ℕ × Text)) → all ≡ o ∷ os → ((s : ℕ) → HasRoom (get m s) (texts_to s all)) → ((s : ℕ) → IsPutAt (o.0 == s) o.1 (get m s) (get k s)) → (s : ℕ)
    → HasRoom (get k s) (texts_to s os) × ((q : Option Ring) → HandsOver (get k s) (texts_to s os) q → HandsOver (get m s) (texts_to s all) q)
hand_step m k o os all is room put s =
    let here : HasRoom (get m s) (texts_to s (o ∷ os)) = subst (λ xs. HasRoom (get m s) (texts_to s xs)) is (room s) in (
      room_on (o.0 == s) o.1 (texts_to s os) (get m s) (get k s) here (put s),
      λ q rest. subst (λ xs. HandsOver (get m s) (texts_to s xs) q) (sym is) (put_first (o.0 == s) o.1 (texts_to s os) (get m s) (get k s) q here (put s) rest),
    )

pub room_first : (m : Rings) (o : ℕ × Text) (os all : List (ℕ × Text)) → all ≡ o ∷ os → ((s : ℕ) → HasRoom (get m s) (texts_to s all)) → HasRoom (get m o.0) (o.1 ∷ [])
room_first m o os all is room =
    let here : HasRoom (get m o.0) (texts_to o.0 (o ∷ os)) = subst (λ xs. HasRoom (get m o.0) (texts_to o.0 xs)) is (room o.0) in
    first (get m o.0) (o.0 == o.0) (eq-eqb o.0 o.0 refl) here
  where
    first : (p : Option Ring) (b : Bool) → b ≡ true → HasRoom p (cond b (o.1 ∷ texts_to o.0 os) (texts_to o.0 os)) → HasRoom p (o.1 ∷ [])
    first p true e h = omega (arith, h)
    first p false e h = absurd (true≢false (sym e))
