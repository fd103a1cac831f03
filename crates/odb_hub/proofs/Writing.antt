-- Bytes that are moved and written in parts, up to a fault.
use Rattle.std.proofs.Common.{◌≡◌, ℕ, ◌+◌, ◌-◌, ◌<◌, ◌≤◌, ◌==◌, true, false, map, rules, List, [], ◌∷◌, ◌++◌, codes, None, Some, refl, ap, subst, sym, ◌∙◌, append_assoc, append-nil, take, drop, length, arith, take-append-drop, length-drop, length-take-le, suc}
use Rattle.std.proofs.lemmas.Bool.Decides.{nat_tests}
use Rattle.std.proofs.lemmas.List.{drop-drop, map-append, take_all}
use Rattle.std.proofs.lemmas.List.Folds.{concat-append}
use Rattle.std.specs.Prelude.{◌≢◌, OnErr, Result, Ok, Err}
use Rattle.std.specs.List.{concat}
use Rattle.std.specs.declared.option.Option.{Option}
use Rattle.std.specs.Io.KnownBytes.{Appends, Keeps}
use Rattle.json.specs.Print.{escape_byte}
use Rattle.odb_hub.specs.Outbox.{ProbesBy, Moves, MovesSome, Outbox, Sends, Takes, Writes}
use Rattle.odb_hub.specs.Probe.{probe_text}
use Rattle.odb_hub.specs.Rings.{Name, Text}
use Rattle.odb_sessions.specs.Represented.Out.{text_of_out}
use Rattle.odb_sessions.specs.declared.out.Out.{Out}

abbrev Known : Type 0
Known = Option (List ℕ)

-- ---- what is known of a writer

pub keeps_same : (a : Known) → Keeps a a
keeps_same None = tt
keeps_same (Some xs) = refl

pub keeps_more : (a b c : Known) → Keeps a b → Keeps b c → Keeps a c
keeps_more None b c p q = tt
keeps_more (Some xs) None c p q = absurd p
keeps_more (Some xs) (Some ys) None p q = absurd q
keeps_more (Some xs) (Some ys) (Some zs) p q = q ∙ p

pub keeps_then : (a b c : Known) (s : List ℕ) → Keeps a b → Appends b c s → Appends a c s
keeps_then None b c s p q = tt
keeps_then (Some xs) None c s p q = absurd p
keeps_then (Some xs) (Some ys) None s p q = absurd q
keeps_then (Some xs) (Some ys) (Some zs) s p q = q ∙ ap (λ l. l ++ s) p

pub appends_nothing : (a b : Known) → Keeps a b → Appends a b []
appends_nothing None b p = tt
appends_nothing (Some xs) None p = absurd p
appends_nothing (Some xs) (Some ys) p = p ∙ sym (append-nil xs)

pub appends_more : (a b c : Known) (s t : List ℕ) → Appends a b s → Appends b c t → Appends a c (s ++ t)
appends_more None b c s t p q = tt
appends_more (Some xs) None c s t p q = absurd p
appends_more (Some xs) (Some ys) None s t p q = absurd q
appends_more (Some xs) (Some ys) (Some zs) s t p q = q ∙ ap (λ l. l ++ t) p ∙ append_assoc xs s t

-- ---- lists of which something is left

pub longer : (s t : List ℕ) → s ≢ [] → (s ++ t) ≢ []
longer [] t some = absurd (some refl)
longer (x ∷ xs) t some = λ e. absurd (let f : suc (length (xs ++ t)) ≡ 0 = ap length e in omega (arith, f))

pub longer_after : (s t : List ℕ) → t ≢ [] → (s ++ t) ≢ []
longer_after [] t some = some
longer_after (x ∷ xs) t some = λ e. absurd (let f : suc (length (xs ++ t)) ≡ 0 = ap length e in omega (arith, f))

pub some_left : (xs : List ℕ) (n : ℕ) → n < length xs → drop n xs ≢ []
some_left xs n less = λ e. absurd (let f : length (drop n xs) ≡ 0 = ap length e in let len = length-drop n xs in omega (arith, f, len, less))

-- what a slice from a place on shows
pub from_place : (xs : List ℕ) (n : ℕ) → take (length xs - n) (drop n xs) ≡ drop n xs
from_place xs n = take_all (length xs - n) (drop n xs) (let len = length-drop n xs in omega (arith, len))

pub on_err : {A E : Type 0} (r : Result A E) (P : Type 0) → P → OnErr r P
on_err (Ok x) P h = tt
on_err (Err e) P h = h

-- so many bytes of them were written
pub sent : (old bytes : List ℕ) (written count : ℕ) (a b : Known) → drop written bytes ≡ old → count ≢ 0 → count ≤ length old → Appends a b (take count old) → Sends old (drop (written + count) bytes) a b
sent old bytes written count a b is some fits wrote =
    let parts : drop (written + count) bytes ≡ drop count (drop written bytes) = search (rules, drop-drop) in (
      take count old,
      (λ none. some (let f : length (take count old) ≡ 0 = ap length none in let len : length (take count old) ≡ count = length-take-le count old fits in omega (arith, f, len))),
      sym (take-append-drop count old) ∙ ap (λ l. take count old ++ l) (ap (λ l. drop count l) (sym is) ∙ sym parts),
      wrote,
    )

-- a piece of a part was added to what stood before it
pub added : (s p : List ℕ) (m k : ℕ) → (s ++ take (m + k - m) (drop m p)) ++ drop (m + k) p ≡ s ++ drop m p
added s p m k =
    let count : m + k - m ≡ k = omega arith in
    let parts : drop (m + k) p ≡ drop k (drop m p) = search (rules, drop-drop) in
    append_assoc s (take (m + k - m) (drop m p)) (drop (m + k) p) ∙ ap (λ n. s ++ (take n (drop m p) ++ drop (m + k) p)) count ∙ ap (λ l. s ++ (take k (drop m p) ++ l)) parts ∙ ap (λ l. s ++ l) (take-append-drop k (drop m p))

-- ---- the probe

pub probe_bytes : codes "{\"id\":\"echo\",\"method\":\"echo\",\"params\":[]}" ≡ probe_text
unfolding escape_byte
probe_bytes = refl

-- ---- outboxes

pub nothing : (l : List ℕ) → (length l == 0) ≡ true → l ≡ []
nothing [] e = refl
nothing (x ∷ xs) e = absurd (grind (arith, nat_tests))

pub something : (l : List ℕ) → (length l == 0) ≡ false → l ≢ []
something [] e = absurd (grind (arith, nat_tests))
something (x ∷ xs) e = λ is. absurd (let f : suc (length xs) ≡ 0 = ap length is in omega (arith, f))

pub takes_nothing : (o : Outbox) → Takes o o
takes_nothing o = ([], refl, sym (append-nil o.taken), sym (append-nil o.left))

pub takes_more : (a b c : Outbox) → Takes a b → Takes b c → Takes a c
takes_more a b c p q = (
  p.0 ++ q.0,
  q.1 ∙ p.1,
  q.2 ∙ ap (λ l. l ++ q.0) p.2 ∙ append_assoc a.taken p.0 q.0,
  q.3 ∙ ap (λ l. l ++ concat q.0) p.3 ∙ append_assoc a.left (concat p.0) (concat q.0) ∙ ap (λ l. a.left ++ l) (sym (concat-append p.0 q.0)),
)

-- one message more was taken out, and nothing is in the midst
pub takes_one : (name name' : Name) (before after : List Out) (out : Out) (buffer rest text : List ℕ) (old : Outbox) → record { name = name; taken = map text_of_out before; left = buffer ++ rest } ≡ old → name' ≡ name → after ≡ before ++ out ∷ [] → rest ≡ [] → text ≡ text_of_out out
    → (x : List Text) × (name' ≡ old.name) × (map text_of_out after ≡ old.taken ++ x) × (buffer ++ text ≡ old.left ++ concat x)
takes_one name name' before after out buffer rest text old is same taken none whole = subst (λ o. (x : List Text) × (name' ≡ o.name) × (map text_of_out after ≡ o.taken ++ x) × (buffer ++ text ≡ o.left ++ concat x)) is (
  text_of_out out ∷ [],
  same,
  ap (map text_of_out) taken ∙ map-append text_of_out before (out ∷ []),
  ap (λ l. buffer ++ l) (whole ∙ sym (append-nil (text_of_out out))) ∙ ap (λ l. l ++ (text_of_out out ++ [])) (sym (append-nil buffer) ∙ ap (λ l. buffer ++ l) (sym none)),
)

pub takes_as_writes : (a b : Outbox) (x y : Known) → Takes a b → Keeps x y → Writes [] a b x y
takes_as_writes a b x y p kept = (p.0, p.1, p.2, sym p.3, appends_nothing x y kept)

pub writes_more : (f g : List ℕ) (a b c : Outbox) (x y z : Known) → Writes f a b x y → Writes g b c y z → Writes (f ++ g) a c x z
writes_more f g a b c x y z p q = (
  p.0 ++ q.0,
  q.1 ∙ p.1,
  q.2 ∙ ap (λ l. l ++ q.0) p.2 ∙ append_assoc a.taken p.0 q.0,
  ap (λ l. a.left ++ l) (concat-append p.0 q.0) ∙ sym (append_assoc a.left (concat p.0) (concat q.0)) ∙ ap (λ l. l ++ concat q.0) p.3 ∙ append_assoc f b.left (concat q.0) ∙ ap (λ l. f ++ l) q.3 ∙ sym (append_assoc f g c.left),
  appends_more x y z f g p.4 q.4,
)

pub moves_more : (f : List ℕ) (a b c : Outbox) (x y z : Known) → Writes f a b x y → Moves b c y z → Moves a c x z
moves_more f a b c x y z p q = (f ++ q.0, writes_more f q.0 a b c x y z p q.1)

pub moves_after : (a b c : Outbox) (x y : Known) → Takes a b → MovesSome b c x y → MovesSome a c x y
moves_after a b c x y p q = (q.0, q.1, writes_more [] q.0 a b c x x y (takes_as_writes a b x x p (keeps_same x)) q.2)

pub some_moves : (a b : Outbox) (x y : Known) → MovesSome a b x y → Moves a b x y
some_moves a b x y p = (p.0, p.2)

-- a beginning of what is left was written
pub sends_some : (old : Outbox) (name : Name) (taken : List Text) (buffer sent rest : List ℕ) (x y : Known) → record { name = name; taken = taken; left = buffer ++ rest } ≡ old → Sends buffer sent x y → MovesSome old (record { name = name; taken = taken; left = sent ++ rest }) x y
sends_some old name taken buffer sent rest x y is p =
    let whole : (buffer ++ rest) ++ [] ≡ p.0 ++ (sent ++ rest) = append-nil (buffer ++ rest) ∙ ap (λ l. l ++ rest) p.2 ∙ append_assoc p.0 sent rest in
    subst (λ o. MovesSome o (record { name = name; taken = taken; left = sent ++ rest }) x y) is (p.0, p.1, ([], refl, sym (append-nil taken), whole, p.3))

-- the request comes after all that is left
pub asked : (old : Outbox) (name : Name) (taken : List Text) (buffer rest new probe : List ℕ) → record { name = name; taken = taken; left = buffer ++ rest } ≡ old → new ≡ buffer ++ probe → probe ≡ probe_text → rest ≡ [] → ProbesBy true old (record { name = name; taken = taken; left = new ++ rest })
asked old name taken buffer rest new probe is put same none =
    let left : new ++ rest ≡ (buffer ++ rest) ++ probe_text = ap (λ l. new ++ l) none ∙ append-nil new ∙ put ∙ ap (λ l. buffer ++ l) same ∙ ap (λ l. l ++ probe_text) (sym (append-nil buffer) ∙ ap (λ l. buffer ++ l) (sym none)) in
    subst (λ o. ProbesBy true o (record { name = name; taken = taken; left = new ++ rest })) is (λ i. record { name = name; taken = taken; left = left i })
