-- The messages of a stream, from its front on.
use Rattle.std.proofs.Common.{◌≡◌, ◌≢◌, ℕ, zero, suc, ◌==◌, ◌+◌, ◌-◌, ◌<◌, ◌≤◌, ◌++◌, Bool, true, false, not, nat_lt, if◌then◌else◌, List, [], ◌∷◌, Option, Some, None, option_map, refl, ap, subst, ◌∙◌, sym, length, get_or, take, drop, arith, length-append, length-drop}
use Rattle.std.proofs.lemmas.List.{length-take, take-append-le, drop-append-le, take_all, drop_more}
use Rattle.std.proofs.lemmas.Bool.{lt-ltb, ltb-true, eqb-true}
use Rattle.serde_json.specs.Data.{Data}
use Rattle.odb_wire.specs.Stream.{is_blank, ScanState, outside, closed_at, state_after, open_after, Front, incomplete, too_long, bad, whole, of_text, front_of, skip_blanks, message_of, Ending, goes_on, fault_too_long, fault_bad, messages_in, messages}
use Rattle.odb_wire.specs.Standing.{prepended}

-- ---- where the text of an object ends

-- what holds of the option's value holds under a function
mapped_some : {A B : Type 0} (f : A → B) (o o' : Option A) (y : B) → option_map f o ≡ Some y → ((x : A) → o ≡ Some x → o' ≡ Some x) → option_map f o' ≡ Some y
mapped_some f None o' y e h = cc
mapped_some f (Some x) o' y e h = ap (option_map f) (h x refl) ∙ e

-- an end is not moved by what follows
pub closed_at-more : (p : ScanState) (n m : ℕ) (s more t : List ℕ) → closed_at p n (take m s) ≡ Some t → closed_at p n (take m (s ++ more)) ≡ Some t
closed_at-more p n zero s more t e = cc
closed_at-more p n (suc m) [] more t e = cc
closed_at-more p n (suc m) (c ∷ cs) more t e =
    let P : Bool → Type 0 = λ b. (if b then Some (c ∷ []) else option_map (λ u. c ∷ u) (closed_at (state_after p c) (open_after p c n) (take m cs))) ≡ Some t
    → (if b then Some (c ∷ []) else option_map (λ u. c ∷ u) (closed_at (state_after p c) (open_after p c n) (take m (cs ++ more)))) ≡ Some t in
    elim (open_after p c n == 0) as P [
      | true ↦ λ is. is
      | false ↦ λ is. mapped_some (λ u. c ∷ u) _ _ t is (λ u at. closed_at-more (state_after p c) (open_after p c n) m cs more u at)
    ] e

-- the text that ends there
closed_at-length : (p : ScanState) (n : ℕ) (s t : List ℕ) → closed_at p n s ≡ Some t → (0 < length t) × (length t ≤ length s)
closed_at-length p n [] t e = absurd (cc)
closed_at-length p n (c ∷ cs) t e =
    let P : Bool → Type 0 = λ b. (if b then Some (c ∷ []) else option_map (λ u. c ∷ u) (closed_at (state_after p c) (open_after p c n) cs)) ≡ Some t → (0 < length t) × (length t ≤ suc (length cs)) in
    elim (open_after p c n == 0) as P [
      | true ↦ λ is. let same : c ∷ [] ≡ t = cc in subst (λ (u : List ℕ). (0 < length u) × (length u ≤ suc (length cs))) same (omega arith, omega arith)
      | false ↦ λ is. longer (closed_at (state_after p c) (open_after p c n) cs) is (λ u at. closed_at-length (state_after p c) (open_after p c n) cs u at)
    ] e
  where
    longer : (o : Option (List ℕ)) → option_map (λ u. c ∷ u) o ≡ Some t → ((u : List ℕ) → o ≡ Some u → (0 < length u) × (length u ≤ length cs)) → (0 < length t) × (length t ≤ suc (length cs))
    longer None is h = absurd (cc)
    longer (Some u) is h =
        let same : c ∷ u ≡ t = cc in
        let bound : (0 < length u) × (length u ≤ length cs) = h u refl in
        subst (λ (v : List ℕ). (0 < length v) × (length v ≤ suc (length cs))) same (omega arith, omega (arith, bound.1))

-- ---- what stands at the front

of_text-whole : (o : Option (List ℕ)) (full : Bool) (t : List ℕ) → of_text o full ≡ whole t → o ≡ Some t
of_text-whole (Some u) full t e = cc
of_text-whole None true t e = absurd (cc)
of_text-whole None false t e = absurd (cc)

of_text-too_long : (o : Option (List ℕ)) (full : Bool) → of_text o full ≡ too_long → (o ≡ None) × (full ≡ true)
of_text-too_long (Some u) full e = absurd (cc)
of_text-too_long None true e = (refl, refl)
of_text-too_long None false e = absurd (cc)

of_text-bad : (o : Option (List ℕ)) (full : Bool) → of_text o full ≡ bad → ⊥
of_text-bad (Some u) full e = cc
of_text-bad None true e = cc
of_text-bad None false e = cc

-- a front that isn't bad begins with a brace
begun : (b : Bool) (f : Front) → (if b then f else bad) ≢ bad → b ≡ true
begun true f isnt = refl
begun false f isnt = absurd (isnt refl)

chosen : (b : Bool) (f g : Front) → b ≡ true → (if b then f else bad) ≡ g → f ≡ g
chosen b f g is e = rw is at e

pub at_brace : (most c : ℕ) (cs t : List ℕ) → front_of most (c ∷ cs) ≡ whole t → (c == 123) ≡ true
at_brace most c cs t e = begun (c == 123) _ (λ is_bad. apart (sym e ∙ is_bad))
  where
    apart : whole t ≡ bad → ⊥
    apart h = cc

at_brace_too : (most c : ℕ) (cs : List ℕ) → front_of most (c ∷ cs) ≡ too_long → (c == 123) ≡ true
at_brace_too most c cs e = begun (c == 123) _ (λ is_bad. apart (sym e ∙ is_bad))
  where
    apart : too_long ≡ bad → ⊥
    apart h = cc

-- the text of a whole front
front_of-closed : (most c : ℕ) (cs t : List ℕ) → front_of most (c ∷ cs) ≡ whole t → closed_at outside 0 (take most (c ∷ cs)) ≡ Some t
front_of-closed most c cs t e = of_text-whole _ _ t (chosen (c == 123) _ (whole t) (at_brace most c cs t e) e)

take_shorter : (m : ℕ) (s : List ℕ) → length (take m s) ≤ length s
take_shorter m s = rw (length-take m s) (omega arith)

pub front_of-length : (most : ℕ) (s t : List ℕ) → front_of most s ≡ whole t → (0 < length t) × (length t ≤ length s)
front_of-length most [] t e = absurd (cc)
front_of-length most (c ∷ cs) t e =
    let bound : (0 < length t) × (length t ≤ length (take most (c ∷ cs))) = closed_at-length outside 0 (take most (c ∷ cs)) t (front_of-closed most c cs t e) in
    let shorter : length (take most (c ∷ cs)) ≤ length (c ∷ cs) = take_shorter most (c ∷ cs) in
    (bound.0, omega (arith, bound.1, shorter))

-- a whole front is not changed by what follows
pub front_of-whole_more : (most : ℕ) (s more t : List ℕ) → front_of most s ≡ whole t → front_of most (s ++ more) ≡ whole t
front_of-whole_more most [] more t e = absurd (cc)
front_of-whole_more most (c ∷ cs) more t e =
    let is : (c == 123) ≡ true = at_brace most c cs t e in
    let closed : closed_at outside 0 (take most (c ∷ (cs ++ more))) ≡ Some t = closed_at-more outside 0 most (c ∷ cs) more t (front_of-closed most c cs t e) in
    ap (λ b. if b then of_text (closed_at outside 0 (take most (c ∷ (cs ++ more)))) (not (nat_lt (suc (length (cs ++ more))) most)) else bad) is
    ∙ ap (λ o. of_text o (not (nat_lt (suc (length (cs ++ more))) most))) closed

not_shorter : (m k : ℕ) → not (nat_lt k m) ≡ true → m ≤ k
not_shorter m k e = grind (arith, lt-ltb)

longer : (m k : ℕ) → m ≤ k → not (nat_lt k m) ≡ true
longer m k h = grind (arith, ltb-true)

-- nor one that is too long
pub front_of-too_long_more : (most : ℕ) (s more : List ℕ) → front_of most s ≡ too_long → front_of most (s ++ more) ≡ too_long
front_of-too_long_more most [] more e = absurd (cc)
front_of-too_long_more most (c ∷ cs) more e =
    let is : (c == 123) ≡ true = at_brace_too most c cs e in
    let facts : (closed_at outside 0 (take most (c ∷ cs)) ≡ None) × (not (nat_lt (length (c ∷ cs)) most) ≡ true) = of_text-too_long _ _ (chosen (c == 123) _ too_long is e) in
    let long : most ≤ length (c ∷ cs) = not_shorter most (length (c ∷ cs)) facts.1 in
    let same : take most (c ∷ (cs ++ more)) ≡ take most (c ∷ cs) = take-append-le most (c ∷ cs) more long in
    let full : not (nat_lt (suc (length (cs ++ more))) most) ≡ true = longer most (suc (length (cs ++ more))) (omega (arith, long, length-append cs more)) in
    ap (λ b. if b then of_text (closed_at outside 0 (take most (c ∷ (cs ++ more)))) (not (nat_lt (suc (length (cs ++ more))) most)) else bad) is
    ∙ ap (λ t. of_text (closed_at outside 0 t) (not (nat_lt (suc (length (cs ++ more))) most))) same
    ∙ ap (λ o. of_text o (not (nat_lt (suc (length (cs ++ more))) most))) facts.0 ∙ ap (λ b. of_text None b) full

-- ---- one step of `messages_in`

-- with what the text of a whole object is, and what is left after it
abbrev with_message : ℕ → ℕ → Option Data → List ℕ → List Data × Ending
with_message most n None left = ([], fault_bad)
with_message most n (Some d) left = prepended (d ∷ []) (messages_in most n left)

-- with what stands at the front of s
abbrev with_front : ℕ → ℕ → Front → List ℕ → List Data × Ending
with_front most n incomplete s = ([], goes_on)
with_front most n too_long s = ([], fault_too_long)
with_front most n bad s = ([], fault_bad)
with_front most n (whole t) s = with_message most n (message_of t) (drop (length t) s)

messages_in-step : (most n : ℕ) (s : List ℕ) → messages_in most (suc n) s ≡ with_front most n (front_of most (skip_blanks s)) (skip_blanks s)
messages_in-step most n s = at_front (front_of most (skip_blanks s))
  where
    at_message : (o : Option Data) (left : List ℕ)
        → (elim o as (λ _. List Data × Ending) [ None ↦ ([], fault_bad) | Some d ↦ (let rest = messages_in most n left in (d ∷ rest.0, rest.1)) ]) ≡ with_message most n o left
    at_message None left = refl
    at_message (Some d) left = refl

    at_front : (f : Front)
        → (elim f as (λ _. List Data × Ending) [
          | incomplete ↦ ([], goes_on)
          | too_long ↦ ([], fault_too_long)
          | bad ↦ ([], fault_bad)
          | whole t ↦ elim (message_of t) [
            | None ↦ ([], fault_bad)
            | Some d ↦ (let rest = messages_in most n (drop (length t) (skip_blanks s)) in (d ∷ rest.0, rest.1))
          ]
        ]) ≡ with_front most n f (skip_blanks s)
    at_front incomplete = refl
    at_front too_long = refl
    at_front bad = refl
    at_front (whole t) = at_message (message_of t) (drop (length t) (skip_blanks s))

pub skip_blanks-length : (s : List ℕ) → length (skip_blanks s) ≤ length s
skip_blanks-length [] = omega arith
skip_blanks-length (c ∷ cs) =
    let shorter : length (skip_blanks cs) ≤ length cs = skip_blanks-length cs in
    elim (is_blank c) as (λ b. length (if b then skip_blanks cs else c ∷ cs) ≤ suc (length cs)) [ true ↦ omega arith | false ↦ omega arith ]

-- two numbers of steps that give the same of each shorter stream give the same
same_message : (most n m : ℕ) (o : Option Data) (left : List ℕ) → messages_in most n left ≡ messages_in most m left → with_message most n o left ≡ with_message most m o left
same_message most n m None left e = refl
same_message most n m (Some d) left e = ap (prepended (d ∷ [])) e

same_front : (most n m : ℕ) (f : Front) (s : List ℕ) → front_of most s ≡ f → length s < suc n → length s < suc m → ((left : List ℕ) → length left < n → length left < m → messages_in most n left ≡ messages_in most m left)
    → with_front most n f s ≡ with_front most m f s
same_front most n m incomplete s e h k again = refl
same_front most n m too_long s e h k again = refl
same_front most n m bad s e h k again = refl
same_front most n m (whole t) s e h k again =
    let bound : (0 < length t) × (length t ≤ length s) = front_of-length most s t e in
    let left : length (drop (length t) s) ≡ length s - length t = length-drop (length t) s in
    same_message most n m (message_of t) (drop (length t) s) (again (drop (length t) s) (omega (arith, bound.0, bound.1, left)) (omega (arith, bound.0, bound.1, left)))

-- more steps than bytes are enough
pub messages_in-enough : (most n m : ℕ) (s : List ℕ) → length s < n → length s < m → messages_in most n s ≡ messages_in most m s
messages_in-enough most zero m s h k = absurd (omega arith)
messages_in-enough most (suc n) zero s h k = absurd (omega arith)
messages_in-enough most (suc n) (suc m) s h k =
    let shorter : length (skip_blanks s) ≤ length s = skip_blanks-length s in
    messages_in-step most n s
    ∙ same_front most n m (front_of most (skip_blanks s)) (skip_blanks s) refl (omega (arith, shorter)) (omega (arith, shorter)) (λ left a b. messages_in-enough most n m left a b)
    ∙ sym (messages_in-step most m s)

-- ---- the messages of a stream, by its front

-- blanks at the front make no difference
pub messages-skip : (most : ℕ) (s more : List ℕ) → messages most (s ++ more) ≡ messages most (skip_blanks s ++ more)
messages-skip most [] more = refl
messages-skip most (c ∷ cs) more =
    elim (is_blank c) as (λ b. is_blank c ≡ b → messages most (c ∷ (cs ++ more)) ≡ messages most ((if b then skip_blanks cs else c ∷ cs) ++ more)) [
      | true ↦ λ is. past c (cs ++ more) is ∙ messages-skip most cs more
      | false ↦ λ _. refl
    ] refl
  where
    past : (b : ℕ) (s : List ℕ) → is_blank b ≡ true → messages most (b ∷ s) ≡ messages most s
    past b s is =
        messages_in-step most (suc (length s)) (b ∷ s)
        ∙ ap (λ u. with_front most (suc (length s)) (front_of most u) u) (ap (λ t. if t then skip_blanks s else b ∷ s) is)
        ∙ sym (messages_in-step most (suc (length s)) s) ∙ messages_in-enough most (suc (suc (length s))) (suc (length s)) s (omega arith) (omega arith)

-- at a byte that is no blank
messages-front : (most c : ℕ) (cs : List ℕ) (f : Front) → is_blank c ≡ false → front_of most (c ∷ cs) ≡ f → messages most (c ∷ cs) ≡ with_front most (suc (length cs)) f (c ∷ cs)
messages-front most c cs f isnt e =
    messages_in-step most (suc (length cs)) (c ∷ cs)
    ∙ ap (λ u. with_front most (suc (length cs)) (front_of most u) u) (ap (λ t. if t then skip_blanks cs else c ∷ cs) isnt)
    ∙ ap (λ g. with_front most (suc (length cs)) g (c ∷ cs)) e

no_blank : (c : ℕ) → (c == 123) ≡ true → is_blank c ≡ false
no_blank c is = subst (λ (k : ℕ). is_blank k ≡ false) (sym (eqb-true c 123 is)) refl

-- a whole object that is a message
pub messages-whole : (most : ℕ) (s more t : List ℕ) (d : Data) → front_of most s ≡ whole t → message_of t ≡ Some d → messages most (s ++ more) ≡ prepended (d ∷ []) (messages most (drop (length t) s ++ more))
messages-whole most [] more t d e is = absurd (cc)
messages-whole most (c ∷ cs) more t d e is =
    let bound : (0 < length t) × (length t ≤ length (c ∷ cs)) = front_of-length most (c ∷ cs) t e in
    let left : drop (length t) (c ∷ (cs ++ more)) ≡ drop (length t) (c ∷ cs) ++ more = drop-append-le (length t) (c ∷ cs) more bound.1 in
    let size : length (drop (length t) (c ∷ cs) ++ more) < suc (length (cs ++ more)) =
    omega (arith, bound.0, bound.1, length-append (drop (length t) (c ∷ cs)) more, length-drop (length t) (c ∷ cs), length-append cs more) in
    messages-front most c (cs ++ more) (whole t) (no_blank c (at_brace most c cs t e)) (front_of-whole_more most (c ∷ cs) more t e)
    ∙ ap (λ o. with_message most (suc (length (cs ++ more))) o (drop (length t) (c ∷ (cs ++ more)))) is
    ∙ ap (λ u. prepended (d ∷ []) (messages_in most (suc (length (cs ++ more))) u)) left
    ∙ ap (prepended (d ∷ [])) (messages_in-enough most (suc (length (cs ++ more))) (suc (length (drop (length t) (c ∷ cs) ++ more))) (drop (length t) (c ∷ cs) ++ more) size (omega arith))

-- a whole object that is none
pub messages-no_message : (most : ℕ) (s more t : List ℕ) → front_of most s ≡ whole t → message_of t ≡ None → messages most (s ++ more) ≡ ([], fault_bad)
messages-no_message most [] more t e is = absurd (cc)
messages-no_message most (c ∷ cs) more t e is =
    messages-front most c (cs ++ more) (whole t) (no_blank c (at_brace most c cs t e)) (front_of-whole_more most (c ∷ cs) more t e)
    ∙ ap (λ o. with_message most (suc (length (cs ++ more))) o (drop (length t) (c ∷ (cs ++ more)))) is

-- no end in time
pub messages-too_long : (most : ℕ) (s more : List ℕ) → front_of most s ≡ too_long → messages most (s ++ more) ≡ ([], fault_too_long)
messages-too_long most [] more e = absurd (cc)
messages-too_long most (c ∷ cs) more e = messages-front most c (cs ++ more) too_long (no_blank c (at_brace_too most c cs e)) (front_of-too_long_more most (c ∷ cs) more e)

-- a byte that is neither a blank nor a brace
pub messages-bad : (most c : ℕ) (cs more : List ℕ) → is_blank c ≡ false → (c == 123) ≡ false → messages most ((c ∷ cs) ++ more) ≡ ([], fault_bad)
messages-bad most c cs more isnt apart =
    messages-front most c (cs ++ more) bad isnt (ap (λ b. if b then of_text (closed_at outside 0 (take most (c ∷ (cs ++ more)))) (not (nat_lt (suc (length (cs ++ more))) most)) else bad) apart)

-- an object that goes on
pub messages-incomplete : (most c : ℕ) (cs : List ℕ) → (c == 123) ≡ true → length (c ∷ cs) < most → closed_at outside 0 (c ∷ cs) ≡ None → messages most (c ∷ cs) ≡ ([], goes_on)
messages-incomplete most c cs is short unclosed =
    messages-front most c cs incomplete (no_blank c is)
    (ap (λ b. if b then of_text (closed_at outside 0 (take most (c ∷ cs))) (not (nat_lt (suc (length cs)) most)) else bad) is
    ∙ ap (λ t. of_text (closed_at outside 0 t) (not (nat_lt (suc (length cs)) most))) (take_all most (c ∷ cs) (omega arith))
    ∙ ap (λ o. of_text o (not (nat_lt (suc (length cs)) most))) unclosed ∙ ap (λ b. of_text None (not b)) (lt-ltb (suc (length cs)) most short))

-- what is left has no blank at its front
pub skip_blanks-twice : (s : List ℕ) → skip_blanks (skip_blanks s) ≡ skip_blanks s
skip_blanks-twice [] = refl
skip_blanks-twice (c ∷ cs) =
    elim (is_blank c) as (λ b. is_blank c ≡ b → skip_blanks (if b then skip_blanks cs else c ∷ cs) ≡ (if b then skip_blanks cs else c ∷ cs)) [
      | true ↦ λ _. skip_blanks-twice cs
      | false ↦ λ isnt. ap (λ b. if b then skip_blanks cs else c ∷ cs) isnt
    ] refl

pub not_blank : (c : ℕ) (cs : List ℕ) → skip_blanks (c ∷ cs) ≡ c ∷ cs → is_blank c ≡ false
not_blank c cs e =
    let shorter : length (skip_blanks cs) ≤ length cs = skip_blanks-length cs in
    elim (is_blank c) as (λ b. (if b then skip_blanks cs else c ∷ cs) ≡ c ∷ cs → b ≡ false) [
      | true ↦ λ same. absurd (omega (arith, ap length same, shorter))
      | false ↦ λ _. refl
    ] e

-- a step over a blank
pub skip_blanks-drop : (s : List ℕ) (i : ℕ) → i < length s → is_blank (get_or s i 0) ≡ true → skip_blanks (drop i s) ≡ skip_blanks (drop (i + 1) s)
skip_blanks-drop s i h is = ap skip_blanks (drop_more s i 0 h) ∙ ap (λ b. if b then skip_blanks (drop (i + 1) s) else get_or s i 0 ∷ drop (i + 1) s) is

pub skip_blanks-here : (s : List ℕ) (i : ℕ) → i < length s → is_blank (get_or s i 0) ≡ false → skip_blanks (drop i s) ≡ drop i s
skip_blanks-here s i h isnt =
    ap skip_blanks (drop_more s i 0 h) ∙ ap (λ b. if b then skip_blanks (drop (i + 1) s) else get_or s i 0 ∷ drop (i + 1) s) isnt ∙ sym (drop_more s i 0 h)

-- a bad front has no brace
pub no_brace : (most c : ℕ) (cs : List ℕ) → front_of most (c ∷ cs) ≡ bad → (c == 123) ≡ false
no_brace most c cs e =
    elim (c == 123) as (λ b. (if b then of_text (closed_at outside 0 (take most (c ∷ cs))) (not (nat_lt (length (c ∷ cs)) most)) else bad) ≡ bad → b ≡ false) [
      | true ↦ λ is_bad. absurd (of_text-bad _ _ is_bad)
      | false ↦ λ _. refl
    ] e
