-- What a scan says of the front of a stream.
use Rattle.std.proofs.Common.{◌≡◌, ℕ, zero, suc, ◌==◌, ◌+◌, ◌-◌, ◌<◌, ◌≤◌, ◌++◌, Bool, true, false, not, nat_lt, if◌then◌else◌, List, [], ◌∷◌, Option, Some, None, option_map, refl, ap, subst, append_assoc, ◌∙◌, sym, length, get_or, take, drop, arith, add-one, min}
use Rattle.std.proofs.lemmas.List.{length-take, take-take, take_all, append-nil, take-append-drop}
use Rattle.std.proofs.lemmas.Bool.{ltb-true}
use Rattle.odb_wire.specs.Stream.{ScanState, outside, closed_at, state_after, open_after, whole, too_long, bad, of_text, front_of, max_message}
use Rattle.odb_wire.specs.Scanning.{GoesOn, IsEnd, state_of}
use Rattle.odb_wire.specs.declared.scan.Scan.{Scan}
use Rattle.odb_wire.specs.Standing.{IsWhole, IsUnfinished}
use Rattle.odb_wire.proofs.Streams.{front_of-whole_more}

-- the limit where nobody asks for another, as the code has it
pub max_message-is : max_message ≡ 16777216
unfolding max_message
max_message-is = refl

-- the text that ends ends there by itself too
pub closed_at-text : (p : ScanState) (n : ℕ) (s t : List ℕ) → closed_at p n s ≡ Some t → closed_at p n t ≡ Some t
closed_at-text p n [] t e = absurd (cc)
closed_at-text p n (c ∷ cs) t e =
    let P : Bool → Type 0 = λ b. (open_after p c n == 0) ≡ b → (if b then Some (c ∷ []) else option_map (λ u. c ∷ u) (closed_at (state_after p c) (open_after p c n) cs)) ≡ Some t
    → closed_at p n t ≡ Some t in
    elim (open_after p c n == 0) as P [
      | true ↦ λ is same. let only : c ∷ [] ≡ t = cc in subst (λ (u : List ℕ). closed_at p n u ≡ Some u) only (ap (λ b. if b then Some (c ∷ []) else option_map (λ u. c ∷ u) (closed_at (state_after p c) (open_after p c n) [])) is)
      | false ↦ λ isnt same. longer (closed_at (state_after p c) (open_after p c n) cs) isnt same (λ u at. closed_at-text (state_after p c) (open_after p c n) cs u at)
    ] refl e
  where
    longer : (o : Option (List ℕ)) → (open_after p c n == 0) ≡ false → option_map (λ u. c ∷ u) o ≡ Some t
        → ((u : List ℕ) → o ≡ Some u → closed_at (state_after p c) (open_after p c n) u ≡ Some u) → closed_at p n t ≡ Some t
    longer None isnt same again = absurd (cc)
    longer (Some u) isnt same again =
        let all : c ∷ u ≡ t = cc in
        subst (λ (v : List ℕ). closed_at p n v ≡ Some v) all
        (ap (λ b. if b then Some (c ∷ []) else option_map (λ v. c ∷ v) (closed_at (state_after p c) (open_after p c n) u)) isnt ∙ ap (option_map (λ v. c ∷ v)) (again u refl))

-- a scan of some bytes, and of those after them
pub goes_on-both : (p : ScanState) (n : ℕ) (first : List ℕ) (p' : ScanState) (n' : ℕ) (next : List ℕ) (p″ : ScanState) (n″ : ℕ) → GoesOn p n first p' n' → GoesOn p' n' next p″ n″ → GoesOn p n (first ++ next) p″ n″
goes_on-both p n first p' n' next p″ n″ one two =
    record { further = λ more. ap (closed_at p n) (append_assoc first next more) ∙ one.further (next ++ more) ∙ ap (option_map (λ t. first ++ t)) (two.further more) ∙ joined (closed_at p″ n″ more) }
  where
    joined : (o : Option (List ℕ)) → option_map (λ t. first ++ t) (option_map (λ t. next ++ t) o) ≡ option_map (λ t. (first ++ next) ++ t) o
    joined None = refl
    joined (Some t) = ap (λ u. Some u) (sym (append_assoc first next t))

-- a scan that goes on has met no end
pub goes_on-unclosed : (p : ScanState) (n : ℕ) (s : List ℕ) (p' : ScanState) (n' : ℕ) → GoesOn p n s p' n' → closed_at p n s ≡ None
goes_on-unclosed p n s p' n' goes = ap (closed_at p n) (sym (append-nil s)) ∙ goes.further []

-- the brace before a scan
pub goes_on-brace : (s : List ℕ) (p : ScanState) (n : ℕ) → GoesOn outside 1 s p n → GoesOn outside 0 (123 ∷ s) p n
goes_on-brace s p n goes = record { further = λ more. ap (option_map (λ t. 123 ∷ t)) (goes.further more) ∙ joined (closed_at p n more) }
  where
    joined : (o : Option (List ℕ)) → option_map (λ t. 123 ∷ t) (option_map (λ t. s ++ t) o) ≡ option_map (λ t. (123 ∷ s) ++ t) o
    joined None = refl
    joined (Some t) = refl

-- with a brace at the front
at_text : (most c : ℕ) (cs : List ℕ) → (c == 123) ≡ true → front_of most (c ∷ cs) ≡ of_text (closed_at outside 0 (take most (c ∷ cs))) (not (nat_lt (length (c ∷ cs)) most))
at_text most c cs is = ap (λ b. if b then of_text (closed_at outside 0 (take most (c ∷ cs))) (not (nat_lt (suc (length cs)) most)) else bad) is

-- an object's text alone
pub front_of-text : (most : ℕ) (s : List ℕ) → (get_or s 0 0 == 123) ≡ true → length s ≤ most → closed_at outside 0 s ≡ Some s → front_of most s ≡ whole s
front_of-text most [] is short closed = absurd (cc)
front_of-text most (c ∷ cs) is short closed =
    at_text most c cs is ∙ ap (λ t. of_text (closed_at outside 0 t) (not (nat_lt (suc (length cs)) most))) (take_all most (c ∷ cs) short)
    ∙ ap (λ o. of_text o (not (nat_lt (suc (length cs)) most))) closed

-- no end in as many bytes as a message may have
pub front_of-endless : (most : ℕ) (s : List ℕ) → (get_or s 0 0 == 123) ≡ true → most ≤ length s → closed_at outside 0 (take most s) ≡ None → front_of most s ≡ too_long
front_of-endless most [] is long unclosed = absurd (cc)
front_of-endless most (c ∷ cs) is long unclosed =
    at_text most c cs is ∙ ap (λ o. of_text o (not (nat_lt (suc (length cs)) most))) unclosed ∙ ap (λ b. of_text None b) (full most (suc (length cs)) long)
  where
    full : (m k : ℕ) → m ≤ k → not (nat_lt k m) ≡ true
    full m k h = grind (arith, ltb-true)

-- any other byte
pub front_of-other : (most : ℕ) (s : List ℕ) → 0 < length s → (get_or s 0 0 == 123) ≡ false → front_of most s ≡ bad
front_of-other most [] h isnt = absurd (omega arith)
front_of-other most (c ∷ cs) h isnt = ap (λ b. if b then of_text (closed_at outside 0 (take most (c ∷ cs))) (not (nat_lt (suc (length cs)) most)) else bad) isnt

-- ---- what a scan of the bytes after a brace says: m of them are within the limit

pub take_within : (m : ℕ) (s : List ℕ) (n : ℕ) → n ≤ length (take m s) → take n (take m s) ≡ take n s
take_within m s n h =
    let bound : length (take m s) ≡ min m (length s) = length-take m s in
    take-take n m s (omega (arith, bound))

-- the object ends among them
pub is_whole-scanned : (most : ℕ) (s : List ℕ) (first : ℕ) (later : List ℕ) (m n : ℕ) (p : ScanState) (d : ℕ) → s ≡ first ∷ later → first ≡ 123 → m ≡ min (length later) (most - 1)
    → p ≡ outside → d ≡ 1 → IsEnd p d (take m later) n → IsWhole most s (n + 1)
is_whole-scanned most s first later m n p d is_s is_first is_m is_p is_d end =
    let bound : length (take m later) ≡ min m (length later) = length-take m later in
    let same : take n (take m later) ≡ take n later = take_within m later n end.within in
    let scanned : closed_at outside 1 (take m later) ≡ Some (take n later) = subst (λ (q : ScanState). closed_at q 1 (take m later) ≡ Some (take n later)) is_p (subst (λ (e : ℕ). closed_at p e (take m later) ≡ Some (take n later)) is_d (end.closed ∙ ap (λ t. Some t) same)) in
    let alone : closed_at outside 1 (take n later) ≡ Some (take n later) = closed_at-text outside 1 (take m later) (take n later) scanned in
    let closed : closed_at outside 0 (123 ∷ take n later) ≡ Some (123 ∷ take n later) = ap (option_map (λ t. 123 ∷ t)) alone in
    let size : length (take n later) ≡ min n (length later) = length-take n later in
    let fits : length (123 ∷ take n later) ≤ most = omega (arith, bound, size, end.some, end.within, is_m) in
    let text : front_of most (123 ∷ take n later) ≡ whole (123 ∷ take n later) = front_of-text most (123 ∷ take n later) refl fits closed in
    let further : front_of most ((123 ∷ take n later) ++ drop n later) ≡ whole (123 ∷ take n later) = front_of-whole_more most (123 ∷ take n later) (drop n later) (123 ∷ take n later) text in
    let is : s ≡ 123 ∷ later = is_s ∙ ap (λ c. c ∷ later) is_first in
    let joined : front_of most (123 ∷ later) ≡ whole (123 ∷ take n later) = ap (λ t. front_of most (123 ∷ t)) (sym (take-append-drop n later)) ∙ further in
    let text_is : take (n + 1) (123 ∷ later) ≡ 123 ∷ take n later = ap (λ j. take j (123 ∷ later)) (add-one n) in
    subst (λ (u : List ℕ). IsWhole most u (n + 1)) (sym is)
    (record { within = omega (arith, bound, end.within); text = joined ∙ ap whole (sym text_is) })

-- it goes on after all of the bytes
pub is_unfinished-scanned : (most : ℕ) (s : List ℕ) (first : ℕ) (later : List ℕ) (m : ℕ) (p : ScanState) (d : ℕ) (scan : Scan) → s ≡ first ∷ later → first ≡ 123
    → m ≡ min (length later) (most - 1) → p ≡ outside → d ≡ 1 → GoesOn p d (take m later) (state_of scan.state) scan.depth → scan.depth ≤ d + length (take m later) → length s < most → IsUnfinished most s scan
is_unfinished-scanned most s first later m p d scan is_s is_first is_m is_p is_d goes bound short =
    let is : s ≡ 123 ∷ later = is_s ∙ ap (λ c. c ∷ later) is_first in
    let size : length s ≡ suc (length later) = ap length is in
    let all : take m later ≡ later = take_all m later (omega (arith, size, is_m)) in
    let scanned : GoesOn outside 1 later (state_of scan.state) scan.depth =
    subst (λ (q : ScanState). GoesOn q 1 later (state_of scan.state) scan.depth) is_p (subst (λ (e : ℕ). GoesOn p e later (state_of scan.state) scan.depth) is_d (subst (λ (u : List ℕ). GoesOn p d u (state_of scan.state) scan.depth) all goes)) in
    record {
      short = short;
      brace = ap (λ u. get_or u 0 0 == 123) is;
      depth = omega (arith, size, ap length all, is_d);
      further = subst (λ (u : List ℕ). GoesOn outside 0 u (state_of scan.state) scan.depth) (sym is) (goes_on-brace later (state_of scan.state) scan.depth scanned);
    }

-- it goes on after as many as a message may have
pub front_of-scanned : (most : ℕ) (s : List ℕ) (first : ℕ) (later : List ℕ) (m : ℕ) (p : ScanState) (d : ℕ) (p' : ScanState) (d' : ℕ) → s ≡ first ∷ later → first ≡ 123
    → m ≡ min (length later) (most - 1) → p ≡ outside → d ≡ 1 → GoesOn p d (take m later) p' d' → most ≤ length s → front_of most s ≡ too_long
front_of-scanned zero s first later m p d p' d' is_s is_first is_m is_p is_d goes long = front_of-endless zero s (ap (λ u. get_or u 0 0 == 123) (is_s ∙ ap (λ c. c ∷ later) is_first)) (omega arith) refl
front_of-scanned (suc k) s first later m p d p' d' is_s is_first is_m is_p is_d goes long =
    let is : s ≡ 123 ∷ later = is_s ∙ ap (λ c. c ∷ later) is_first in
    let size : length s ≡ suc (length later) = ap length is in
    let same : m ≡ k = omega (arith, size, is_m) in
    let scanned : GoesOn outside 1 (take k later) p' d' =
    subst (λ (q : ScanState). GoesOn q 1 (take k later) p' d') is_p (subst (λ (e : ℕ). GoesOn p e (take k later) p' d') is_d (subst (λ (j : ℕ). GoesOn p d (take j later) p' d') same goes)) in
    let unclosed : closed_at outside 0 (take (suc k) s) ≡ None =
    ap (λ u. closed_at outside 0 (take (suc k) u)) is ∙ goes_on-unclosed outside 0 (123 ∷ take k later) p' d' (goes_on-brace (take k later) p' d' scanned) in
    front_of-endless (suc k) s (ap (λ u. get_or u 0 0 == 123) is) long unclosed
