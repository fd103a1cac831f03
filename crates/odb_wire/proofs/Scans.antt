-- A scan goes on byte by byte.
use Rattle.std.proofs.Common.{◌≡◌, ◌≢◌, ℕ, zero, suc, ◌==◌, ◌+◌, ◌<◌, ◌≤◌, ◌++◌, true, false, List, [], ◌∷◌, Option, Some, None, option_map, refl, ap, append_assoc, ◌∙◌, sym, length, get_or, take, drop, arith}
use Rattle.std.proofs.lemmas.List.{take-append-drop, drop_more, get_or-drop, take_more, take_all}
use Rattle.std.proofs.lemmas.Bool.{ne_eqb}
use Rattle.odb_wire.specs.Stream.{ScanState, inside, closed_at, state_after, open_after}
use Rattle.odb_wire.specs.Scanning.{GoesOn, IsEnd, PassesOver, StaysInside}

-- a byte and the rest put after the bytes, one after the other or at once
join_twice : (bytes : List ℕ) (c : ℕ) (o : Option (List ℕ)) → option_map (λ t. bytes ++ t) (option_map (λ t. c ∷ t) o) ≡ option_map (λ t. (bytes ++ c ∷ []) ++ t) o
join_twice bytes c None = refl
join_twice bytes c (Some t) = rw append_assoc refl

-- after a byte that closes the text
closes_at : (p : ScanState) (n : ℕ) (bytes : List ℕ) (p' : ScanState) (n' : ℕ) (c : ℕ) (more : List ℕ) → GoesOn p n bytes p' n' → (open_after p' c n' == 0) ≡ true
    → closed_at p n (bytes ++ c ∷ more) ≡ Some (bytes ++ c ∷ [])
closes_at p n bytes p' n' c more goes e = goes.further (c ∷ more) ∙ rw e refl

-- after any other
goes_on-byte : (p : ScanState) (n : ℕ) (bytes : List ℕ) (p' : ScanState) (n' : ℕ) (c : ℕ) → GoesOn p n bytes p' n' → (open_after p' c n' == 0) ≡ false
    → GoesOn p n (bytes ++ c ∷ []) (state_after p' c) (open_after p' c n')
goes_on-byte p n bytes p' n' c goes e =
    record { further = λ more. rw append_assoc (goes.further (c ∷ more) ∙ rw e (join_twice bytes c (closed_at (state_after p' c) (open_after p' c n') more))) }

-- nothing was read yet
pub goes_on-none : (p : ScanState) (n : ℕ) (bytes : List ℕ) → GoesOn p n (take 0 bytes) p n
goes_on-none p n bytes = record { further = λ more. nothing_before (closed_at p n more) }
  where
    nothing_before : (o : Option (List ℕ)) → o ≡ option_map (λ t. [] ++ t) o
    nothing_before None = refl
    nothing_before (Some t) = refl

-- the step of a loop over the bytes: p″ and k are what the byte gives
pub goes_on-take : (p : ScanState) (n : ℕ) (bytes : List ℕ) (i : ℕ) (p' : ScanState) (n' : ℕ) (p″ : ScanState) (k : ℕ) → i < length bytes → GoesOn p n (take i bytes) p' n'
    → p″ ≡ state_after p' (get_or bytes i 0) → k ≡ open_after p' (get_or bytes i 0) n' → k ≢ 0 → GoesOn p n (take (i + 1) bytes) p″ k
goes_on-take p n bytes i p' n' p″ k h goes is_place is_open isnt =
    rw (take_more bytes i 0 h, is_place, is_open) (goes_on-byte p n (take i bytes) p' n' (get_or bytes i 0) goes (rw is_open at (ne_eqb k 0 isnt)))

-- and its last one, at the byte that closes
pub is_end-take : (p : ScanState) (n : ℕ) (bytes : List ℕ) (i : ℕ) (p' : ScanState) (n' : ℕ) (k : ℕ) → i < length bytes → GoesOn p n (take i bytes) p' n' → k ≡ open_after p' (get_or bytes i 0) n' → k ≡ 0
    → IsEnd p n bytes (i + 1)
is_end-take p n bytes i p' n' k h goes is_open is =
    let e : (open_after p' (get_or bytes i 0) n' == 0) ≡ true = rw (← is_open, is) refl in
    let whole : take i bytes ++ get_or bytes i 0 ∷ drop (i + 1) bytes ≡ bytes = rw (← drop_more bytes i 0 h) (take-append-drop i bytes) in
    let closed : closed_at p n bytes ≡ Some (take i bytes ++ get_or bytes i 0 ∷ []) =
    ap (closed_at p n) (sym whole) ∙ closes_at p n (take i bytes) p' n' (get_or bytes i 0) (drop (i + 1) bytes) goes e in
    record { some = omega arith; within = omega arith; closed = closed ∙ ap (λ t. Some t) (sym (take_more bytes i 0 h)) }

-- all of the bytes were read
pub goes_on-all : (p : ScanState) (n : ℕ) (bytes : List ℕ) (i : ℕ) (p' : ScanState) (n' : ℕ) → length bytes ≤ i → GoesOn p n (take i bytes) p' n' → GoesOn p n bytes p' n'
goes_on-all p n bytes i p' n' h goes = rw (take_all i bytes h) at goes

-- bytes that stay inside a string are passed over
pub passes_over : (bytes : List ℕ) (from m : ℕ) → from + m ≤ length bytes → StaysInside (drop from bytes) m → PassesOver inside bytes from (from + m)
passes_over bytes from zero h plain p n k some goes = let same : from + 0 ≡ from = omega arith in rw same goes
passes_over bytes from (suc m) h plain p n k some goes =
    let before : GoesOn p n (take (from + m) bytes) inside k = passes_over bytes from m (omega arith) (λ i small. plain i (omega arith)) p n k some goes in
    let byte : state_after inside (get_or bytes (from + m) 0) ≡ inside = rw (← get_or-drop from bytes m 0) (plain m (omega arith)) in
    let next : from + suc m ≡ (from + m) + 1 = omega arith in
    rw next (goes_on-take p n bytes (from + m) inside k inside k (omega arith) before (sym byte) refl (omega arith))
