-- How a worker's share grows, and the list that is dealt from the shares.
use Rattle.std.proofs.Common.{◌≡◌, ◌≤◌, ◌<◌, ℕ, zero, suc, ◌+◌, ◌*◌, ◌/◌, ◌%◌, arith, List, [], ◌∷◌, ◌++◌, append_assoc, length, map, slice_get, slice_index_or, take, IfOk, Option, Some, Ok, refl, sym, ap, subst, ◌∙◌}
use Rattle.std.specs.Prelude.{Result, Vec, min, option_map}
use Rattle.std.specs.declared.sync.Arc.{Arc}
use Rattle.std.proofs.lemmas.List.{length-map, map-append, take_more}
use Rattle.std.proofs.lemmas.Option.{get_or_from_slice_get, slice_get-get_or, slice_get-map, slice_get_past, slice_get_read, slice_get_within}
use Rattle.odb_sessions.specs.Represented.Composed.{bytes_in}
use Rattle.odb_par.specs.Shares.{AreShares, IsShare}

-- one element before a share that begins a round later
pub goes_on : {X : Type 0} (first workers : ℕ) (all : List X) (x : X) (rest : List X) → slice_get all first ≡ Some x → IsShare (first + workers) workers all rest → IsShare first workers all (x ∷ rest)
goes_on first workers all x rest at more zero = sym at ∙ ap (slice_get all) (omega arith)
goes_on first workers all x rest at more (suc n) = more n ∙ ap (slice_get all) (grind arith)

-- no element stands past the end
pub ends : {X : Type 0} (first workers : ℕ) (all : List X) → length all ≤ first → IsShare first workers all []
ends first workers all past n = sym (slice_get_past all (first + n * workers) (grind arith))

-- one of them more
pub taken_more : {X : Type 0} (all : List X) (i : ℕ) (x : X) → slice_get all i ≡ Some x → take (i + 1) all ≡ take i all ++ x ∷ []
taken_more all i x at = take_more all i x (slice_get_within all i x at) ∙ ap (λ y. take i all ++ y ∷ []) (get_or_from_slice_get all i x x at)

-- what is made of the element at a place
pub made_at : {X Y : Type 0} (f : X → Y) (xs : List X) (i : ℕ) (x : X) (y : Y) → i < length xs → x ≡ slice_index_or xs i x → y ≡ f x → slice_get (map f xs) i ≡ Some y
made_at f xs i x y low at is = slice_get-map f xs i ∙ ap (option_map f) (slice_get_read xs (length xs) i x refl low at) ∙ ap Some (sym is)

-- an element that was pushed stands before the rest
pub pushed : {X Y : Type 0} (f : X → Y) (old : List X) (x : X) (new : List X) (rest : List Y) → new ≡ old ++ x ∷ [] → map f old ++ f x ∷ rest ≡ map f new ++ rest
pushed f old x new rest is = sym (ap (λ xs. map f xs ++ rest) is ∙ ap (λ ys. ys ++ rest) (map-append f old (x ∷ [])) ∙ append_assoc (map f old) (f x ∷ []) rest)

-- one of the texts more
pub texts_more : {X Y : Type 0} (f : X → Y) (all : List Y) (i : ℕ) (old : List X) (x : X) (new : List X) → new ≡ old ++ x ∷ [] → map f old ≡ take i all → slice_get all i ≡ Some (f x) → map f new ≡ take (i + 1) all
texts_more f all i old x new is before at = ap (map f) is ∙ map-append f old (x ∷ []) ∙ ap (λ ys. ys ++ f x ∷ []) before ∙ sym (taken_more all i (f x) at)

-- what stands at a place is found in the share of its worker
pub dealt : {Y Z W E : Type 0} (workers place : ℕ) (all : List (Option (List ℕ))) (shares : List (Result (Vec (Option (Arc (Vec ℕ Y) Z)) W) E)) (share : Result (Vec (Option (Arc (Vec ℕ Y) Z)) W) E) (own : Vec (Option (Arc (Vec ℕ Y) Z)) W) → 1 ≤ workers → place < length all → AreShares workers all shares → share ≡ slice_index_or shares (place % workers) share → share ≡ Ok own → slice_get (map bytes_in own.items) (place / workers) ≡ slice_get all place
dealt workers place all shares share own some low are at is =
    let first : place % workers < min workers (length all) = grind arith in
    let mine : IfOk share (λ bodies. IsShare (place % workers) workers all (map bytes_in bodies.items)) = subst (λ r. IfOk r (λ bodies. IsShare (place % workers) workers all (map bytes_in bodies.items))) (sym at) (are.1 (place % workers) share first) in
    let own_share : IsShare (place % workers) workers all (map bytes_in own.items) = subst (λ r. IfOk r (λ bodies. IsShare (place % workers) workers all (map bytes_in bodies.items))) is mine in
    own_share (place / workers) ∙ ap (slice_get all) (grind arith)

-- the share has so many
pub within : {X Y : Type 0} (f : X → Y) (all : List Y) (place : ℕ) (own : List X) (n : ℕ) (d : Y) → place < length all → slice_get (map f own) n ≡ slice_get all place → n < length own
within f all place own n d low same = subst (λ m. n < m) (length-map own f) (slice_get_within (map f own) n (slice_index_or all place d) (same ∙ slice_get-get_or all place d low))
