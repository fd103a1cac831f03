-- Texts of pieces, each of which stands at its place, are those of all rows.
use Rattle.std.proofs.Common.{◌≡◌, ◌≤◌, ◌<◌, ℕ, zero, suc, ◌+◌, ◌-◌, ◌*◌, arith, List, [], ◌∷◌, drop, drop-drop, length, length-drop, map, min, take, IfOk, Ok, Some, refl, sym, ap, subst, ◌∙◌}
use Rattle.std.specs.Prelude.{Result, Vec, slice_get, slice_index_or}
use Rattle.std.proofs.lemmas.Grind.{div_ceil_times}
use Rattle.std.proofs.lemmas.List.{drop_min, nil_from_length}
use Rattle.std.specs.Int.{div_ceil}
use Rattle.json.specs.Token.{Token}
use Rattle.odb_monitor.specs.Listing.{AreOfRows, rows_text}
use Rattle.odb_par.specs.Pieces.{AreTexts}

abbrev pub whole : {W E : Type 0} → List (Vec ℕ W) → List (Result (Vec ℕ W) E)
whole ts = map (λ t. Ok t) ts

-- the pieces after the first are those of the rest
later : {W E : Type 0} (size : ℕ) (rows : List (List Token)) (t : Vec ℕ W) (ts : List (Vec ℕ W)) → AreTexts {W = W} {E = E} size rows (whole (t ∷ ts)) → AreTexts {W = W} {E = E} size (drop size rows) (whole ts)
later {E = E} size rows t ts h = (
  (let most = h.0 in let left = length-drop size rows in grind (arith)),
  λ place d low.
      let one : suc place * size ≡ size + place * size = omega arith in
      subst (λ rs. IfOk (slice_index_or (whole {E = E} ts) place d) (λ text. text.items ≡ rows_text (take size rs))) (ap (λ n. drop n rows) one ∙ sym (drop-drop (place * size) size rows)) (h.1 (suc place) d (omega (arith, low))),
)

pub of_rows : {W E : Type 0} (size : ℕ) (rows : List (List Token)) (texts : List (Vec ℕ W)) → AreTexts {W = W} {E = E} size rows (whole texts) → AreOfRows rows (map (λ text. text.items) texts)
of_rows size rows [] h = nil_from_length rows (omega (arith, h.0))
of_rows {E = E} size rows (t ∷ ts) h =
    let zero_is : 0 * size ≡ 0 = omega arith in
    (size, h.1 0 (Ok t) (omega arith) ∙ ap (λ n. rows_text (take size (drop n rows))) zero_is, of_rows {E = E} size (drop size rows) ts (later {E = E} size rows t ts h))

-- so many pieces have all rows
pub pieces_reach : (rows size : ℕ) → 1 ≤ size → rows ≤ div_ceil rows size * size
pieces_reach rows size some = (div_ceil_times rows size some).0

-- a piece begins at its place, or past all rows
pub begun_at : {X : Type 0} (place most : ℕ) (xs : List X) → length xs ≤ most → drop (min (min place most) (length xs)) xs ≡ drop place xs
begun_at place most xs low =
    let first : min (min place most) (length xs) ≡ min place (length xs) = omega (arith, low) in
    ap (λ n. drop n xs) first ∙ drop_min place xs

-- an element stands at each place
pub at_place : {X : Type 0} (xs : List X) (i : ℕ) → i < length xs → (x : X) × (slice_get xs i ≡ Some x)
at_place [] i low = absurd (omega (arith, low))
at_place (x ∷ xs) zero low = (x, refl)
at_place (x ∷ xs) (suc i) low = at_place xs i (omega (arith, low))
