-- The texts that workers print of the rows of a table, each of a piece of them.
use Rattle.std.specs.Prelude.{◌≡◌, ◌*◌, ◌<◌, ◌≤◌, ℕ, List, Result, Vec, IfOk, drop, length, slice_index_or, take}
use Rattle.json.specs.Token.{Token}
use Rattle.odb_monitor.specs.Listing.{rows_text}

-- each text is that of so many rows, which stand at its place, or failed; and these are all rows
abbrev pub AreTexts : {W E : Type 0} → ℕ → List (List Token) → List (Result (Vec ℕ W) E) → Type 0
AreTexts size rows texts =
    (length rows ≤ length texts * size)
    × ((place : ℕ) (d : _) → place < length texts → IfOk (slice_index_or texts place d) (λ text. text.items ≡ rows_text (take size (drop (place * size) rows))))
