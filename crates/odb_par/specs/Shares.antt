-- Which jobs each worker composes: those that stand at its number, and from there on at every place that is as many further on as there are workers.
use Rattle.std.specs.Prelude.{◌≡◌, ℕ, ◌+◌, ◌*◌, ◌<◌, List, Option, Result, Vec, IfOk, length, map, min, slice_get, slice_index_or}
use Rattle.std.specs.declared.sync.Arc.{Arc}
use Rattle.odb_sessions.specs.Represented.Composed.{bytes_in}

-- the share of the worker with the number `first` has what stands there, in its order, and no more
abbrev pub IsShare : {X : Type 0} → ℕ → ℕ → List X → List X → Type 0
IsShare first workers all share = (n : ℕ) → slice_get share n ≡ slice_get all (first + n * workers)

-- each worker has its share of all the texts, or failed; of these there are no more than texts
abbrev pub AreShares : {Y Z W E : Type 0} → ℕ → List (Option (List ℕ)) → List (Result (Vec (Option (Arc (Vec ℕ Y) Z)) W) E) → Type 0
AreShares workers all shares =
    (length shares ≡ min workers (length all))
    × ((first : ℕ) (d : _) → first < min workers (length all) → IfOk (slice_index_or shares first d) (λ bodies. IsShare first workers all (map bytes_in bodies.items)))
