-- A list cut at a place.
use Rattle.std.specs.Prelude.{ℕ, suc, List, drop, take, slice_get, Option, option_map}

-- what stands before a place, at it and after it
abbrev pub split_at : {A : Type 0} → List A → ℕ → Option (List A × A × List A)
split_at xs k = option_map (λ x. (take k xs, x, drop (suc k) xs)) (slice_get xs k)
