-- What is asked of the versions of a table that have marks, and what may change in the old rows of a row.
use Rattle.std.specs.Prelude.{◌≡◌, ◌⊎◌, ℕ, Bool, true, false, not, ◌||◌, ◌&&◌, nat_le, nat_lt, nat_eq, List, [], ◌∷◌, Option, Some, None}
use Rattle.std.specs.List.{dedup, list_any}
use Rattle.odb_atoms.specs.Row.{Row}
use Rattle.odb_chain.specs.OldRows.{History, at_version, is_reached}

abbrev pub is_marked : ℕ → List (ℕ × ℕ) → Bool
is_marked p ls = list_any (λ e. nat_eq p e.0) ls

-- whether one of them is after the one and up to the other
abbrev pub is_between : List (ℕ × ℕ) → ℕ → ℕ → Bool
is_between ls a b = list_any (λ e. nat_lt a e.0 && nat_le e.0 b) ls

-- without what no marked version needs
abbrev pub cleaned : List (ℕ × ℕ) → History → History
cleaned ls h = dedup (λ later earlier. not (is_between ls earlier.0 later.0)) h

-- a version among these, or one that isn't before the newest
abbrev pub is_kept : ℕ → List (ℕ × ℕ) → ℕ → Bool
is_kept newest ls p = nat_le newest p || is_marked p ls

-- the old rows are of the past: up to the version of now, and there it is what the row is now
abbrev pub Past : ℕ → Option Row → History → Type 0
Past v r [] = Unit {0}
Past v r (e ∷ es) = (nat_le e.0 v ≡ true) × (nat_le v e.0 ≡ true → e.1 ≡ r) × Past v r es

abbrev pub IsPast : ℕ → Option Row → Option History → Type 0
IsPast v r None = Unit {0}
IsPast v r (Some h) = Past v r h

-- whether there is an old row up to just this version
abbrev pub is_label : ℕ → History → Bool
is_label q h = list_any (λ e. nat_eq q e.0) h

abbrev pub has_label : ℕ → Option History → Bool
has_label q None = false
has_label q (Some h) = is_label q h

-- where the row is r now: it is what it was at each of these versions, the old rows are of the past still, and the newest one alone is one that old rows may be kept up to besides
abbrev pub AsBefore : ℕ → List (ℕ × ℕ) → Option Row → Option History → Option History → Type 0
AsBefore newest ls r old new = ((p : ℕ) → is_kept newest ls p ≡ true → at_version p r new ≡ at_version p r old) × ((v : ℕ) → nat_le newest v ≡ true → IsPast v r old → IsPast v r new)
    × ((q : ℕ) → has_label q new ≡ true → (has_label q old || nat_eq q newest) ≡ true)

-- the old rows of a row stay, or go where they don't reach the version
abbrev pub StaysOrGoes : ℕ → Option History → Option History → Type 0
StaysOrGoes p old new = (new ≡ old) ⊎ ((new ≡ None) × (is_reached p old ≡ false))
