-- For what a ring has room. [P 15.2]
use Rattle.std.specs.Prelude.{◌≡◌, ℕ, ◌+◌, ◌-◌, ◌^◌, ◌&&◌, min, nat_le, nat_lt, length, Bool, true, List, [], ◌∷◌, ◌++◌}

-- how many bytes a text has, as far as 64 bits count
abbrev pub size_of : List ℕ → ℕ
size_of text = min (length text) (2 ^ 64 - 1)

-- how many bytes messages have together
abbrev pub total : List ℕ → ℕ
total [] = 0
total (size ∷ sizes) = size + total sizes

-- there is room for a message of so many bytes beside those that may be in the ring still: always where there are none, and else for 64 messages, and for 256 KiB of text
abbrev pub has_room : List ℕ → ℕ → Bool
has_room [] size = true
has_room (x ∷ xs) size = nat_lt (length (x ∷ xs)) 64 && nat_le (total (x ∷ xs) + size) 262144

-- it is known of the first of them that they were taken out
abbrev pub IsLooked : List ℕ → List ℕ → Type 0
IsLooked before after = (taken : List ℕ) × (before ≡ taken ++ after)
