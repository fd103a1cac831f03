-- Tokens of the members of an object.
use Rattle.std.specs.Prelude.{◌≡◌, ◌∷◌, [], ℕ, Bool, true, false, List, fold}
use Rattle.std.specs.List.{AllByRecursion}
use Rattle.json.specs.Print.{ends}
use Rattle.json.specs.Token.{Token, key}

-- whether a value has just ended after these tokens
abbrev pub ended : Bool → List Token → Bool
ended after ts = fold (λ _ t. ends t) after ts

-- tokens of members, of which there are some or none: from a key on to the end of a value
abbrev pub AreMembers : Bool → List Token → Type 0
AreMembers false ts = ts ≡ []
AreMembers true ts = ((name : List ℕ) × (rest : List Token) × (ts ≡ key name ∷ rest)) × ((after : Bool) → ended after ts ≡ true)

-- each row is a member, or nothing
abbrev pub AreRows : List (List Token) → Type 0
AreRows rows = AllByRecursion (λ ts. (b : Bool) × AreMembers b ts) rows
