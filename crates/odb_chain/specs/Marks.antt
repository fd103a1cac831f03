-- Lists of marks: how many stand at a version, and whether they are all that are counted.
use Rattle.std.specs.Prelude.{◌≡◌, ℕ, ◌+◌, Bool, true, false, ◌&&◌, nat_eq, List, [], ◌∷◌}
use Rattle.odb_chain.specs.Chains.{Chains, IsLive, Mark, count}

-- whether a mark stands at a version of a table
abbrev pub is_at : ℕ → ℕ → Mark → Bool
is_at t p m = nat_eq t m.table && nat_eq p m.version

abbrev pub bit : Bool → ℕ
bit true = 1
bit false = 0

-- how many of the marks stand at a version of a table
abbrev pub uses : ℕ → ℕ → List Mark → ℕ
uses t p [] = 0
uses t p (m ∷ ms) = bit (is_at t p m) + uses t p ms

abbrev pub AreLive : Chains → List Mark → Type 0
AreLive k [] = Unit {0}
AreLive k (m ∷ ms) = IsLive k m × AreLive k ms

-- each is live, and at each version as many of them stand as are counted
abbrev pub AreAllMarks : Chains → List Mark → Type 0
AreAllMarks k ms = AreLive k ms × ((t p : ℕ) → uses t p ms ≡ count k t p)
