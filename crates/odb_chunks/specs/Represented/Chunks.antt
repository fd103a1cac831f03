-- What lies in chunks: the items of each, one chunk after the other.
use Rattle.std.specs.Prelude.{◌<◌, List, [], ◌∷◌, ◌++◌, Vec, length, Option, Some, None}
use Rattle.std.specs.Arc.{arc_value}
use Rattle.std.specs.declared.sync.Arc.{Arc}

abbrev pub items_in : {T Y Z : Type 0} → List (Arc (Vec T Y) Z) → List T
items_in [] = []
items_in (c ∷ cs) = (arc_value c).items ++ items_in cs

-- no chunk is empty
abbrev pub AreFilled : {T Y Z : Type 0} → List (Arc (Vec T Y) Z) → Type 0
AreFilled [] = Unit {0}
AreFilled (c ∷ cs) = (0 < length (arc_value c).items) × AreFilled cs

-- where the slice at the front is empty nothing comes after it
abbrev pub EndsWithFront : {T Y Z : Type 0} → List T → List (Arc (Vec T Y) Z) → Type 0
EndsWithFront [] [] = Unit {0}
EndsWithFront [] (c ∷ cs) = ⊥
EndsWithFront (x ∷ xs) cs = Unit {0}

-- the item of a list of one
abbrev pub lone_of : {T : Type 0} → List T → Option T
lone_of [] = None
lone_of (x ∷ []) = Some x
lone_of (x ∷ y ∷ ys) = None

abbrev pub last_of : {T : Type 0} → List T → Option T
last_of [] = None
last_of (x ∷ []) = Some x
last_of (x ∷ y ∷ ys) = last_of (y ∷ ys)
