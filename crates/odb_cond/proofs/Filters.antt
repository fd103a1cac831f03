-- What a filter selects, by its members as the code keeps them.
use Rattle.std.specs.Prelude.{◌≡◌, Bool, ◌||◌, ◌==◌, List, [], ◌∷◌, length, map}
use Rattle.std.specs.List.{list_any}
use Rattle.std.proofs.Common.{arith}
use Rattle.std.proofs.lemmas.Bool.Decides.{nat_tests}
use mathlib.Core.Path.{refl, ap, ◌∙◌}
use Rattle.odb_atoms.specs.Row.{Row}
use Rattle.odb_atoms.specs.Uuid.{Uuid}
use Rattle.odb_atoms.proofs.Lists.{any-map}
use Rattle.odb_cond.specs.Filter.{member_holds, selects}
use Rattle.odb_cond.specs.Represented.Filter.{member_of}
use Rattle.odb_cond.specs.declared.filter.Member.{Member}

not_none : {X : Type 0} (x : X) (xs : List X) (b : Bool) → b ≡ ((length (x ∷ xs) == 0) || b)
not_none x xs b = ap (λ a. a || b) (false_is x xs)
  where
    false_is : {X : Type 0} (x : X) (xs : List X) → Bool.false ≡ (length (x ∷ xs) == 0)
    false_is x xs = grind (arith, nat_tests)

pub selected : (ms : List Member) (u : Uuid) (r : Row) → selects (map member_of ms) u r ≡ ((length ms == 0) || list_any (λ m. member_holds u r (member_of m)) ms)
selected [] u r = refl
selected (m ∷ ms) u r = any-map (member_holds u r) member_of (m ∷ ms) ∙ not_none m ms _
