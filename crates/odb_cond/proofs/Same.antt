-- Which test tells whether two conditions, or two lists of members, are the same.
use Rattle.std.specs.Prelude.{◌≡◌, ℕ, ◌<◌, Bool, List, length, get_or, map}
use Rattle.std.specs.Bool.{Decides}
use Rattle.std.proofs.lemmas.List.{get_or-map}
use mathlib.Core.Path.{sym, ap, ◌∙◌}
use Rattle.odb_atoms.specs.Value.{same_value}
use Rattle.odb_atoms.proofs.Equal.{same_value-itself}
use Rattle.odb_atoms.proofs.Values.{same_value-equal}
use Rattle.odb_cond.specs.Condition.{Clause}

-- where column and function are the same, the test of the values tells
pub same_clauses : (c d : Clause) (b : Bool) → (c.column ≡ d.column) × (c.function ≡ d.function) → b ≡ same_value c.value d.value → Decides b (c ≡ d)
same_clauses c d b alike is = (
  λ passed i. record { column = alike.0 i; function = alike.1 i; value = same_value-equal c.value d.value (sym is ∙ passed) i },
  λ same. is ∙ ap (λ (x : Clause). same_value c.value x.value) (sym same) ∙ same_value-itself c.value,
)

-- of lists with the same members each place has the same member
pub same_place : {X Y : Type 0} (f : X → Y) (xs ys : List X) (k : ℕ) (x y : X) → k < length xs → k < length ys → x ≡ get_or xs k x → y ≡ get_or ys k y → map f xs ≡ map f ys → f x ≡ f y
same_place f xs ys k x y low low' at at' same =
    ap f at ∙ sym (get_or-map f xs k x (f x) low) ∙ ap (λ l. get_or l k (f x)) same ∙ get_or-map f ys k y (f x) low' ∙ ap f (sym at')
