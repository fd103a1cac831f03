-- The earliest of several deadlines, as the list of those that wait changes.
use Rattle.std.proofs.Common.{◌≡◌, ℕ, min, List, [], ◌∷◌, ◌++◌, Option, Some, None, refl, sym, ap, ◌∙◌, arith}
use Rattle.odb_service.specs.World.{Waiting}
use Rattle.odb_core.specs.Deadlines.{earlier, earliest}

pub never : (a : Option ℕ) → earlier a None ≡ a
never None = refl
never (Some a) = refl

least : (a b c : ℕ) → min (min a b) c ≡ min a (min b c)
least a b c = omega arith

pub regrouped : (a b c : Option ℕ) → earlier (earlier a b) c ≡ earlier a (earlier b c)
regrouped None b c = refl
regrouped (Some a) None c = refl
regrouped (Some a) (Some b) None = refl
regrouped (Some a) (Some b) (Some c) = ap Some (least a b c)

-- one more
pub earliest_pushed : (ps : List Waiting) (p : Waiting) → earliest (ps ++ p ∷ []) ≡ earlier (earliest ps) p.deadline
earliest_pushed [] p = never p.deadline
earliest_pushed (q ∷ ps) p = ap (earlier q.deadline) (earliest_pushed ps p) ∙ sym (regrouped q.deadline (earliest ps) p.deadline)
