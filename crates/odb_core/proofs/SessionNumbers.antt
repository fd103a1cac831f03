-- Numbers that no session had stay unused.
use Rattle.std.proofs.Common.{◌≡◌, ℕ, ◌+◌, Bool, true, false, cond, Option, Some, None, is_some, sym, ap, ◌∙◌, arith, refl}
use Rattle.std.specs.Ordering.{eq_by_cmp, nat_cmp}
use Rattle.odb_atoms.specs.FinMap.{FinMap, empty, get, insert}
use Rattle.odb_core.specs.Represented.Core.{AreUnused}
use Rattle.odb_service.specs.Session.{Session}
use Rattle.odb_service.proofs.SessionMaps.{get-empty, get-insert, same_key}
use Rattle.std.specs.Prelude.{option_map}
use Rattle.std.proofs.lemmas.Option.{none-some, same_Some}

pub unused_in_none : AreUnused empty 0
unused_in_none q above = get-empty q

none_there : (o : Option Session) → is_some o ≡ false → o ≡ None
none_there None e = refl
none_there (Some x) e = cc

-- where the same sessions are open
pub unused_same : (m k : FinMap nat_cmp Session) (n : ℕ) → ((s : ℕ) → is_some (get k s) ≡ is_some (get m s)) → AreUnused m n → AreUnused k n
unused_same m k n same unused q above = none_there (get k q) (same q ∙ ap is_some (unused q above))

-- after the next one
pub unused_opened : (m : FinMap nat_cmp Session) (n : ℕ) (x : Session) → AreUnused m n → AreUnused (insert m n x) (n + 1)
unused_opened m n x unused q above = get-insert m n x q ∙ by (eq_by_cmp nat_cmp q n) refl
  where
    by : (b : Bool) → eq_by_cmp nat_cmp q n ≡ b → cond b (Some x) (get m q) ≡ None
    by true e = absurd (let is : q ≡ n = same_key q n e in omega (arith, above, is))
    by false e = unused q (omega (arith, above))

-- ---- a look at a session

pub found_none : {A : Type 0} (f : Session → A) (o : Option Session) → option_map f o ≡ None → o ≡ None
found_none f None e = refl
found_none f (Some x) e = absurd (none-some (f x) (sym e))

pub found_some : {A : Type 0} (f : Session → A) (o : Option Session) (b : A) → option_map f o ≡ Some b → (x : Session) × (o ≡ Some x) × (f x ≡ b)
found_some f None b e = absurd (none-some b e)
found_some f (Some x) b e = (x, refl, same_Some (f x) b e)
