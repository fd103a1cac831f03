-- A success is no failure.
use Rattle.std.proofs.Common.{◌≡◌, ◌↔◌, Result, Ok, Err, IsOk, OnOk, OnErr, refl, sym, true≢false}

pub err_ok : {A E : Type 0} (e : E) (y : A) → Err e ≡ Ok y → ⊥
err_ok e y p = cc

pub ok_err : {A E : Type 0} (y : A) (e : E) → Ok y ≡ Err e → ⊥
ok_err y e p = err_ok e y (sym p)

-- what holds either way
pub either_way : {A E : Type 0} (P Q G : Type 0) (r : Result A E) → OnOk r P → OnErr r Q → (P → G) → (Q → G) → G
either_way P Q G (Ok x) p q f g = f p
either_way P Q G (Err e) p q f g = g q

-- of two that are Ok together
pub ok_together : {A B E F : Type 0} (P : Type 0) (r : Result A E) (q : Result B F) → (IsOk r ↔ IsOk q) → OnOk q P → OnOk r P
ok_together P (Ok x) (Ok y) both p = p
ok_together P (Ok x) (Err e) both p = absurd (true≢false (sym (both.0 refl)))
ok_together P (Err e) q both p = tt
