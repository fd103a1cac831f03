-- Calls that are carried out at once, and the one that isn't.
use Rattle.std.proofs.Common.{◌≡◌, ◌↔◌, ◌∙◌, Bool, true, false, Result, Ok, Err, IsOk, IfOk, OnOk, refl, sym, true≢false}

-- what a call says that went through
pub done_says : {A E F : Type 0} (P : Type 0) (r : Result Bool E) (q : Result A F) → (IsOk r ↔ IsOk q) → OnOk q P → IfOk r (λ done. done ≡ true → P)
done_says P (Ok b) (Ok y) both p = λ e. p
done_says P (Ok b) (Err e) both p = absurd (true≢false (sym (both.0 refl)))
done_says P (Err e) q both p = tt

-- nothing is left of it
pub done_whole : {E : Type 0} (P : Type 0) (r : Result Bool E) → IfOk r (λ done. done ≡ true) → IfOk r (λ done. done ≡ false → P)
done_whole P (Ok b) is = λ e. absurd (true≢false (sym is ∙ e))
done_whole P (Err e) is = tt
