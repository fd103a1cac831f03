-- The greatest of the numbers of sessions, found one by one.
use Rattle.std.proofs.Common.{◌≡◌, ℕ, ◌≤◌, arith, Bool, true, false, cond, List, [], ◌∷◌, map, Option, Some, sym, subst, ◌∙◌}
use Rattle.std.specs.List.{AllByRecursion}
use Rattle.std.specs.Ordering.{eq_by_cmp, nat_cmp}
use Rattle.std.specs.Prelude.{option_and_then}
use Rattle.std.proofs.lemmas.Option.{none-some}
use Rattle.odb_atoms.specs.FinMap.{get}
use Rattle.odb_sessions.specs.Marked.{MarkedSession}
use Rattle.odb_sessions.specs.Represented.Keyed.{key_of, session_under, sessions_under}
use Rattle.odb_sessions.proofs.Keyed.{get-under}

abbrev pub keys_in : List (ℕ × ℕ) → List ℕ
keys_in es = map (λ e. e.1) es

-- the numbers of what lies under these keys aren't greater than this
abbrev pub AreWithin : List (Option MarkedSession) → ℕ → List ℕ → Type 0
AreWithin slots g ks = AllByRecursion (λ k. (n : ℕ) (x : MarkedSession) → session_under slots k ≡ Some x → x.watch ≡ Some n → n ≤ g) ks

-- they aren't of all, where those of the rest aren't
abbrev pub Bounds : List (Option MarkedSession) → List (ℕ × ℕ) → ℕ → List (ℕ × ℕ) → Type 0
Bounds slots all g rest = (b : ℕ) → g ≤ b → AreWithin slots b (keys_in rest) → AreWithin slots b (keys_in all)

pub bounds_on : (slots : List (Option MarkedSession)) (all now rest : List (ℕ × ℕ)) (k g h : ℕ) → keys_in now ≡ k ∷ keys_in rest → Bounds slots all g now → g ≤ h → ((n : ℕ) (x : MarkedSession) → session_under slots k ≡ Some x → x.watch ≡ Some n → n ≤ h) → Bounds slots all h rest
bounds_on slots all now rest k g h step before up own b low within = before b (omega (arith, up, low)) (subst (AreWithin slots b) (sym step) ((λ n x at is. let here : n ≤ h = own n x at is in omega (arith, here, low)), within))

pub bounds_all : (slots : List (Option MarkedSession)) (all rest : List (ℕ × ℕ)) (g : ℕ) → rest ≡ [] → Bounds slots all g rest → AreWithin slots g (keys_in all)
bounds_all slots all rest g none h = h g (omega arith) (subst (λ es. AreWithin slots g (keys_in es)) (sym none) tt)

pub within_all : (index : List (ℕ × ℕ)) (slots : List (Option MarkedSession)) (g : ℕ) → AreWithin slots g (keys_in index) → (s n : ℕ) (x : MarkedSession) → get (sessions_under index slots) s ≡ Some x → x.watch ≡ Some n → n ≤ g
within_all index slots g h s n x there is = at index h (sym (get-under index slots s) ∙ there)
  where
    at : (es : List (ℕ × ℕ)) → AreWithin slots g (keys_in es) → option_and_then (session_under slots) (key_of es s) ≡ Some x → n ≤ g
    at [] h e = absurd (none-some x e)
    at (e ∷ es) h found = by (eq_by_cmp nat_cmp s e.0) (at es h.1) found
      where
        by : (b : Bool) → (option_and_then (session_under slots) (key_of es s) ≡ Some x → n ≤ g) → option_and_then (session_under slots) (cond b (Some e.1) (key_of es s)) ≡ Some x → n ≤ g
        by true rest found = h.0 n x found is
        by false rest found = rest found
