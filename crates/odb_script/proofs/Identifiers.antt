-- Identifiers for inserts, one after the other.
use Rattle.std.proofs.Common.{◌≡◌, ℕ, zero, suc, ◌+◌, List, [], ◌∷◌, ◌++◌, length, refl, ap, sym, ◌∙◌, arith}
use Rattle.odb_atoms.specs.Uuid.{Uuid}
use Rattle.odb_script.specs.Script.{fresh_from, script_uuid}

pub fresh_more : (k n : ℕ) → fresh_from k (suc n) ≡ fresh_from k n ++ script_uuid (k + n + 1) ∷ []
fresh_more k zero = ap (λ m. script_uuid m ∷ []) {x = k + 1} {y = k + 0 + 1} (omega arith)
fresh_more k (suc n) = ap (λ us. script_uuid (k + 1) ∷ us) (fresh_more (k + 1) n ∙ ap (λ m. fresh_from (k + 1) n ++ script_uuid m ∷ []) {x = k + 1 + n + 1} {y = k + suc n + 1} (omega arith))

pub fresh_length : (k n : ℕ) → length (fresh_from k n) ≡ n
fresh_length k zero = refl
fresh_length k (suc n) = ap suc (fresh_length (k + 1) n)

-- so many identifiers, and one more
pub fresh_next : (k n m : ℕ) (us vs : List Uuid) → us ≡ fresh_from k n → m ≡ k + (n + 1) → vs ≡ us ++ script_uuid m ∷ [] → vs ≡ fresh_from k (n + 1)
fresh_next k n m us vs are number more =
    more ∙ ap (λ ws. ws ++ script_uuid m ∷ []) are ∙ ap (λ l. fresh_from k n ++ script_uuid l ∷ []) {x = m} {y = k + n + 1} (omega (arith, number)) ∙ sym (fresh_more k n) ∙ ap (fresh_from k) {x = suc n} {y = n + 1} (omega arith)
