-- Which commit an identifier names, test by test.
use Rattle.std.proofs.Common.{◌≡◌, ℕ, ◌-◌, ◌/◌, ◌%◌, ◌==◌, Bool, true, false, cond, Some, None, refl, sym, ap, ◌∙◌}
use Rattle.std.specs.Prelude.{◌&&◌, ◌^◌, nat_le, nat_lt}
use Rattle.odb_atoms.specs.Uuid.{Uuid}
use Rattle.odb_recent.specs.Recent.{commits_ago}

abbrev pub is_named : ℕ → ℕ → ℕ → ℕ → ℕ → Bool
is_named most run commits h k = h == run && nat_le 1 k && nat_le k commits && nat_lt (commits - k) most

named : (b : Bool) (most run commits h k : ℕ) (v : Uuid) → h ≡ v.number / 2 ^ 64 → k ≡ v.number % 2 ^ 64 → is_named most run commits h k ≡ b → cond b (Some (commits - k)) None ≡ commits_ago most run commits v
named b most run commits h k v high low is =
    ap (λ c. cond c (Some (commits - k)) None) (sym is) ∙ (λ i. cond (is_named most run commits (high i) (low i)) (Some (commits - low i)) None)

pub found : (most run commits h k : ℕ) (v : Uuid) → h ≡ v.number / 2 ^ 64 → k ≡ v.number % 2 ^ 64 → is_named most run commits h k ≡ true → Some (commits - k) ≡ commits_ago most run commits v
found = named true

pub missed : (most run commits h k : ℕ) (v : Uuid) → h ≡ v.number / 2 ^ 64 → k ≡ v.number % 2 ^ 64 → is_named most run commits h k ≡ false → None ≡ commits_ago most run commits v
missed = named false

-- ---- four tests

pub all_true : (a b c d : Bool) → a ≡ true → b ≡ true → c ≡ true → d ≡ true → (a && b && c && d) ≡ true
all_true a b c d p q r s = λ i. p i && q i && r i && s i

pub first_false : (a b c d : Bool) → a ≡ false → (a && b && c && d) ≡ false
first_false a b c d e = ap (λ x. x && b && c && d) e

pub second_false : (a b c d : Bool) → b ≡ false → (a && b && c && d) ≡ false
second_false true b c d e = ap (λ x. x && c && d) e
second_false false b c d e = refl

pub third_false : (a b c d : Bool) → c ≡ false → (a && b && c && d) ≡ false
third_false a b c d e = ap (λ x. a && b && x && d) e ∙ by (a && b)
  where
    by : (x : Bool) → (x && false && d) ≡ false
    by true = refl
    by false = refl

pub fourth_false : (a b c d : Bool) → d ≡ false → (a && b && c && d) ≡ false
fourth_false a b c d e = ap (λ x. a && b && c && x) e ∙ by (a && b && c)
  where
    by : (x : Bool) → (x && false) ≡ false
    by true = refl
    by false = refl
