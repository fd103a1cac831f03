-- The number that a key holds is that of its identifier; the least and the greatest key.
use Rattle.std.proofs.Common.{◌≡◌, ℕ, zero, suc, ◌^◌, ◌<◌, ◌≤◌, Bool, true, false, nat_lt, refl, sym, ap, ◌∙◌, arith}
use lib.Dec.{T}
use Rattle.std.proofs.lemmas.Bool.Decides.{nat_tests}
use Rattle.std.specs.Cmp.{nat_cmp_is}
use Rattle.std.specs.Ordering.{is_le, is_lt, nat_cmp}
use Rattle.std.specs.declared.cmp.Ordering.TheVariants.{Less, Equal, Greater}
use Rattle.odb_atoms.specs.Uuid.{Uuid, uuid_cmp, uuid_from}
use Rattle.odb_tables.specs.Represented.Key.{number-uuid_from}

pub number_is : (n : ℕ) (u : Uuid) → T (nat_lt n (2 ^ 128)) → uuid_from n ≡ u → u.number ≡ n
number_is n u h e = sym (ap (λ v. v.number) e) ∙ number-uuid_from n h

from_zero : (n : ℕ) → is_le (nat_cmp 0 n) ≡ true
from_zero zero = ap is_le (sym (nat_cmp_is 0 0 Equal refl))
from_zero (suc n) = ap is_le (sym (nat_cmp_is 0 (suc n) Less (omega arith)))

pub least-is : (u : Uuid) → is_le (uuid_cmp (uuid_from 0) u) ≡ true
least-is u = ap (λ n. is_le (nat_cmp n u.number)) (number-uuid_from 0 tt) ∙ from_zero u.number

not_below : (m n : ℕ) → n ≤ m → is_lt (nat_cmp m n) ≡ false
not_below m n h = by (nat_lt n m) refl
  where
    by : (b : Bool) → nat_lt n m ≡ b → is_lt (nat_cmp m n) ≡ false
    by true e = let low : n < m = grind (arith, nat_tests, e) in ap is_lt (sym (nat_cmp_is m n Greater low))
    by false e = let same : m ≡ n = grind (arith, nat_tests, e, h) in ap is_lt (sym (nat_cmp_is m n Equal same))

bound : (n : ℕ) (b : Bool) → nat_lt n (2 ^ 128) ≡ b → T b → n < 2 ^ 128
bound n true e h = grind (arith, nat_tests, e)
bound n false e h = absurd h

pub greatest-is : (u : Uuid) → is_lt (uuid_cmp (uuid_from 340282366920938463463374607431768211455) u) ≡ false
greatest-is u =
    let low : u.number < 2 ^ 128 = bound u.number _ refl u.bounded in
    ap (λ n. is_lt (nat_cmp n u.number)) (number-uuid_from 340282366920938463463374607431768211455 tt) ∙ not_below 340282366920938463463374607431768211455 u.number (omega (arith, low))
