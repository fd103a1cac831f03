-- Keys of tables: identifiers by their numbers.
use Rattle.std.specs.Prelude.{◌≡◌, ℕ, ◌^◌, nat_lt, Bool, true, false, Some, T}
use mathlib.Core.Path.{refl, sym, subst}
use Rattle.std.specs.Ordering.{eq_by_cmp}
use Rattle.std.specs.Cmp.{IsEquivalence, IsPartialEquivalence, IsPartialOrder, IsTotalOrder, eq_by_cmp_equiv, nat_cmp_total, on_total, partial_equiv_from_equiv, po, unsigned_tied, unsigned_Decides}
use Rattle.std.specs.Hash.{Alike, on_Alike, same_Alike, u128}
use Rattle.odb_atoms.specs.Uuid.{Uuid, bounded_uuid, uuid_cmp, uuid_from}

number-bounded_uuid : (n : ℕ) (b : Bool) (e : nat_lt n (2 ^ 128) ≡ b) → T b → (bounded_uuid n b e).number ≡ n
number-bounded_uuid n true e h = refl
number-bounded_uuid n false e h = absurd h

-- the number of the identifier that a number below 2^128 is
pub number-uuid_from : (n : ℕ) → T (nat_lt n (2 ^ 128)) → (uuid_from n).number ≡ n
unfolding uuid_from
number-uuid_from n h = number-bounded_uuid n _ refl h

-- ---- the laws of keys that are compared and hashed by their numbers

pub uuid_cmp_total : IsTotalOrder uuid_cmp
uuid_cmp_total = on_total (λ u. u.number) nat_cmp_total

pub keys_equivalent : IsEquivalence (eq_by_cmp uuid_cmp)
keys_equivalent = eq_by_cmp_equiv uuid_cmp_total

pub keys_partially_equivalent : IsPartialEquivalence (eq_by_cmp uuid_cmp)
keys_partially_equivalent = partial_equiv_from_equiv keys_equivalent

pub keys_partial : IsPartialOrder (eq_by_cmp uuid_cmp) (λ u v. Some (uuid_cmp u v))
keys_partial = po uuid_cmp_total (λ _ _. refl)

pub keys_alike : Alike (eq_by_cmp uuid_cmp) (λ u. u128 u.number)
keys_alike = subst (λ (E : Uuid → Uuid → Bool). Alike E (λ u. u128 u.number)) (λ i x y. sym (unsigned_tied x.number y.number) i) (on_Alike (λ u. u.number) (same_Alike u128 unsigned_Decides))
