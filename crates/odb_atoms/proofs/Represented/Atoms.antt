-- The order of identifiers by their bytes.
use Rattle.std.specs.Prelude.{◌≡◌, ℕ, ◌<◌, ◌^◌, List, T, nat_lt}
use mathlib.Core.Path.{refl, sym, subst, ◌∙◌}
use borrow.Author.Tests.{lt-ltb}
use Rattle.std.specs.Int.{w128, from_be_bytes}
use Rattle.std.specs.Ordering.{nat_cmp}
use Rattle.odb_atoms.specs.Uuid.{uuid_cmp, uuid_from, zero_uuid}
use Rattle.uuid.specs.Parts.{zero_bytes}
use Rattle.odb_atoms.specs.Represented.Atom.{uuid_of}
use Rattle.odb_atoms.proofs.Uuids.{number-uuid_from}

pub number-uuid_of : (u : List ℕ) (n : ℕ) → n ≡ from_be_bytes w128 u → n < 2 ^ 128 → n ≡ (uuid_of u).number
number-uuid_of u n is small =
    let below = subst T (sym (lt-ltb n (2 ^ 128) small)) tt in
    is ∙ sym (number-uuid_from (from_be_bytes w128 u) (subst (λ m. T (nat_lt m (2 ^ 128))) is below))

pub uuid_cmp-uuid_of : (u v : List ℕ) (m n : ℕ) → m ≡ from_be_bytes w128 u → n ≡ from_be_bytes w128 v → m < 2 ^ 128 → n < 2 ^ 128 → nat_cmp m n ≡ uuid_cmp (uuid_of u) (uuid_of v)
uuid_cmp-uuid_of u v m n is_u is_v small_u small_v = λ i. nat_cmp (number-uuid_of u m is_u small_u i) (number-uuid_of v n is_v small_v i)

pub nil_uuid : uuid_of zero_bytes ≡ zero_uuid
unfolding uuid_from
nil_uuid = refl
