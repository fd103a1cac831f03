-- Identifiers (RFC 7047, <uuid>): numbers of 128 bits, their order and their texts. [P 2.1]
use Rattle.std.specs.Prelude.{◌≡◌, ℕ, ◌^◌, nat_lt, Bool, true, false, T, ◌==◌, List, Option, option_map}
use mathlib.Core.Path.{refl, sym, subst}
use mathlib.Core.HLevel.{Σ_prop_path}
use lib.Dec.{T_prop}
use base.Stored.{Coded, coded_ℕ, coded_via}
use Rattle.std.specs.declared.cmp.Ordering.{Ordering}
use Rattle.std.specs.Ordering.{nat_cmp}
use Rattle.std.specs.Int.{w128, to_be_bytes, from_be_bytes}
use Rattle.uuid.specs.Text.{parsed_hyphenated, hyphenated_text, lower}

pub record Uuid : Type 0 where
  pub number : ℕ
  pub bounded : T (nat_lt number (2 ^ 128))

pub same_number-same : (u v : Uuid) → u.number ≡ v.number → u ≡ v
same_number-same u v e =
    let pairs : ◌≡◌ {A = (n : ℕ) × T (nat_lt n (2 ^ 128))} (u.number, u.bounded) (v.number, v.bounded) = Σ_prop_path (λ n. T_prop _) e in
    λ i. record { number = (pairs i).0; bounded = (pairs i).1 }

abbrev pub bounded_uuid : (n : ℕ) (b : Bool) → nat_lt n (2 ^ 128) ≡ b → Uuid
bounded_uuid n true e = record { number = n; bounded = subst T (sym e) tt }
bounded_uuid n false e = record { number = 0; bounded = tt }

-- the UUID that a number below 2^128 is (the zero UUID for any other)
unfoldable pub uuid_from : ℕ → Uuid
uuid_from n = bounded_uuid n _ refl

abbrev pub zero_uuid : Uuid
zero_uuid = record { number = 0; bounded = tt }

abbrev pub uuid_cmp : Uuid → Uuid → Ordering
uuid_cmp u v = nat_cmp u.number v.number

abbrev pub same_uuid : Uuid → Uuid → Bool
same_uuid u v = u.number == v.number

abbrev pub uuid_code : Coded Uuid
uuid_code = coded_via coded_ℕ (λ u. u.number) same_number-same

-- 36 characters, 8-4-4-4-12 hexadecimal digits of either case
abbrev pub uuid_of_text : List ℕ → Option Uuid
uuid_of_text s = option_map (λ bytes. uuid_from (from_be_bytes w128 bytes)) (parsed_hyphenated s)

-- printed in lower case
abbrev pub uuid_text : Uuid → List ℕ
uuid_text u = hyphenated_text lower (to_be_bytes w128 u.number)
