-- A UUID's number and its sixteen bytes say the same, and its text is read back.
use Rattle.std.specs.Prelude.{T, Bool, true, false, nat_lt, ◌≡◌, ℕ, zero, suc, ◌+◌, ◌*◌, ◌/◌, ◌%◌, ◌^◌, ◌<◌, List, [], ◌∷◌, length, get_or, All, Some, option_map}
use mathlib.Core.Path.{refl, sym, ap, ◌∙◌}
use native.Mathlib.Omega.{arith}
use Rattle.std.proofs.lemmas.Nat.{div-mul-add, mod-mul-add}
use Rattle.std.proofs.Math.Facts.{ltb_yes}
use Rattle.std.specs.Int.{w128, to_be_bytes, from_be_bytes, byte_at, bytes_high_first}
use mathlib.Core.Logic.{inl}
use Rattle.uuid.specs.Text.{lower}
use Rattle.uuid.proofs.RoundTrips.{parses_hyphenated_text}
use native.Mathlib.Nat as nat
use Rattle.odb_atoms.specs.Uuid.{Uuid, uuid_from, bounded_uuid, same_number-same, uuid_of_text, uuid_text}

byte_and_rest : (n p : ℕ) → n / p ≡ n / p % 256 + n / (p * 256) * 256
byte_and_rest n p = omega (arith, nat.div-div-eq-div-mul n p 256)

eight_bytes : (a b c d e f g h n p q r s t u v w : ℕ) → n ≡ a + p * 256 → p ≡ b + q * 256 → q ≡ c + r * 256 → r ≡ d + s * 256 → s ≡ e + t * 256 → t ≡ f + u * 256 → u ≡ g + v * 256 → v ≡ h + w * 256 → n ≡ a + b * 256 + c * 65536 + d * 16777216 + e * 4294967296 + f * 1099511627776 + g * 281474976710656 + h * 72057594037927936 + w * 18446744073709551616
eight_bytes a b c d e f g h n p q r s t u v w e0 e1 e2 e3 e4 e5 e6 e7 = omega arith

sixteen_bytes : (l0 l1 l2 l3 l4 l5 l6 l7 h0 h1 h2 h3 h4 h5 h6 h7 n w : ℕ) → n ≡ l0 + l1 * 256 + l2 * 65536 + l3 * 16777216 + l4 * 4294967296 + l5 * 1099511627776 + l6 * 281474976710656 + l7 * 72057594037927936 + w * 18446744073709551616 → w ≡ h0 + h1 * 256 + h2 * 65536 + h3 * 16777216 + h4 * 4294967296 + h5 * 1099511627776 + h6 * 281474976710656 + h7 * 72057594037927936 → h7 * 1329227995784915872903807060280344576 + h6 * 5192296858534827628530496329220096 + h5 * 20282409603651670423947251286016 + h4 * 79228162514264337593543950336 + h3 * 309485009821345068724781056 + h2 * 1208925819614629174706176 + h1 * 4722366482869645213696 + h0 * 18446744073709551616 + l7 * 72057594037927936 + l6 * 281474976710656 + l5 * 1099511627776 + l4 * 4294967296 + l3 * 16777216 + l2 * 65536 + l1 * 256 + l0 ≡ n
sixteen_bytes l0 l1 l2 l3 l4 l5 l6 l7 h0 h1 h2 h3 h4 h5 h6 h7 n w low high = omega arith

pub from_be_bytes-to_be_bytes_16 : (n : ℕ) → n < 2 ^ 128 → from_be_bytes w128 (to_be_bytes w128 n) ≡ n
from_be_bytes-to_be_bytes_16 n fits =
    let first : n ≡ n % 256 + n / 256 * 256 = omega arith in
    let last : n / 1329227995784915872903807060280344576 ≡ n / 1329227995784915872903807060280344576 % 256 + 0 * 256 = omega arith in
    let low = eight_bytes _ _ _ _ _ _ _ _ n _ _ _ _ _ _ _ _ first (byte_and_rest n 256) (byte_and_rest n 65536) (byte_and_rest n 16777216) (byte_and_rest n 4294967296) (byte_and_rest n 1099511627776) (byte_and_rest n 281474976710656) (byte_and_rest n 72057594037927936) in
    let high = eight_bytes _ _ _ _ _ _ _ _ (n / 18446744073709551616) _ _ _ _ _ _ _ 0 (byte_and_rest n 18446744073709551616) (byte_and_rest n 4722366482869645213696) (byte_and_rest n 1208925819614629174706176) (byte_and_rest n 309485009821345068724781056) (byte_and_rest n 79228162514264337593543950336) (byte_and_rest n 20282409603651670423947251286016) (byte_and_rest n 5192296858534827628530496329220096) last in
    sixteen_bytes _ _ _ _ _ _ _ _ _ _ _ _ _ _ _ _ n _ low (high ∙ nat.add-zero _)

byte_there : (low p x high n : ℕ) → low < p → x < 256 → n ≡ (high * 256 + x) * p + low → n / p % 256 ≡ x
byte_there low p x high n below small is = ap (λ m. m / p % 256) is ∙ ap (λ m. m % 256) (div-mul-add (high * 256 + x) p low below) ∙ mod-mul-add high 256 x small

bytes_16 : (x0 x1 x2 x3 x4 x5 x6 x7 x8 x9 x10 x11 x12 x13 x14 x15 n : ℕ) → x0 < 256 → x1 < 256 → x2 < 256 → x3 < 256 → x4 < 256 → x5 < 256 → x6 < 256 → x7 < 256 → x8 < 256 → x9 < 256 → x10 < 256 → x11 < 256 → x12 < 256 → x13 < 256 → x14 < 256 → x15 < 256 → n ≡ x15 * 1329227995784915872903807060280344576 + x14 * 5192296858534827628530496329220096 + x13 * 20282409603651670423947251286016 + x12 * 79228162514264337593543950336 + x11 * 309485009821345068724781056 + x10 * 1208925819614629174706176 + x9 * 4722366482869645213696 + x8 * 18446744073709551616 + x7 * 72057594037927936 + x6 * 281474976710656 + x5 * 1099511627776 + x4 * 4294967296 + x3 * 16777216 + x2 * 65536 + x1 * 256 + x0 → to_be_bytes w128 n ≡ x15 ∷ x14 ∷ x13 ∷ x12 ∷ x11 ∷ x10 ∷ x9 ∷ x8 ∷ x7 ∷ x6 ∷ x5 ∷ x4 ∷ x3 ∷ x2 ∷ x1 ∷ x0 ∷ []
bytes_16 x0 x1 x2 x3 x4 x5 x6 x7 x8 x9 x10 x11 x12 x13 x14 x15 n s0 s1 s2 s3 s4 s5 s6 s7 s8 s9 s10 s11 s12 s13 s14 s15 is =
    let split : n ≡ (x1 + x2 * 256 + x3 * 65536 + x4 * 16777216 + x5 * 4294967296 + x6 * 1099511627776 + x7 * 281474976710656 + x8 * 72057594037927936 + x9 * 18446744073709551616 + x10 * 4722366482869645213696 + x11 * 1208925819614629174706176 + x12 * 309485009821345068724781056 + x13 * 79228162514264337593543950336 + x14 * 20282409603651670423947251286016 + x15 * 5192296858534827628530496329220096) * 256 + x0 = omega arith in
    let b0 : n % 256 ≡ x0 = ap (λ m. m % 256) split ∙ mod-mul-add _ 256 x0 s0 in
    let b1 = byte_there (x0) 256 x1 (x2 + x3 * 256 + x4 * 65536 + x5 * 16777216 + x6 * 4294967296 + x7 * 1099511627776 + x8 * 281474976710656 + x9 * 72057594037927936 + x10 * 18446744073709551616 + x11 * 4722366482869645213696 + x12 * 1208925819614629174706176 + x13 * 309485009821345068724781056 + x14 * 79228162514264337593543950336 + x15 * 20282409603651670423947251286016) n (omega arith) s1 (omega arith) in
    let b2 = byte_there (x0 + x1 * 256) 65536 x2 (x3 + x4 * 256 + x5 * 65536 + x6 * 16777216 + x7 * 4294967296 + x8 * 1099511627776 + x9 * 281474976710656 + x10 * 72057594037927936 + x11 * 18446744073709551616 + x12 * 4722366482869645213696 + x13 * 1208925819614629174706176 + x14 * 309485009821345068724781056 + x15 * 79228162514264337593543950336) n (omega arith) s2 (omega arith) in
    let b3 = byte_there (x0 + x1 * 256 + x2 * 65536) 16777216 x3 (x4 + x5 * 256 + x6 * 65536 + x7 * 16777216 + x8 * 4294967296 + x9 * 1099511627776 + x10 * 281474976710656 + x11 * 72057594037927936 + x12 * 18446744073709551616 + x13 * 4722366482869645213696 + x14 * 1208925819614629174706176 + x15 * 309485009821345068724781056) n (omega arith) s3 (omega arith) in
    let b4 = byte_there (x0 + x1 * 256 + x2 * 65536 + x3 * 16777216) 4294967296 x4 (x5 + x6 * 256 + x7 * 65536 + x8 * 16777216 + x9 * 4294967296 + x10 * 1099511627776 + x11 * 281474976710656 + x12 * 72057594037927936 + x13 * 18446744073709551616 + x14 * 4722366482869645213696 + x15 * 1208925819614629174706176) n (omega arith) s4 (omega arith) in
    let b5 = byte_there (x0 + x1 * 256 + x2 * 65536 + x3 * 16777216 + x4 * 4294967296) 1099511627776 x5 (x6 + x7 * 256 + x8 * 65536 + x9 * 16777216 + x10 * 4294967296 + x11 * 1099511627776 + x12 * 281474976710656 + x13 * 72057594037927936 + x14 * 18446744073709551616 + x15 * 4722366482869645213696) n (omega arith) s5 (omega arith) in
    let b6 = byte_there (x0 + x1 * 256 + x2 * 65536 + x3 * 16777216 + x4 * 4294967296 + x5 * 1099511627776) 281474976710656 x6 (x7 + x8 * 256 + x9 * 65536 + x10 * 16777216 + x11 * 4294967296 + x12 * 1099511627776 + x13 * 281474976710656 + x14 * 72057594037927936 + x15 * 18446744073709551616) n (omega arith) s6 (omega arith) in
    let b7 = byte_there (x0 + x1 * 256 + x2 * 65536 + x3 * 16777216 + x4 * 4294967296 + x5 * 1099511627776 + x6 * 281474976710656) 72057594037927936 x7 (x8 + x9 * 256 + x10 * 65536 + x11 * 16777216 + x12 * 4294967296 + x13 * 1099511627776 + x14 * 281474976710656 + x15 * 72057594037927936) n (omega arith) s7 (omega arith) in
    let b8 = byte_there (x0 + x1 * 256 + x2 * 65536 + x3 * 16777216 + x4 * 4294967296 + x5 * 1099511627776 + x6 * 281474976710656 + x7 * 72057594037927936) 18446744073709551616 x8 (x9 + x10 * 256 + x11 * 65536 + x12 * 16777216 + x13 * 4294967296 + x14 * 1099511627776 + x15 * 281474976710656) n (omega arith) s8 (omega arith) in
    let b9 = byte_there (x0 + x1 * 256 + x2 * 65536 + x3 * 16777216 + x4 * 4294967296 + x5 * 1099511627776 + x6 * 281474976710656 + x7 * 72057594037927936 + x8 * 18446744073709551616) 4722366482869645213696 x9 (x10 + x11 * 256 + x12 * 65536 + x13 * 16777216 + x14 * 4294967296 + x15 * 1099511627776) n (omega arith) s9 (omega arith) in
    let b10 = byte_there (x0 + x1 * 256 + x2 * 65536 + x3 * 16777216 + x4 * 4294967296 + x5 * 1099511627776 + x6 * 281474976710656 + x7 * 72057594037927936 + x8 * 18446744073709551616 + x9 * 4722366482869645213696) 1208925819614629174706176 x10 (x11 + x12 * 256 + x13 * 65536 + x14 * 16777216 + x15 * 4294967296) n (omega arith) s10 (omega arith) in
    let b11 = byte_there (x0 + x1 * 256 + x2 * 65536 + x3 * 16777216 + x4 * 4294967296 + x5 * 1099511627776 + x6 * 281474976710656 + x7 * 72057594037927936 + x8 * 18446744073709551616 + x9 * 4722366482869645213696 + x10 * 1208925819614629174706176) 309485009821345068724781056 x11 (x12 + x13 * 256 + x14 * 65536 + x15 * 16777216) n (omega arith) s11 (omega arith) in
    let b12 = byte_there (x0 + x1 * 256 + x2 * 65536 + x3 * 16777216 + x4 * 4294967296 + x5 * 1099511627776 + x6 * 281474976710656 + x7 * 72057594037927936 + x8 * 18446744073709551616 + x9 * 4722366482869645213696 + x10 * 1208925819614629174706176 + x11 * 309485009821345068724781056) 79228162514264337593543950336 x12 (x13 + x14 * 256 + x15 * 65536) n (omega arith) s12 (omega arith) in
    let b13 = byte_there (x0 + x1 * 256 + x2 * 65536 + x3 * 16777216 + x4 * 4294967296 + x5 * 1099511627776 + x6 * 281474976710656 + x7 * 72057594037927936 + x8 * 18446744073709551616 + x9 * 4722366482869645213696 + x10 * 1208925819614629174706176 + x11 * 309485009821345068724781056 + x12 * 79228162514264337593543950336) 20282409603651670423947251286016 x13 (x14 + x15 * 256) n (omega arith) s13 (omega arith) in
    let b14 = byte_there (x0 + x1 * 256 + x2 * 65536 + x3 * 16777216 + x4 * 4294967296 + x5 * 1099511627776 + x6 * 281474976710656 + x7 * 72057594037927936 + x8 * 18446744073709551616 + x9 * 4722366482869645213696 + x10 * 1208925819614629174706176 + x11 * 309485009821345068724781056 + x12 * 79228162514264337593543950336 + x13 * 20282409603651670423947251286016) 5192296858534827628530496329220096 x14 (x15) n (omega arith) s14 (omega arith) in
    let b15 = byte_there (x0 + x1 * 256 + x2 * 65536 + x3 * 16777216 + x4 * 4294967296 + x5 * 1099511627776 + x6 * 281474976710656 + x7 * 72057594037927936 + x8 * 18446744073709551616 + x9 * 4722366482869645213696 + x10 * 1208925819614629174706176 + x11 * 309485009821345068724781056 + x12 * 79228162514264337593543950336 + x13 * 20282409603651670423947251286016 + x14 * 5192296858534827628530496329220096) 1329227995784915872903807060280344576 x15 (0) n (omega arith) s15 (omega arith) in
    λ i. b15 i ∷ b14 i ∷ b13 i ∷ b12 i ∷ b11 i ∷ b10 i ∷ b9 i ∷ b8 i ∷ b7 i ∷ b6 i ∷ b5 i ∷ b4 i ∷ b3 i ∷ b2 i ∷ b1 i ∷ b0 i ∷ []

written_16 : (bs : List ℕ) → length bs ≡ 16 → get_or bs 0 0 ∷ get_or bs 1 0 ∷ get_or bs 2 0 ∷ get_or bs 3 0 ∷ get_or bs 4 0 ∷ get_or bs 5 0 ∷ get_or bs 6 0 ∷ get_or bs 7 0 ∷ get_or bs 8 0 ∷ get_or bs 9 0 ∷ get_or bs 10 0 ∷ get_or bs 11 0 ∷ get_or bs 12 0 ∷ get_or bs 13 0 ∷ get_or bs 14 0 ∷ get_or bs 15 0 ∷ [] ≡ bs
written_16 [] l = absurd (omega arith)
written_16 (y0 ∷ []) l = absurd (omega arith)
written_16 (y0 ∷ y1 ∷ []) l = absurd (omega arith)
written_16 (y0 ∷ y1 ∷ y2 ∷ []) l = absurd (omega arith)
written_16 (y0 ∷ y1 ∷ y2 ∷ y3 ∷ []) l = absurd (omega arith)
written_16 (y0 ∷ y1 ∷ y2 ∷ y3 ∷ y4 ∷ []) l = absurd (omega arith)
written_16 (y0 ∷ y1 ∷ y2 ∷ y3 ∷ y4 ∷ y5 ∷ []) l = absurd (omega arith)
written_16 (y0 ∷ y1 ∷ y2 ∷ y3 ∷ y4 ∷ y5 ∷ y6 ∷ []) l = absurd (omega arith)
written_16 (y0 ∷ y1 ∷ y2 ∷ y3 ∷ y4 ∷ y5 ∷ y6 ∷ y7 ∷ []) l = absurd (omega arith)
written_16 (y0 ∷ y1 ∷ y2 ∷ y3 ∷ y4 ∷ y5 ∷ y6 ∷ y7 ∷ y8 ∷ []) l = absurd (omega arith)
written_16 (y0 ∷ y1 ∷ y2 ∷ y3 ∷ y4 ∷ y5 ∷ y6 ∷ y7 ∷ y8 ∷ y9 ∷ []) l = absurd (omega arith)
written_16 (y0 ∷ y1 ∷ y2 ∷ y3 ∷ y4 ∷ y5 ∷ y6 ∷ y7 ∷ y8 ∷ y9 ∷ y10 ∷ []) l = absurd (omega arith)
written_16 (y0 ∷ y1 ∷ y2 ∷ y3 ∷ y4 ∷ y5 ∷ y6 ∷ y7 ∷ y8 ∷ y9 ∷ y10 ∷ y11 ∷ []) l = absurd (omega arith)
written_16 (y0 ∷ y1 ∷ y2 ∷ y3 ∷ y4 ∷ y5 ∷ y6 ∷ y7 ∷ y8 ∷ y9 ∷ y10 ∷ y11 ∷ y12 ∷ []) l = absurd (omega arith)
written_16 (y0 ∷ y1 ∷ y2 ∷ y3 ∷ y4 ∷ y5 ∷ y6 ∷ y7 ∷ y8 ∷ y9 ∷ y10 ∷ y11 ∷ y12 ∷ y13 ∷ []) l = absurd (omega arith)
written_16 (y0 ∷ y1 ∷ y2 ∷ y3 ∷ y4 ∷ y5 ∷ y6 ∷ y7 ∷ y8 ∷ y9 ∷ y10 ∷ y11 ∷ y12 ∷ y13 ∷ y14 ∷ []) l = absurd (omega arith)
written_16 (y0 ∷ y1 ∷ y2 ∷ y3 ∷ y4 ∷ y5 ∷ y6 ∷ y7 ∷ y8 ∷ y9 ∷ y10 ∷ y11 ∷ y12 ∷ y13 ∷ y14 ∷ y15 ∷ []) l = refl
written_16 (y0 ∷ y1 ∷ y2 ∷ y3 ∷ y4 ∷ y5 ∷ y6 ∷ y7 ∷ y8 ∷ y9 ∷ y10 ∷ y11 ∷ y12 ∷ y13 ∷ y14 ∷ y15 ∷ y16 ∷ bs) l = absurd (omega arith)

pub to_be_bytes-from_be_bytes_16 : (bs : List ℕ) → length bs ≡ 16 → ((i : ℕ) → get_or bs i 0 < 256) → to_be_bytes w128 (from_be_bytes w128 bs) ≡ bs
to_be_bytes-from_be_bytes_16 bs l small =
    bytes_16 (get_or bs 15 0) (get_or bs 14 0) (get_or bs 13 0) (get_or bs 12 0) (get_or bs 11 0) (get_or bs 10 0) (get_or bs 9 0) (get_or bs 8 0) (get_or bs 7 0) (get_or bs 6 0) (get_or bs 5 0) (get_or bs 4 0) (get_or bs 3 0) (get_or bs 2 0) (get_or bs 1 0) (get_or bs 0 0) _ (small 15) (small 14) (small 13) (small 12) (small 11) (small 10) (small 9) (small 8) (small 7) (small 6) (small 5) (small 4) (small 3) (small 2) (small 1) (small 0) refl ∙ written_16 bs l

below_256 : (m : ℕ) → m % 256 < 256
below_256 m = omega arith

byte_small : (i n : ℕ) → byte_at i n < 256
byte_small zero n = below_256 n
byte_small (suc i) n = below_256 (n / 256 ^ suc i)

bytes_small : (m n : ℕ) → All (λ b. b < 256) (bytes_high_first m n)
bytes_small zero n k d h = absurd (omega arith)
bytes_small (suc m) n zero d h = byte_small m n
bytes_small (suc m) n (suc k) d h = bytes_small m n k d (omega arith)

number-bounded_uuid : (n : ℕ) (b : Bool) (e : nat_lt n (2 ^ 128) ≡ b) → T b → (bounded_uuid n b e).number ≡ n
number-bounded_uuid n true e h = refl
number-bounded_uuid n false e h = absurd h

pub number-uuid_from : (n : ℕ) → T (nat_lt n (2 ^ 128)) → (uuid_from n).number ≡ n
unfolding uuid_from
number-uuid_from n h = number-bounded_uuid n _ refl h

-- a UUID is the one of its number
pub uuid_from-number : (u : Uuid) → uuid_from u.number ≡ u
uuid_from-number u = same_number-same (uuid_from u.number) u (number-uuid_from u.number u.bounded)

-- a UUID's text is read back
pub uuid_of_text-uuid_text : (u : Uuid) → uuid_of_text (uuid_text u) ≡ Some u
uuid_of_text-uuid_text u =
    ap (option_map (λ bytes. uuid_from (from_be_bytes w128 bytes))) (sym (parses_hyphenated_text lower (to_be_bytes w128 u.number) (inl refl) refl (bytes_small 16 u.number)))
    ∙ ap Some (ap uuid_from (from_be_bytes-to_be_bytes_16 u.number (ltb_yes u.bounded)) ∙ uuid_from-number u)
