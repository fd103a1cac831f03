-- What contracts see of a framer.
use Rattle.std.specs.Prelude.{ℕ, List, refl}
use Rattle.std.specs.Coded.{Coded, code_by, coded×, coded_ℕ, coded_list}

-- the most bytes of one message, and all bytes that were taken in
pub record Framed : Type 0 where
  pub most : ℕ
  pub bytes : List ℕ

abbrev pub framed_code : Coded Framed
framed_code = code_by (ℕ × List ℕ) (coded× coded_ℕ (coded_list coded_ℕ)) (λ f. (f.most, f.bytes)) (λ p. record { most = p.0; bytes = p.1 }) (λ _. refl)
