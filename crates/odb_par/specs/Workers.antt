-- How many threads compose the jobs of a round. [P 15.2]
use Rattle.std.specs.Prelude.{◌==◌, ℕ, if◌then◌else◌, min, nat_lt, refl}
use Rattle.std.specs.Coded.{Coded, code_by, coded×, coded_ℕ}

-- how many are asked for, and from which weight of the jobs on there is more than one
pub record Workers : Type 0 where
  pub count : ℕ
  pub from : ℕ

abbrev pub workers_code : Coded Workers
workers_code = code_by (ℕ × ℕ) (coded× coded_ℕ coded_ℕ) (λ w. (w.count, w.from)) (λ p. record { count = p.0; from = p.1 }) (λ _. refl)

-- so many, but 1 at least and 64 at most
abbrev pub bounded : ℕ → ℕ
bounded n = if n == 0 then 1 else min n 64

-- how many of them compose jobs of this weight
abbrev pub count_for : ℕ → Workers → ℕ
count_for weight w = if nat_lt weight w.from then 1 else bounded w.count
