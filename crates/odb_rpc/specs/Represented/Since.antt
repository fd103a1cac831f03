-- The texts around table updates that have a commit's number.
use Rattle.std.specs.Prelude.{ℕ, Bool, true, false, List, codes}

abbrev pub before_found : Bool → List ℕ
before_found true = codes "[true,"
before_found false = codes "[false,"
