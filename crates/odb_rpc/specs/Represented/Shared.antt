-- The texts around a body that replies and notifications share.
use Rattle.std.specs.Prelude.{ℕ, List, ◌++◌, codes}
use Rattle.odb_request.specs.Request.{Notation, update_method}

abbrev pub before_id : Notation → List ℕ
before_id n = (codes "{\"id\":null,\"method\":\"" ++ update_method n) ++ codes "\",\"params\":["

abbrev pub after_result : List ℕ
after_result = codes "}"

abbrev pub after_updates : List ℕ
after_updates = codes "]}"
