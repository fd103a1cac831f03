-- What a notice of the code stands for.
use Rattle.std.specs.Prelude.{ℕ, Bool, List, [], ◌∷◌, map, string_bytes, Option, Some, None}
use Rattle.odb_locks.specs.Locks as model
use Rattle.odb_locks.specs.declared.notice.Notice.{Notice}

abbrev pub notice_of : Notice → model.Notice
notice_of n = record { session = n.session; stolen = n.stolen; name = string_bytes n.name }

abbrev pub notices_of : List Notice → List model.Notice
notices_of = map notice_of

-- a notice to that session, if there is one
abbrev pub notice_to : Option ℕ → Bool → List ℕ → List model.Notice
notice_to None stolen name = []
notice_to (Some s) stolen name = record { session = s; stolen = stolen; name = name } ∷ []
