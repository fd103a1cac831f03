-- The earliest moment at which a transaction that waits is due. [P 12.3]
use Rattle.std.specs.Prelude.{ℕ, min, List, [], ◌∷◌, Option, Some, None}
use Rattle.odb_service.specs.World.{Waiting}

-- the earlier of two moments, of which each may be never
abbrev pub earlier : Option ℕ → Option ℕ → Option ℕ
earlier None b = b
earlier (Some a) None = Some a
earlier (Some a) (Some b) = Some (min a b)

-- the earliest of their deadlines; none where each waits for ever
abbrev pub earliest : List Waiting → Option ℕ
earliest [] = None
earliest (p ∷ ps) = earlier p.deadline (earliest ps)
