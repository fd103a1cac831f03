-- A queue without its newest item.
use Rattle.std.specs.Prelude.{List, [], ◌∷◌}
use Rattle.odb_service.specs.Session.{Item, Session}

-- without the newest item
abbrev pub all_but_last : List Item → List Item
all_but_last [] = []
all_but_last (i ∷ []) = []
all_but_last (i ∷ j ∷ is) = i ∷ all_but_last (j ∷ is)

abbrev pub without_last : Session → Session
without_last x = record { queue = all_but_last x.queue; monitors = x.monitors }
