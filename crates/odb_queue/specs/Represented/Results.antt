-- The text of an array's items.
use Rattle.std.specs.Prelude.{ℕ, List, [], ◌∷◌, ◌++◌}
use Rattle.serde_json.specs.Written.{compact_text}
use Rattle.odb_schema.specs.Json.{Data}

-- each after a comma
abbrev pub later_texts : List Data → List ℕ
later_texts [] = []
later_texts (d ∷ ds) = (44 ∷ compact_text d) ++ later_texts ds

-- with commas between them
abbrev pub item_texts : List Data → List ℕ
item_texts [] = []
item_texts (d ∷ ds) = compact_text d ++ later_texts ds
