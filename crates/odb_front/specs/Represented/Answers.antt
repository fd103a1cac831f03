-- What the printed parts of answers stand for.
use Rattle.std.specs.Prelude.{◌≡◌, ℕ, List, map}
use Rattle.serde_json.specs.Data.{Data, string}
use Rattle.serde_json.specs.Written.{compact_text}
use Rattle.odb_front.specs.Answers as model
use Rattle.odb_front.specs.Answers.{names_of}
use Rattle.odb_front.specs.Front.{Text}
use Rattle.odb_front.specs.declared.answers.Answers.{Answers}

-- a database's name, and its schema as compact text
abbrev pub printed : Text × Data → Text × List ℕ
printed s = (s.0, compact_text s.1)

-- each is the compact text of the result
abbrev pub Prints : Answers → model.Answers → Type 0
Prints a m = (a.schemas.items ≡ map printed m.schemas) × (a.names.items ≡ compact_text (names_of m)) × (a.server_id.items ≡ compact_text (string m.server_id))
