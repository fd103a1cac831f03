-- What the items of a queue, its outs and sessions stand for.
use Rattle.std.specs.Prelude.{ℕ, List}
use Rattle.serde_json.specs.Written.{compact_text}
use Rattle.odb_service.specs.Session.{Item, Out, say}
use Rattle.odb_queue.specs.declared.finished.Finished.{Finished}

abbrev pub item_of : Finished → Item
item_of f = say f.meaning.answers f.meaning.message

-- the text of an out
abbrev pub text_of : Out → List ℕ
text_of o = compact_text o.message
