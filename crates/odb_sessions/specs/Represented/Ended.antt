-- What transactions that ended stand for.
use Rattle.odb_queue.specs.Represented.Item.{item_of}
use Rattle.odb_sessions.specs.Committed.{Ending}
use Rattle.odb_sessions.specs.declared.ended.Ended.{Ended}

abbrev pub ending_of : Ended → Ending
ending_of e = (e.session, (item_of e.reply, e.change))
