-- What an item of the code stands for.
use Rattle.std.specs.Prelude.{ℕ, List, map}
use Rattle.std.specs.Arc.{arc_value}
use Rattle.odb_cond.specs.Filter.{Filter}
use Rattle.odb_queue.specs.Represented.Item.{item_of}
use Rattle.odb_request.specs.Represented.Change.{change_of}
use Rattle.odb_service.specs.Session.{renamed, shift, stopped, sync}
use Rattle.odb_sessions.specs.Marked.{MarkedItem, due, plain}
use Rattle.odb_sessions.specs.declared.item.Changes.{Changes}
use Rattle.odb_sessions.specs.declared.item.Item.{Item}
use Rattle.odb_sessions.specs.declared.item.Item.TheVariants as item

-- the filters by the names of their tables
abbrev pub filters_of : Changes → List (List ℕ × Filter)
filters_of c = map (change_of (arc_value c.schema)) c.changes.items

abbrev pub marked_item_of : Item → MarkedItem
marked_item_of (item.Say said) = plain (item_of said)
marked_item_of (item.Start s) = due s.origin s.monitor
marked_item_of (item.Sync id) = plain (sync (arc_value id))
marked_item_of (item.Shift s) = plain (shift (arc_value s.id) (filters_of s.changes))
marked_item_of (item.Renamed r) = plain (renamed r.reply (arc_value r.old_id) (arc_value r.new_id) (filters_of r.changes))
marked_item_of (item.Stopped s) = plain (stopped s.reply (arc_value s.id))
