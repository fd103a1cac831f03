-- What filters of the code stand for, and the item that asks for them.
use Rattle.std.specs.Prelude.{[]}
use Rattle.odb_schema.specs.Json.{Data}
use Rattle.odb_service.specs.Session.{Item, shift, sync}
use Rattle.odb_sessions.specs.Filtered.{Filters}
use Rattle.odb_sessions.specs.Represented.Item.{filters_of}
use Rattle.odb_sessions.specs.declared.under.Under.{Under}
use Rattle.odb_sessions.specs.declared.under.Under.TheVariants.{Asked, Changed}

abbrev pub filters_in : Under → Filters
filters_in Asked = []
filters_in (Changed c) = filters_of c.now

-- what the client of the monitor with this id lacks under them
abbrev pub item_in : Data → Under → Item
item_in i Asked = sync i
item_in i (Changed c) = shift i (filters_of c.now)
