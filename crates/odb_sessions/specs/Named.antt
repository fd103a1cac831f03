-- Monitors as asked, without their filters: what a change of one is read by.
use Rattle.std.specs.Prelude.{List, [], ◌∷◌, ◌++◌, map}
use Rattle.odb_request.specs.Request.{Notation, Shape}
use Rattle.odb_schema.specs.Json.{Data}
use Rattle.odb_service.specs.Session.{Item, Session, Watch, at_first, drop_first, renamed, say, shapes, shift, start, stopped, sync}
use Rattle.odb_sessions.specs.Asked.{is_same}
use Rattle.odb_sessions.specs.Marked.{MarkedMonitor, watch_of}

pub record Named : Type 0 where
  pub id : Data
  pub notation : Notation
  pub shapes : List Shape

abbrev pub named : Watch → Named
named k = record { id = k.id; notation = k.notation; shapes = shapes k.requests }

abbrev pub named_of : MarkedMonitor → Named
named_of h = named (watch_of h)

abbrev pub under_id : Data → Named → Named
under_id i n = record { id = i; notation = n.notation; shapes = n.shapes }

-- what an item does to the monitors as asked
abbrev pub asks_named : Item → List Named → List Named
asks_named (say a d) ns = ns
asks_named (start d k) ns = ns ++ named k ∷ []
asks_named (sync i) ns = ns
asks_named (shift i fs) ns = ns
asks_named (renamed d old new fs) ns = at_first (λ n. is_same old n.id) (under_id new) ns
asks_named (stopped d i) ns = drop_first (λ n. is_same i n.id) ns

abbrev pub named_after : List Item → List Named → List Named
named_after [] ns = ns
named_after (i ∷ is) ns = named_after is (asks_named i ns)

abbrev pub named_asked : Session → List Named
named_asked x = named_after x.queue (map (λ m. named m.watch) x.monitors)
