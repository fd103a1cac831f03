-- A server: the service machine of a schema, with the methods that are served so far, and what it sends as bytes.
use Rattle.std.specs.Prelude.{ℕ, ◌+◌, List, map, refl, Result, Ok}
use Rattle.std.specs.Coded.{Coded, code_by, coded×, coded_ℕ}
use Rattle.serde_json.specs.Written.{compact_text}
use Rattle.odb_rpc.specs.Served.{served}
use Rattle.odb_schema.specs.Schema.{Schema}
use Rattle.odb_schema.specs.Represented.Codes.{schema_code}
use Rattle.odb_service.specs.Run.{Event, Refusal, Sent, closed, if_ok, opened, round, step, submitted, ticked}
use Rattle.odb_service.specs.Service.{Service, service_of}
use Rattle.odb_service.specs.World.{World}
use Rattle.odb_service.specs.WorldCode.{world_code}

-- with the number of sessions that were opened so far
pub record Server : Type 0 where
  pub schema : Schema
  pub world : World
  pub opened : ℕ

abbrev pub server_code : Coded Server
server_code = code_by (Schema × (World × ℕ)) (coded× schema_code (coded× world_code coded_ℕ)) (λ s. (s.schema, (s.world, s.opened))) (λ p. record { schema = p.0; world = p.1.0; opened = p.1.1 }) (λ _. refl)

-- the service of a server
abbrev pub served_by : Schema → Service
served_by = service_of served

-- an out for a session, as it is printed
abbrev pub printed : Sent → ℕ × List ℕ
printed o = (o.0, compact_text o.1.message)

-- the number of sessions that were opened, after an event
abbrev pub opened_after : Event → ℕ → ℕ
opened_after (opened s) n = n + 1
opened_after (submitted s d fresh now) n = n
opened_after (ticked now) n = n
opened_after (closed s) n = n
opened_after (round ss) n = n

-- the server after an event and what it sends, in order; or why the event is refused
abbrev pub serve : Event → Server → Result (Server × List (ℕ × List ℕ)) Refusal
serve e s = if_ok (λ r. Ok (record { schema = s.schema; world = r.0; opened = opened_after e s.opened }, map printed r.1)) (step (served_by s.schema) e s.world)
