-- The likeness of a job: of a monitor, in each of the ways.
use Rattle.std.specs.Prelude.{ℕ, Bool, true, false, List, [], map as map_list, Option, Some, None, unwrap_or}
use Rattle.odb_chain.specs.Chains.{Mark}
use Rattle.odb_cond.specs.Filter.{Filter}
use Rattle.odb_request.specs.Request.{Notation, Request}
use Rattle.odb_service.specs.Session.{filter_of}
use Rattle.odb_sessions.specs.Alike.{Likeness, Stand, Asks, asks_of}
use Rattle.odb_sessions.specs.Marked.{MarkedMonitor, Watched}
use Rattle.odb_sessions.specs.Represented.Job.{filters_by}
use Rattle.odb_sessions.specs.Represented.Under.{filters_in}
use Rattle.odb_sessions.specs.declared.way.Way.{Way}
use Rattle.odb_sessions.specs.declared.way.Way.TheVariants as way

abbrev pub is_first : Way → Bool
is_first way.First = true
is_first way.Asked = false
is_first (way.Changed u) = false
is_first (way.Again told u) = false
is_first (way.Since r n) = false

-- it is a reply, whatever is sent
abbrev pub is_reply : Way → Bool
is_reply way.First = true
is_reply way.Asked = false
is_reply (way.Changed u) = false
is_reply (way.Again told u) = false
is_reply (way.Since r n) = true

-- how many commits ago the client had what it asks, if that is found
abbrev pub ago_in : Way → Option ℕ
ago_in way.First = None
ago_in way.Asked = None
ago_in (way.Changed u) = None
ago_in (way.Again told u) = None
ago_in (way.Since r n) = Some n

-- the filter that is asked
abbrev pub filter_in : Way → Request → Filter
filter_in w q = filter_of (unwrap_or (filters_by w) []) q.shape.name q.filter

abbrev pub told_in : Way → Watched → Option Filter
told_in way.First w = None
told_in way.Asked w = Some w.told
told_in (way.Changed u) w = Some w.told
told_in (way.Again told u) w = Some (filter_of (filters_in told) w.request.shape.name w.request.filter)
told_in (way.Since r n) w = None

abbrev pub version_in : Way → Mark → Option (ℕ × ℕ)
version_in way.First m = None
version_in way.Asked m = Some (m.table, m.version)
version_in (way.Changed u) m = Some (m.table, m.version)
version_in (way.Again told u) m = None
version_in (way.Since r n) m = None

abbrev pub stand_in : Way → Watched → Stand
stand_in v w = record { request = record (w.request) { filter = filter_in v w.request }; told = told_in v w; version = version_in v w.mark }

-- how a client stands to a table, without the names and the types that the schema has
pub record Bare : Type 0 where
  pub asks : Asks
  pub told : Option Filter
  pub version : Option (ℕ × ℕ)

abbrev pub bare : Stand → Bare
bare s = record { asks = asks_of s.request; told = s.told; version = s.version }

abbrev pub bare_in : Way → Watched → Bare
bare_in v w = bare (stand_in v w)

abbrev pub likeness_in : MarkedMonitor → Way → Likeness
likeness_in x w = record { notation = x.notation; first = is_first w; ago = ago_in w; stands = map_list (stand_in w) x.tables }

-- in which notation, whether it is a first reply with all, how many commits ago the client had what it asks, and how it stands to each table, without names and types
pub record BareLikeness : Type 0 where
  pub notation : Notation
  pub first : Bool
  pub ago : Option ℕ
  pub stands : List Bare

abbrev pub bare_likeness : MarkedMonitor → Way → BareLikeness
bare_likeness x w = record { notation = x.notation; first = is_first w; ago = ago_in w; stands = map_list (bare_in w) x.tables }
