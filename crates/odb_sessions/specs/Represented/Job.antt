-- What a job stands for: what is composed for the client of a monitor, in each of the ways.
use Rattle.std.specs.Prelude.{◌≡◌, List, [], map, take, Option, Some, None}
use Rattle.odb_monitor.specs.Job.{Job}
use Rattle.odb_request.specs.Request.{Request}
use Rattle.odb_service.specs.Session.{refilter}
use Rattle.odb_sessions.specs.Composed.{all_asked_as, asked_of, first_job, later_job, part_to, resumed_job}
use Rattle.odb_sessions.specs.Filtered.{Filters, all_parts_again}
use Rattle.odb_sessions.specs.Marked.{MarkedMonitor, Watched}
use Rattle.odb_sessions.specs.Represented.Under.{filters_in}
use Rattle.odb_sessions.specs.declared.way.Way.{Way}
use Rattle.odb_sessions.specs.declared.way.Way.TheVariants as way
use Rattle.odb_tables.specs.Database.{Db}

-- the filters under which the client is told, where these may not be those that are asked
abbrev pub filters_by : Way → Option Filters
filters_by way.First = None
filters_by way.Asked = None
filters_by (way.Changed u) = Some (filters_in u)
filters_by (way.Again told u) = Some (filters_in u)
filters_by (way.Since r n) = None

-- what is asked of the tables under these filters, where there are some
abbrev pub asked_by : List Watched → Option Filters → List Request
asked_by ws None = []
asked_by ws (Some fs) = refilter fs (asked_of ws)

-- what is asked of these tables under some filters
abbrev pub AreRefiltered : List Watched → List Request → Type 0
AreRefiltered ws qs = (fs : Filters) × (qs ≡ refilter fs (asked_of ws))

abbrev pub job_in : Db → MarkedMonitor → Way → Job
job_in db x way.First = first_job db x.notation (asked_of x.tables)
job_in db x way.Asked = later_job x.notation (map (part_to db) x.tables)
job_in db x (way.Changed u) = later_job x.notation (map (part_to db) (all_asked_as x.tables (refilter (filters_in u) (asked_of x.tables))))
job_in db x (way.Since r n) = resumed_job (take n r.now.undos) db x.notation (asked_of x.tables)
job_in db x (way.Again told u) = later_job x.notation (all_parts_again db (filters_in told) x.tables (refilter (filters_in u) (asked_of x.tables)))
