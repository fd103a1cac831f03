-- Filters in place of those that a monitor asks, and what its client is told under them. [P 9.5]
use Rattle.std.specs.Prelude.{List, [], ℕ, ◌∷◌}
use Rattle.odb_cond.specs.Filter.{Filter}
use Rattle.odb_monitor.specs.Job.{Part}
use Rattle.odb_monitor.specs.View.{selected}
use Rattle.odb_request.specs.Request.{Request}
use Rattle.odb_service.specs.Session.{filter_of}
use Rattle.odb_sessions.specs.Marked.{Watched}
use Rattle.odb_tables.specs.Database.{Db, table_at}

-- filters by the names of their tables, in place of those that a monitor asks of these
abbrev pub Filters : Type 0
Filters = List (List ℕ × Filter)

abbrev pub asked_under : Filters → Request → Request
asked_under fs q = record q { filter = filter_of fs q.shape.name q.filter }

-- of a table what a client has that was told of it as it is now, under these filters, and what it is to have by the request
abbrev pub part_again : Db → Filters → Watched → Request → Part
part_again db told w q = record {
  request = q;
  told = selected (record q { filter = filter_of told w.request.shape.name w.request.filter }) (table_at db w.request.place);
  asked = selected q (table_at db w.request.place);
}

abbrev pub all_parts_again : Db → Filters → List Watched → List Request → List Part
all_parts_again db told [] qs = []
all_parts_again db told (w ∷ ws) [] = []
all_parts_again db told (w ∷ ws) (q ∷ qs) = part_again db told w q ∷ all_parts_again db told ws qs
