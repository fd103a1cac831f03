-- The jobs of a monitor in each of the ways.
use Rattle.std.proofs.Common.{◌≡◌, Bool, true, false, List, [], map, Option, Some, None, is_some, sym, ap, true≢false}
use Rattle.odb_request.specs.Request.{Request}
use Rattle.odb_sessions.specs.Composed.{all_asked_as, later_job, part_to}
use Rattle.odb_sessions.specs.Filtered.{Filters, all_parts_again}
use Rattle.odb_sessions.specs.Marked.{MarkedMonitor, Watched}
use Rattle.odb_sessions.specs.Represented.Job.{AreRefiltered, asked_by, filters_by, job_in}
use Rattle.odb_sessions.specs.Represented.Under.{filters_in}
use Rattle.odb_sessions.specs.declared.way.Way.{Way}
use Rattle.odb_sessions.specs.declared.way.Way.TheVariants as way
use Rattle.odb_tables.specs.Database.{Db}

abbrev pub is_changed : Way → Bool
is_changed way.First = false
is_changed way.Asked = false
is_changed (way.Changed u) = true
is_changed (way.Again told u) = false
is_changed (way.Since r n) = false

abbrev pub is_again : Way → Bool
is_again way.First = false
is_again way.Asked = false
is_again (way.Changed u) = false
is_again (way.Again told u) = true
is_again (way.Since r n) = false

-- the filters under which the client was told
abbrev pub told_by : Way → Filters
told_by way.First = []
told_by way.Asked = []
told_by (way.Changed u) = []
told_by (way.Again told u) = filters_in told
told_by (way.Since r n) = []

pub refiltered : (w : Way) (ws : List Watched) (qs : List Request) → is_some (filters_by w) ≡ true → qs ≡ asked_by ws (filters_by w) → AreRefiltered ws qs
refiltered w ws qs some e = by (filters_by w) some e
  where
    by : (o : Option Filters) → is_some o ≡ true → qs ≡ asked_by ws o → AreRefiltered ws qs
    by None some e = absurd (true≢false (sym some))
    by (Some fs) some e = (fs, e)

module _ (db : Db) (x : MarkedMonitor) where
  pub changed_is : (w : Way) (qs : List Request) → is_changed w ≡ true → qs ≡ asked_by x.tables (filters_by w) → later_job x.notation (map (part_to db) (all_asked_as x.tables qs)) ≡ job_in db x w
  changed_is way.First qs is e = absurd (true≢false (sym is))
  changed_is way.Asked qs is e = absurd (true≢false (sym is))
  changed_is (way.Changed u) qs is e = ap (λ (rs : List Request). later_job x.notation (map (part_to db) (all_asked_as x.tables rs))) e
  changed_is (way.Again told u) qs is e = absurd (true≢false (sym is))
  changed_is (way.Since r n) qs is e = absurd (true≢false (sym is))

  pub again_is : (w : Way) (gs : Filters) (qs : List Request) → is_again w ≡ true → gs ≡ told_by w → qs ≡ asked_by x.tables (filters_by w) → later_job x.notation (all_parts_again db gs x.tables qs) ≡ job_in db x w
  again_is way.First gs qs is told e = absurd (true≢false (sym is))
  again_is way.Asked gs qs is told e = absurd (true≢false (sym is))
  again_is (way.Changed u) gs qs is told e = absurd (true≢false (sym is))
  again_is (way.Again t u) gs qs is told e = λ i. later_job x.notation (all_parts_again db (told i) x.tables (e i))
  again_is (way.Since r n) gs qs is told e = absurd (true≢false (sym is))
