-- The job of a monitor in a way is that of its likeness.
use Rattle.std.proofs.Common.{◌≡◌, ℕ, true, Bor, List, [], ◌∷◌, map, take, refl, sym, ap, true≢false}
use Rattle.std.specs.Prelude.{option_map, unwrap_or}
use Rattle.odb_atoms.specs.FinMap as finite
use Rattle.odb_chain.specs.Chains.{Chains, IsLive, Mark, Standing}
use Rattle.odb_cond.specs.Filter.{Filter}
use Rattle.odb_monitor.specs.Job.{Job, Part}
use Rattle.odb_monitor.specs.View.{selected}
use Rattle.odb_recent.specs.Recent.{Recent}
use Rattle.odb_request.specs.Request.{Request}
use Rattle.odb_service.specs.Session.{filter_of, refilter}
use Rattle.odb_round.specs.Alike.{IsOfCommits, IsOfRequests, job_like, part_told, stand_first}
use Rattle.odb_sessions.specs.Alike.{Stand}
use Rattle.odb_sessions.specs.Composed.{all_asked_as, asked_of, first_part, later_job, part_to, resumed_job}
use Rattle.odb_sessions.specs.Filtered.{all_parts_again, asked_under}
use Rattle.odb_sessions.specs.Marked.{MarkedMonitor, Watched, marks_in, table_marks}
use Rattle.odb_round.specs.Represented.Decided.{IsFoundIn}
use Rattle.odb_sessions.specs.Represented.Alike.{likeness_in, stand_in}
use Rattle.odb_round.specs.ByMarks.{contents}
use Rattle.odb_sessions.specs.Represented.Job.{job_in}
use Rattle.odb_sessions.specs.Represented.Under.{filters_in}
use Rattle.odb_sessions.specs.Tied.{AreLive}
use Rattle.odb_sessions.specs.declared.under.Under.{Under}
use Rattle.odb_sessions.specs.declared.way.Way.{Way}
use Rattle.odb_sessions.specs.declared.way.Way.TheVariants as way
use Rattle.odb_tables.specs.Database.{Db, Table, table_at}

abbrev part_of : Chains → Stand → Part
part_of k s = part_told (contents k) k.db s.request s.version s.told

-- the content of a live mark
live_content : (k : Chains) (m : Mark) → IsLive k m → m.content ≡ contents k m.table m.version
live_content k m (n, is) = sym (ap (λ o. unwrap_or (option_map (λ (s : Standing). s.content) o) finite.empty) is)

abbrev part_so : Db → Request → Filter → Table → Part
part_so db q told content = record { request = q; told = selected (record q { filter = told }) content; asked = selected q (table_at db q.place) }

first_parts : (k : Chains) (ws : List Watched) → map (first_part k.db) (asked_of ws) ≡ map (part_of k) (map (stand_in way.First) ws)
first_parts k [] = refl
first_parts k (w ∷ ws) = ap (λ (ps : List Part). first_part k.db w.request ∷ ps) (first_parts k ws)

asked_parts : (k : Chains) (ws : List Watched) → AreLive k (table_marks ws) → map (part_to k.db) ws ≡ map (part_of k) (map (stand_in way.Asked) ws)
asked_parts k [] live = refl
asked_parts k (w ∷ ws) live = λ i. part_so k.db w.request w.told (live_content k w.mark live.0 i) ∷ asked_parts k ws live.1 i

changed_parts : (k : Chains) (u : Under) (ws : List Watched) → AreLive k (table_marks ws)
    → map (part_to k.db) (all_asked_as ws (refilter (filters_in u) (asked_of ws))) ≡ map (part_of k) (map (stand_in (way.Changed u)) ws)
changed_parts k u [] live = refl
changed_parts k u (w ∷ ws) live = λ i. part_so k.db (asked_under (filters_in u) w.request) w.told (live_content k w.mark live.0 i) ∷ changed_parts k u ws live.1 i

again_parts : (k : Chains) (told u : Under) (ws : List Watched)
    → all_parts_again k.db (filters_in told) ws (refilter (filters_in u) (asked_of ws)) ≡ map (part_of k) (map (stand_in (way.Again told u)) ws)
again_parts k told u [] = refl
again_parts k told u (w ∷ ws) =
    ap (λ (ps : List Part). part_so k.db (asked_under (filters_in u) w.request) (filter_of (filters_in told) w.request.shape.name w.request.filter) (table_at k.db w.request.place) ∷ ps) (again_parts k told u ws)

since_asked : (r : Bor Recent) (n : ℕ) (ws : List Watched) → asked_of ws ≡ map (λ (s : Stand). s.request) (map (stand_in (way.Since r n)) ws)
since_asked r n [] = refl
since_asked r n (w ∷ ws) = ap (λ (qs : List Request). w.request ∷ qs) (since_asked r n ws)

pub like_job : (k : Chains) (r : Recent) (x : MarkedMonitor) (w : Way) → IsFoundIn r w → AreLive k (marks_in x) → job_in k.db x w ≡ job_like (contents k) r.undos k.db (likeness_in x w)
like_job k r x way.First own live = λ i. let j : Job = record { notation = x.notation; first = true; reply = true; parts = first_parts k x.tables i } in j
like_job k r x way.Asked own live = λ i. later_job x.notation (asked_parts k x.tables live i)
like_job k r x (way.Changed u) own live = λ i. later_job x.notation (changed_parts k u x.tables live i)
like_job k r x (way.Again told u) own live = λ i. later_job x.notation (again_parts k told u x.tables i)
like_job k r x (way.Since s n) own live = λ i. resumed_job (take n (own.0 i).undos) k.db x.notation (since_asked s n x.tables i)

first_stands : (ws : List Watched) → map (stand_in way.First) ws ≡ map (λ (s : Stand). stand_first s.request) (map (stand_in way.First) ws)
first_stands [] = refl
first_stands (w ∷ ws) = ap (λ (ss : List Stand). stand_in way.First w ∷ ss) (first_stands ws)

since_stands : (r : Bor Recent) (n : ℕ) (ws : List Watched) → map (stand_in (way.Since r n)) ws ≡ map (λ (s : Stand). stand_first s.request) (map (stand_in (way.Since r n)) ws)
since_stands r n [] = refl
since_stands r n (w ∷ ws) = ap (λ (ss : List Stand). stand_in (way.Since r n) w ∷ ss) (since_stands r n ws)

pub of_requests : (x : MarkedMonitor) (w : Way) → IsOfRequests (likeness_in x w)
of_requests x way.First e = first_stands x.tables
of_requests x way.Asked e = absurd (true≢false (sym e))
of_requests x (way.Changed u) e = absurd (true≢false (sym e))
of_requests x (way.Again told u) e = absurd (true≢false (sym e))
of_requests x (way.Since r n) e = since_stands r n x.tables

pub of_commits : (r : Recent) (x : MarkedMonitor) (w : Way) → IsFoundIn r w → IsOfCommits r.undos (likeness_in x w)
of_commits r x way.First own = tt
of_commits r x way.Asked own = tt
of_commits r x (way.Changed u) own = tt
of_commits r x (way.Again told u) own = tt
of_commits r x (way.Since s n) own = (refl, own.1)
