-- The first reply to who named a commit is the machine's: what changed since is what leads from the content that the commit made.
use Rattle.std.proofs.Common.{◌≡◌, ℕ, ◌<◌, ◌≤◌, true, false, List, [], ◌∷◌, drop, is_some, length, map, slice_get, take, Option, Some, None, refl, sym, ap, subst, ◌∙◌}
use Rattle.std.specs.Prelude.{IfSome, option_and_then, option_map}
use Rattle.odb_atoms.specs.Uuid.{Uuid}
use Rattle.odb_chain.specs.Chains.{Chains}
use Rattle.odb_monitor.specs.Job.{Part, updates_of}
use Rattle.odb_monitor.specs.Update.{table_updates}
use Rattle.odb_monitor.specs.View.{View, delta, query, selected, shown}
use Rattle.odb_recent.specs.Findable.{content_ago, findable}
use Rattle.odb_recent.specs.Recent.{Recent, commits_ago, number_of}
use Rattle.odb_recent.specs.Undo.{Undo, table_ago}
use Rattle.odb_recent.proofs.Undoing.{contents_are_there, tables_are_those_of_contents}
use Rattle.odb_request.specs.Request.{Notation, Request}
use Rattle.odb_rpc.specs.Since.{since_result}
use Rattle.odb_schema.specs.Json.{Data}
use Rattle.odb_service.specs.Service.{Service}
use Rattle.odb_service.specs.Session as machine
use Rattle.odb_service.specs.Session.{Watch, shapes}
use Rattle.odb_sessions.specs.Book.{revision_at}
use Rattle.odb_sessions.specs.Composed.{AreTheirs, asked_of, part_since, resumed_job, resumed_updates}
use Rattle.odb_sessions.specs.Marked.{MarkedMonitor, Watched, table_marks, watch_of}
use Rattle.odb_round.specs.Planned.{first_due}
use Rattle.odb_round.specs.Sending.{Sending, due_sending, first_job_to, parts_between, replying, sending_ago, sending_since, sent_with, whole_sending}
use Rattle.odb_sessions.specs.Tied.{AreLive}
use Rattle.odb_round.proofs.Composed.{mapped_same, parts_again}
use Rattle.odb_sessions.proofs.Loops.{mapped_twice}
use Rattle.odb_sessions.proofs.Counted.{stands_inside}
use Rattle.odb_tables.specs.Database.{Db, table_at}

-- ---- what is composed

since_asked : (us : List Undo) (db : Db) (qs : List Request) → map (λ (p : Part). p.request) (map (part_since us db) qs) ≡ qs
since_asked us db qs = mapped_twice (λ (p : Part). p.request) (part_since us db) qs ∙ mapped_same qs

since_told : (us : List Undo) (db : Db) (qs : List Request)
    → map (λ (p : Part). p.told) (map (part_since us db) qs) ≡ map (λ (q : Request). selected q (table_ago q.place us (table_at db q.place))) qs
since_told us db qs = mapped_twice (λ (p : Part). p.told) (part_since us db) qs

since_now : (us : List Undo) (db : Db) (qs : List Request) → map (λ (p : Part). p.asked) (map (part_since us db) qs) ≡ query db qs
since_now us db qs = mapped_twice (λ (p : Part). p.asked) (part_since us db) qs

-- something is always sent
pub resumed_composed : (us : List Undo) (db : Db) (n : Notation) (qs : List Request) → updates_of (resumed_job us db n qs) ≡ Some (resumed_updates us db n qs)
resumed_composed us db n qs = λ j. Some (table_updates n false (shapes (since_asked us db qs j)) (shown false (since_asked us db qs j) (delta (since_told us db qs j) (since_now us db qs j))))

-- the parts, by the view that the client has
since_parts : (us : List Undo) (db : Db) (qs : List Request)
    → map (part_since us db) qs ≡ parts_between qs (map (λ (q : Request). selected q (table_ago q.place us (table_at db q.place))) qs) (query db qs)
since_parts us db qs = sym (parts_again (map (part_since us db) qs)) ∙ (λ j. parts_between (since_asked us db qs j) (since_told us db qs j) (since_now us db qs j))

-- ---- the content that a commit made

-- of each of these there is a table
abbrev pub AreThere : Db → List Watched → Type 0
AreThere db [] = Unit {0}
AreThere db (w ∷ ws) = (w.request.place < length db) × AreThere db ws

pub are_there : (k : Chains) (ws : List Watched) → length k.live ≡ length k.db → AreLive k (table_marks ws) → AreTheirs ws → AreThere k.db ws
are_there k [] long live theirs = tt
are_there k (w ∷ ws) long live theirs =
    let low : w.mark.table < length k.live = stands_inside k.live w.mark.table w.mark.version _ live.0.1 in
    (subst (λ n. w.request.place < n) long (subst (λ t. t < length k.live) theirs.0 low), are_there k ws long live.1 theirs.1)

selected_ago : (db : Db) (us : List Undo) (ago : ℕ) (ws : List Watched) → ago ≤ length us → AreThere db ws
    → map (λ (q : Request). selected q (table_ago q.place (take ago us) (table_at db q.place))) (asked_of ws) ≡ query (content_ago db us ago) (asked_of ws)
selected_ago db us ago [] few there = refl
selected_ago db us ago (w ∷ ws) few there =
    let same : table_ago w.request.place (take ago us) (table_at db w.request.place) ≡ table_at (content_ago db us ago) w.request.place = sym (tables_are_those_of_contents db us ago w.request.place few there.0) in
    λ j. selected w.request (same j) ∷ selected_ago db us ago ws few there.1 j

now_first : (db : Db) (us : List Undo) → findable db us ≡ db ∷ drop 1 (findable db us)
now_first db [] = refl
now_first db (u ∷ us) = refl

content_there : (db : Db) (us : List Undo) (ago : ℕ) → ago ≤ length us → slice_get (db ∷ drop 1 (findable db us)) ago ≡ Some (content_ago db us ago)
content_there db us ago few = sym (ap (λ (dbs : List Db). slice_get dbs ago) (now_first db us)) ∙ contents_are_there db us ago few

-- ---- the reply

module _ (h : Service) (r : Recent) (k : Chains) (d : Data) (x : MarkedMonitor) where
  abbrev naming : Option Uuid → Watch
  naming o = record (watch_of x) { since = o }

  abbrev sending_naming : Option Uuid → Sending
  sending_naming o = due_sending h (revision_at k r) (first_due d (naming o))

  -- no commit was named
  pub whole_is : x.since ≡ None → whole_sending k.db d x ≡ sending_naming x.since
  whole_is none = sym (ap sending_naming none)

  abbrev requests : List Request
  requests = asked_of x.tables

  -- the views of the content that was found, if one was
  abbrev held : Option Db → Option View
  held o = option_map (λ db. query db requests) o

  -- the reply to a client that has what the monitor selected of this content, if one was found
  abbrev sending_to : Option Db → Sending
  sending_to o =
      sent_with (replying d (since_result (is_some (held o)) (number_of r.run r.commits)) (first_job_to k.db (watch_of x) (held o)))
      (machine.first_updates h (watch_of x) (held o) (query k.db requests))

  abbrev IsKeptAgo : ℕ → Type 0
  IsKeptAgo ago = ago ≤ length r.undos

  pub since_is : (v : Uuid) → x.since ≡ Some v → IfSome (commits_ago r.most r.run r.commits v) IsKeptAgo → AreThere k.db x.tables → sending_since r k.db d x v ≡ sending_naming x.since
  since_is v some few there = by (commits_ago r.most r.run r.commits v) few ∙ sym (ap sending_naming some)
    where
      number : Uuid
      number = number_of r.run r.commits

      -- what the client was told by then, as the machine has it
      told : (ago : ℕ) → ago ≤ length r.undos
          → map (λ (q : Request). selected q (table_ago q.place (take ago r.undos) (table_at k.db q.place))) requests ≡ query (content_ago k.db r.undos ago) requests
      told ago few = selected_ago k.db r.undos ago x.tables few there

      parts : (ago : ℕ) → ago ≤ length r.undos → map (part_since (take ago r.undos) k.db) requests ≡ parts_between requests (query (content_ago k.db r.undos ago) requests) (query k.db requests)
      parts ago few = since_parts (take ago r.undos) k.db requests ∙ ap (λ V. parts_between requests V (query k.db requests)) (told ago few)

      by : (o : Option ℕ) → IfSome o IsKeptAgo
          → sending_ago r k.db d x o ≡ sending_to (option_and_then (λ ago. slice_get (k.db ∷ drop 1 (findable k.db r.undos)) ago) o)
      by None few = refl
      by (Some ago) few =
          (λ j. sent_with (replying d (since_result true number) (record { notation = x.notation; first = false; reply = true; parts = parts ago few j }))
          (table_updates x.notation false (shapes requests) (shown false requests (delta (told ago few j) (query k.db requests)))))
          ∙ ap sending_to (sym (content_there k.db r.undos ago few))
