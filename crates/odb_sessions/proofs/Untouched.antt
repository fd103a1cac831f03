-- A change that touches nothing of what a session's monitors ask leaves it owed nothing.
use Rattle.std.proofs.Common.{◌≡◌, ℕ, zero, suc, ◌==◌, arith, Bool, true, false, ◌||◌, List, [], ◌∷◌, length, Option, Some, None, refl, sym, ap, ◌∙◌, true≢false}
use Rattle.std.specs.Prelude.{flat_map, slice_get, unwrap_or}
use Rattle.std.specs.BTreeSet.{BTreeSet}
use Rattle.std.specs.List.{list_any}
use Rattle.std.specs.Ordering.{eq_by_cmp, nat_cmp}
use Rattle.std.proofs.lemmas.List.Folds.{list_any-append}
use Rattle.odb_atoms.specs.FinMap as finite
use Rattle.odb_atoms.specs.Uuid.{uuid_cmp}
use Rattle.odb_atoms.proofs.Atoms.{uuid_cmp_total, uuid_cmp-IsAntisymmetric}
use Rattle.odb_atoms.proofs.FinMaps.{get-combine, get-empty, same_map}
use Rattle.odb_chain.specs.Chains.{Chains, absorbed}
use Rattle.odb_interest.specs.Keys.{Asked, Interests, asked_at, change_at, is_hit, is_touched}
use Rattle.odb_interest.specs.Unhit as table
use Rattle.odb_interest.proofs.Unselected.{unhit_stays}
use Rattle.odb_monitor.specs.View.{View, cut, delta, query, selected, shown}
use Rattle.odb_request.specs.Request.{Request}
use Rattle.odb_service.specs.Server.{served_by}
use Rattle.odb_service.specs.Service.{Service}
use Rattle.odb_service.specs.Session.{Item, Monitor, Out, Revision, Session, stop_at, take, take_from, take_rest, told_of}
use Rattle.odb_service.proofs.SessionMaps.{other}
use Rattle.odb_tables.specs.Change.{Changes, after, all_changed_by, before, changed_by}
use Rattle.odb_tables.specs.Database.{Db, table_at}
use Rattle.odb_tables.specs.Installing.{IsChangeOf}
use Rattle.odb_sessions.specs.Book.{Book}
use Rattle.odb_sessions.specs.Marked.{Sessions}
use Rattle.odb_sessions.specs.Owed.{AreAdded, AreAtRest, IsAtRest, book_seen, interest_if, interest_in, interest_of, is_among}
use Rattle.odb_sessions.specs.Quiet.{IsQuiet}
use Rattle.odb_sessions.proofs.OwedSessions.{changed_rest}

-- ---- what the change is at one table

table_changed : (db : Db) (cs : List Changes) (t : ℕ) → length cs ≡ length db → table_at (all_changed_by db cs) t ≡ changed_by (table_at db t) (change_at cs t)
table_changed [] [] t e =
    sym (same_map uuid_cmp_total uuid_cmp-IsAntisymmetric (changed_by finite.empty finite.empty) finite.empty
    (λ u.
    get-combine uuid_cmp_total uuid_cmp-IsAntisymmetric after refl finite.empty finite.empty u
    ∙ (λ i. after (get-empty uuid_cmp u i) (get-empty uuid_cmp u i)) ∙ sym (get-empty uuid_cmp u)))
table_changed [] (c ∷ cs) t e = absurd (omega (arith, e))
table_changed (x ∷ db) [] t e = absurd (omega (arith, e))
table_changed (x ∷ db) (c ∷ cs) zero e = refl
table_changed (x ∷ db) (c ∷ cs) (suc t) e = table_changed db cs t (omega (arith, e))

change_of : (db : Db) (cs : List Changes) (t : ℕ) → IsChangeOf db cs → table.IsChangeOf (table_at db t) (change_at cs t)
change_of db cs t is u = by (slice_get cs t) refl
  where
    by : (o : Option Changes) → slice_get cs t ≡ o → before (finite.get (table_at db t) u) (finite.get (unwrap_or o finite.empty) u) ≡ finite.get (table_at db t) u
    by None e = ap (before (finite.get (table_at db t) u)) (get-empty uuid_cmp u)
    by (Some c) e = is.1 t c e u

-- ---- what these requests select stays

both_false : (a b : Bool) → (a || b) ≡ false → (a ≡ false) × (b ≡ false)
both_false true b e = absurd (true≢false e)
both_false false b e = (refl, e)

module _ (revision : Revision) (cs : List Changes) (is : IsChangeOf revision.db cs) where
  selected_stays : (q : Request) → is_hit (change_at cs q.place) q.filter ≡ false → selected q (table_at (all_changed_by revision.db cs) q.place) ≡ selected q (table_at revision.db q.place)
  selected_stays q miss =
      ap (selected q) (table_changed revision.db cs q.place is.0)
      ∙ unhit_stays q.filter (table_at revision.db q.place) (change_at cs q.place) (change_of revision.db cs q.place is) miss (cut q.shape.columns)

  query_stays : (qs : List Request) → is_touched cs (interest_in qs) ≡ false → query (all_changed_by revision.db cs) qs ≡ query revision.db qs
  query_stays [] e = refl
  query_stays (q ∷ qs) e =
      let h : (is_hit (change_at cs q.place) q.filter ≡ false) × (is_touched cs (interest_in qs) ≡ false) = both_false (is_hit (change_at cs q.place) q.filter) (is_touched cs (interest_in qs)) e in
      λ i. selected_stays q h.0 i ∷ query_stays qs h.1 i

  -- ---- so does a taking with an empty queue

  abbrev Rest : Type 0
  Rest = Option Out × List Monitor

  abbrev Taken : Type 0
  Taken = Option Out × Session

  -- by what a first monitor's requests select
  abbrev taken_by : Service → Monitor → View → List Monitor → Rest → Rest
  taken_by h m v ms rest =
      let n : Monitor = record m { view = v } in
      stop_at (told_of h revision m.watch m.watch.requests (shown false m.watch.requests (delta m.view v))) (n ∷ ms) (rest.0, n ∷ rest.1)

  abbrev interest_all : List Monitor → List Asked
  interest_all ms = flat_map (λ m. interest_in m.watch.requests) ms

  one_by_one : (m : Monitor) (ms : List Monitor) → is_touched cs (interest_all (m ∷ ms)) ≡ false → (is_touched cs (interest_in m.watch.requests) ≡ false) × (is_touched cs (interest_all ms) ≡ false)
  one_by_one m ms e =
      both_false (is_touched cs (interest_in m.watch.requests)) (is_touched cs (interest_all ms))
      (sym (list_any-append (λ (a : Asked). is_hit (change_at cs a.0) a.1) (interest_in m.watch.requests) (interest_all ms)) ∙ e)

  -- after the change
  abbrev later : Revision
  later = record revision { db = all_changed_by revision.db cs }

  rest_stays : (h : Service) (ms : List Monitor) → is_touched cs (interest_all ms) ≡ false → take_rest h later ms ≡ take_rest h revision ms
  rest_stays h [] e = refl
  rest_stays h (m ∷ ms) e =
      let f : (is_touched cs (interest_in m.watch.requests) ≡ false) × (is_touched cs (interest_all ms) ≡ false) = one_by_one m ms e in
      λ i. taken_by h m (query_stays m.watch.requests f.0 i) ms (rest_stays h ms f.1 i)

  takes_nothing : (h : Service) (x : Session) → is_touched cs (interest_of x) ≡ false → x.queue ≡ [] → take h revision x ≡ (None, x) → take h later x ≡ (None, x)
  takes_nothing h x e empty none =
      let ms : List Monitor = x.monitors in
      let rest : take_rest h later ms ≡ take_rest h revision ms = rest_stays h ms e in
      ap (λ (is : List Item). let r : Taken = take_from h later is ms in r) empty
      ∙ (λ i. let r : Taken = ((rest i).0, record { queue = []; monitors = (rest i).1 }) in r)
      ∙ sym (ap (λ (is : List Item). let r : Taken = take_from h revision is ms in r) empty)
      ∙ none

still_quiet : (db : Db) (cs : List Changes) → IsChangeOf db cs → (x : Session) → is_touched cs (interest_of x) ≡ false → IsQuiet db x → IsQuiet (all_changed_by db cs) x
still_quiet db cs is x e quiet = (
  quiet.0,
  λ s revision now.
      let h : Service = served_by s in
      let before : Revision = record revision { db = db } in
      ap (λ (d : Db). let v : Revision = record revision { db = d } in take h v x) now
      ∙ takes_nothing before cs is h x e quiet.0 (quiet.1 s before refl),
)

-- ---- those that aren't named

-- who isn't one of these sessions isn't one by the other test
not_among : (q : ℕ) (ss : List ℕ) → is_among q ss ≡ false → list_any (λ s. s == q) ss ≡ false
not_among q [] e = refl
not_among q (s ∷ ss) e =
    let h : (eq_by_cmp nat_cmp q s ≡ false) × (is_among q ss ≡ false) = both_false (eq_by_cmp nat_cmp q s) (is_among q ss) e in
    (λ i. other q s h.0 i || not_among q ss h.1 i)

-- these are the sessions of which the change touches what the index says that they ask
abbrev pub AreTouched : List Changes → Interests → List ℕ → Type 0
AreTouched cs i ss = (s : ℕ) → list_any (λ t. t == s) ss ≡ is_touched cs (asked_at i s)

untouched_rest : (i : Interests) (b : Book) (cs : List Changes) (ss : List ℕ) → IsChangeOf b.db cs → AreTouched cs i ss → (s : ℕ) → is_among s ss ≡ false → IsAtRest i b s → IsAtRest i (record b { db = all_changed_by b.db cs }) s
untouched_rest i b cs ss is touched s out rest = (
  λ x there.
      let miss : is_touched cs (interest_of x) ≡ false = ap (is_touched cs) (sym (rest.1 ∙ ap interest_if there)) ∙ sym (touched s) ∙ not_among s ss out in
      still_quiet b.db cs is x miss (rest.0 x there),
  rest.1,
)

pub touched_rest : (o o' : BTreeSet ℕ) (i : Interests) (b : Book) (cs : List Changes) (ss : List ℕ) → AreAtRest o i b → AreAdded o o' ss → IsChangeOf b.db cs → AreTouched cs i ss → AreAtRest o' i (record b { db = all_changed_by b.db cs })
touched_rest o o' i b cs ss before noted is touched = changed_rest o o' i b (record b { db = all_changed_by b.db cs }) ss before noted (untouched_rest i b cs ss is touched)

-- the book after the change, where it was the same before it
pub book_after : (k new before : Chains) (m n : Sessions) (cs : List Changes) → new ≡ absorbed cs before → book_seen before n ≡ book_seen k m → book_seen new n ≡ (let b : Book = record (book_seen k m) { db = all_changed_by k.db cs } in b)
book_after k new before m n cs done same = (λ j. book_seen (done j) n) ∙ ap (λ (x : Book). let y : Book = record x { db = all_changed_by x.db cs } in y) same
