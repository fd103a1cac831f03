-- A session of which nothing is queued, and whose clients have what their tables are now, is owed nothing.
use Rattle.std.proofs.Common.{◌≡◌, ℕ, zero, suc, ◌<◌, arith, Bool, true, false, List, [], ◌∷◌, flat_map, get_or, length, map, Option, Some, None, refl, sym, ap, subst, ◌∙◌}
use Rattle.std.specs.Prelude.{option_map}
use Rattle.std.specs.Bool.{OnTrue}
use Rattle.std.specs.List.{All, AllByRecursion}
use Rattle.std.specs.Ordering.{nat_cmp}
use Rattle.std.proofs.lemmas.List.Elements.{recursion_from_All}
use Rattle.std.proofs.lemmas.Option.{none-some, same_Some}
use Rattle.odb_atoms.specs.FinMap as finite
use Rattle.odb_chain.specs.Chains.{Chains}
use Rattle.odb_service.specs.Server.{served_by}
use Rattle.odb_service.specs.Service.{Service}
use Rattle.odb_service.specs.Session.{Monitor, Out, Revision, Session, brought, stop_at, take_from, take_rest}
use Rattle.odb_sessions.specs.Book.{Book}
use Rattle.odb_sessions.specs.Composed.{AreNow}
use Rattle.odb_sessions.specs.Marked.{MarkedItem, MarkedMonitor, MarkedSession, Sessions, all_seen, item_seen, marks_in, monitor_of, seen}
use Rattle.odb_sessions.specs.Quiet.{IsQuiet, IsQuietAt}
use Rattle.odb_sessions.specs.Tied.{AreLive}
use Rattle.odb_sessions.proofs.Quiet.{brought_same, nothing_sent}
use Rattle.odb_sessions.proofs.Releases.{live-left, live-right}
use Rattle.odb_sessions.proofs.Ties.{get-seen}
use Rattle.odb_tables.specs.Database.{Db}

pub on_true : (b : Bool) (P : Type 0) → (b ≡ true → P) → OnTrue b P
on_true true P f = f refl
on_true false P f = tt

-- the marks of one monitor of several are live
pub live_at : (k : Chains) (xs : List MarkedMonitor) (i : ℕ) (d : MarkedMonitor) → i < length xs → AreLive k (flat_map marks_in xs) → AreLive k (marks_in (get_or xs i d))
live_at k [] i d low live = absurd (omega (arith, low))
live_at k (x ∷ xs) zero d low live = live-left k (marks_in x) (flat_map marks_in xs) live
live_at k (x ∷ xs) (suc i) d low live = live_at k xs i d (omega (arith, low)) (live-right k (marks_in x) (flat_map marks_in xs) live)

-- ---- nothing is queued

abbrev Rest : Type 0
Rest = Option Out × List Monitor

abbrev Taken : Type 0
Taken = Option Out × Session

rest_quiet : (h : Service) (revision : Revision) (xs : List MarkedMonitor) → AllByRecursion (λ (x : MarkedMonitor). AreNow revision.db x.tables) xs → take_rest h revision (map monitor_of xs) ≡ (None, map monitor_of xs)
rest_quiet h revision [] now = refl
rest_quiet h revision (x ∷ xs) now =
    let m : Monitor = monitor_of x in
    let b : Monitor = brought h revision.db m.watch.requests m in
    let rest : Rest = take_rest h revision (map monitor_of xs) in
    let same : m ≡ b = brought_same h revision.db x now.0 in
    let later : rest ≡ (None, map monitor_of xs) = rest_quiet h revision xs now.1 in
    ap (λ (o : Option Out). let r : Rest = stop_at o (b ∷ map monitor_of xs) (rest.0, b ∷ rest.1) in r) (nothing_sent h revision x now.0)
    ∙ (λ i. let r : Rest = ((later i).0, sym same i ∷ (later i).1) in r)

pub session_quiet : (db : Db) (x : MarkedSession) → x.queue ≡ [] → All (λ (m : MarkedMonitor). AreNow db m.tables) x.monitors → IsQuiet db (seen x)
session_quiet db x none now = (
  ap (map item_seen) none,
  λ s revision is.
      let h : Service = served_by s in
      let ms : List Monitor = map monitor_of x.monitors in
      let rest : take_rest h revision ms ≡ (None, ms) = rest_quiet h revision x.monitors (recursion_from_All (λ (m : MarkedMonitor). AreNow revision.db m.tables) x.monitors (subst (λ (d : Db). All (λ (m : MarkedMonitor). AreNow d m.tables) x.monitors) (sym is) now)) in
      ap (λ (q : List MarkedItem). let r : Taken = take_from h revision (map item_seen q) ms in r) none
      ∙ (λ i. let r : Taken = ((rest i).0, record { queue = []; monitors = (rest i).1 }) in r)
      ∙ ap (λ (q : List MarkedItem). let r : Taken = (None, record { queue = map item_seen q; monitors = ms }) in r) (sym none),
)

-- ---- at a number

-- what the machine has at a number is what is kept there
pub seen_at : (b : Book) (m : Sessions) (s : ℕ) (y : Session) → all_seen m ≡ b.sessions → finite.get b.sessions s ≡ Some y → option_map seen (finite.get m s) ≡ Some y
seen_at b m s y is there = sym (get-seen m s) ∙ ap (λ (n : finite.FinMap nat_cmp Session). finite.get n s) is ∙ there

pub quiet_shut : (b : Book) (m : Sessions) (s : ℕ) → all_seen m ≡ b.sessions → finite.get m s ≡ None → IsQuietAt b s
quiet_shut b m s is none y there = absurd (none-some y (sym (ap (option_map seen) none) ∙ seen_at b m s y is there))

pub quiet_open : (b : Book) (m : Sessions) (s : ℕ) (x : MarkedSession) → all_seen m ≡ b.sessions → finite.get m s ≡ Some x → IsQuiet b.db (seen x) → IsQuietAt b s
quiet_open b m s x is found quiet y there = subst (IsQuiet b.db) (same_Some (seen x) y (sym (ap (option_map seen) found) ∙ seen_at b m s y is there)) quiet
