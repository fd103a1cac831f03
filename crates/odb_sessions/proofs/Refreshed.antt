-- A session to which nothing is owed, whose clients have what their tables are now: it is the same.
use Rattle.std.proofs.Common.{◌≡◌, ℕ, zero, suc, List, [], ◌∷◌, Option, Some, None, refl, sym, ap, ◌∙◌}
use Rattle.std.proofs.lemmas.Option.{none-some}
use Rattle.odb_chain.specs.Chains.{Chains}
use Rattle.odb_service.specs.Server.{served_by}
use Rattle.odb_service.specs.Service.{Service}
use Rattle.odb_service.specs.Session.{Item, Monitor, Out, Revision, Session, brought, nothing_earlier, stop_at, take_from, take_rest, update_to}
use Rattle.odb_service.proofs.SessionMaps.{same_map}
use Rattle.odb_sessions.specs.Book.{Book}
use Rattle.odb_sessions.specs.Carried.{used_by, first_brought}
use Rattle.odb_sessions.specs.Marked.{Sessions, all_seen}
use Rattle.odb_sessions.specs.Owed.{book_seen}
use Rattle.odb_sessions.specs.Posts.{at_number}
use Rattle.odb_sessions.specs.Quiet.{IsQuiet, IsQuietAt}
use Rattle.odb_sessions.proofs.AnySchema.{no_schema}
use Rattle.odb_sessions.proofs.StillQuiet.{same_at}

abbrev Rest : Type 0
Rest = Option Out × List Monitor

abbrev first_of : Monitor → List Monitor → Monitor
first_of m [] = m
first_of m (n ∷ ns) = n

abbrev rest_of : List Monitor → List Monitor
rest_of [] = []
rest_of (n ∷ ns) = ns

-- where nothing is given, neither the first monitor changes nor the rest
none_given : (o : Option Out) (b m : Monitor) (ms : List Monitor) (r : Rest) → stop_at o (b ∷ ms) (r.0, b ∷ r.1) ≡ (None, m ∷ ms) → (b ≡ m) × (r.0 ≡ None) × (r.1 ≡ ms)
none_given None b m ms r e = (ap (λ (t : Rest). first_of m t.1) e, ap (λ (t : Rest). t.0) e, ap (λ (t : Rest). rest_of t.1) e)
none_given (Some x) b m ms r e = absurd (none-some x (sym (ap (λ (t : Rest). t.0) e)))

first_same : (h : Service) (revision : Revision) (n : ℕ) (ms : List Monitor) → (take_rest h revision ms).0 ≡ None → (take_rest h revision ms).1 ≡ ms → first_brought h revision.db n ms ≡ ms
first_same h revision zero ms none same = refl
first_same h revision (suc n) [] none same = refl
first_same h revision (suc n) (m ∷ ms) none same =
    let r : Rest = take_rest h revision ms in
    let e : stop_at (update_to h revision m.watch.requests m) (brought h revision.db m.watch.requests m ∷ ms) (r.0, brought h revision.db m.watch.requests m ∷ r.1) ≡ (None, m ∷ ms) = λ i. (none i, same i) in
    let g : (brought h revision.db m.watch.requests m ≡ m) × (r.0 ≡ None) × (r.1 ≡ ms) = none_given (update_to h revision m.watch.requests m) (brought h revision.db m.watch.requests m) m ms r e in
    λ i. g.0 i ∷ first_same h revision n ms g.1 g.2 i

used_same : (h : Service) (revision : Revision) (n : ℕ) (x : Session) → x.queue ≡ [] → take_from h revision x.queue x.monitors ≡ (None, x) → used_by h revision.db 0 n x ≡ x
used_same h revision n x queue taken =
    let t : take_from h revision [] x.monitors ≡ (None, x) = ap (λ (is : List Item). take_from h revision is x.monitors) (sym queue) ∙ taken in
    let none : (take_rest h revision x.monitors).0 ≡ None = ap (λ (p : Option Out × Session). p.0) t in
    let same : (take_rest h revision x.monitors).1 ≡ x.monitors = ap (λ (p : Option Out × Session). p.1.monitors) t in
    λ i. record { queue = x.queue; monitors = first_same h revision n x.monitors none same i }

pub refreshed : (k : Chains) (m : Sessions) (s n : ℕ) → IsQuietAt (book_seen k m) s → (let b : Book = record (book_seen k m) { sessions = at_number (used_by (served_by no_schema) k.db 0 n) (all_seen m) s } in b) ≡ book_seen k m
refreshed k m s n quiet =
    let same = same_map (at_number (used_by (served_by no_schema) k.db 0 n) (all_seen m) s) (all_seen m)
    (λ q. same_at (used_by (served_by no_schema) k.db 0 n) (all_seen m) s q (λ x there here. let h : IsQuiet k.db x = quiet x there in let r : Revision = record { db = k.db; commits = 0; earlier = nothing_earlier 0 0 } in used_same (served_by no_schema) r n x h.0 (h.1 no_schema r refl))) in
    λ i. record (book_seen k m) { sessions = same i }
