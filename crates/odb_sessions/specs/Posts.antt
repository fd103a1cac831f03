-- What sessions become by items that are posted, and by posts that are taken back.
use Rattle.std.specs.Prelude.{ℕ, List, [], ◌∷◌, ◌++◌, fold, Option, Some, None, option_and_then}
use Rattle.std.specs.Ordering.{nat_cmp}
use Rattle.odb_atoms.specs.FinMap.{FinMap, get, insert}
use Rattle.odb_sessions.specs.Newest.{without_last}
use Rattle.odb_service.specs.Session.{Item, Session}
use Rattle.odb_service.specs.World.{push}
use Rattle.odb_sessions.specs.Marked.{MarkedItem, MarkedSession, plain}

-- f of what stands at a number, if something does
abbrev pub at_number : {X : Type 0} → (X → X) → FinMap nat_cmp X → ℕ → FinMap nat_cmp X
at_number {X} f m s = elim (get m s) as (λ _. FinMap nat_cmp X) [ None ↦ m | Some x ↦ insert m s (f x) ]

-- each item goes to the end of its session's queue, if the session is open
abbrev pub posted : FinMap nat_cmp Session → ℕ × Item → FinMap nat_cmp Session
posted m p = at_number (push (p.1 ∷ [])) m p.0

abbrev pub all_posted : FinMap nat_cmp Session → List (ℕ × Item) → FinMap nat_cmp Session
all_posted = fold posted

-- the newest items of these sessions go, that of the last session first
abbrev pub unposted : List ℕ → FinMap nat_cmp Session → FinMap nat_cmp Session
unposted [] m = m
unposted (s ∷ ss) m = at_number without_last (unposted ss m) s

-- ---- the same of sessions with marks

abbrev pub newest : List MarkedItem → Option MarkedItem
newest [] = None
newest (q ∷ []) = Some q
newest (q ∷ r ∷ qs) = newest (r ∷ qs)

abbrev pub but_newest : List MarkedItem → List MarkedItem
but_newest [] = []
but_newest (q ∷ []) = []
but_newest (q ∷ r ∷ qs) = q ∷ but_newest (r ∷ qs)

abbrev pub with_items : List MarkedItem → MarkedSession → MarkedSession
with_items qs x = record { queue = x.queue ++ qs; monitors = x.monitors; watch = x.watch }

abbrev pub with_item : MarkedItem → MarkedSession → MarkedSession
with_item q = with_items (q ∷ [])

abbrev pub without_newest : MarkedSession → MarkedSession
without_newest x = record { queue = but_newest x.queue; monitors = x.monitors; watch = x.watch }

-- the newest item of a session's queue
abbrev pub newest_at : FinMap nat_cmp MarkedSession → ℕ → Option MarkedItem
newest_at m s = option_and_then (λ x. newest x.queue) (get m s)

abbrev pub marked_posted : FinMap nat_cmp MarkedSession → ℕ × Item → FinMap nat_cmp MarkedSession
marked_posted m p = at_number (with_item (plain p.1)) m p.0

abbrev pub all_marked_posted : FinMap nat_cmp MarkedSession → List (ℕ × Item) → FinMap nat_cmp MarkedSession
all_marked_posted = fold marked_posted

abbrev pub marked_unposted : List ℕ → FinMap nat_cmp MarkedSession → FinMap nat_cmp MarkedSession
marked_unposted [] m = m
marked_unposted (s ∷ ss) m = at_number without_newest (marked_unposted ss m) s
