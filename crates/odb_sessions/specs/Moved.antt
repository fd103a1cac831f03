-- Marks that are moved to now, and what a client then has.
use Rattle.std.specs.Prelude.{◌≡◌, ℕ, ◌+◌, List, map}
use Rattle.odb_chain.specs.Chains.{Chains, IsNow, Mark, count, mark_of}
use Rattle.odb_cond.specs.Filter.{Filter}
use Rattle.odb_sessions.specs.Marked.{Watched}
use Rattle.odb_service.specs.Session.{filter_of}
use Rattle.odb_sessions.specs.Tied.{KeepsContents, uses}

-- the mark for what its table is now
abbrev pub now_of : Chains → Mark → Mark
now_of k m = mark_of k m.table

abbrev pub all_now : Chains → List Mark → List Mark
all_now k ms = map (now_of k) ms

-- these marks stand for now, and all others for what they did
abbrev pub Moves : Chains → Chains → List Mark → Type 0
Moves old new ms = (new.db ≡ old.db) × (new.versions ≡ old.versions) × ((t p : ℕ) → count old t p + uses t p (all_now old ms) ≡ count new t p + uses t p ms) × KeepsContents old new × (IsNow old → IsNow new)

-- the client has what its table is now, under this filter
abbrev pub told_now : Chains → Filter → Watched → Watched
told_now k f w = record { request = w.request; told = f; mark = now_of k w.mark }

-- under the filter that is asked
abbrev pub brought_to : Chains → Watched → Watched
brought_to k w = told_now k w.request.filter w

-- under the filter that is named for its table, or under the one that is asked where none is
abbrev pub brought_under : Chains → List (List ℕ × Filter) → Watched → Watched
brought_under k fs w = told_now k (filter_of fs w.request.shape.name w.request.filter) w

-- it is asked for under the filter that is named for its table, if one is; what the client was told stays
abbrev pub asked_under : List (List ℕ × Filter) → Watched → Watched
asked_under fs w = record { request = record (w.request) { filter = filter_of fs w.request.shape.name w.request.filter }; told = w.told; mark = w.mark }
