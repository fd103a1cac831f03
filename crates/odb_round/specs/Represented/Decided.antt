-- What was decided in a round, by digests, and what a call changes of that.
use Rattle.std.specs.Prelude.{◌≡◌, ◌≢◌, ◌<◌, ℕ, ◌==◌, if◌then◌else◌, List, [], ◌∷◌, ◌++◌, length, map, slice_get, slice_index_or, Option, Some, unwrap_or, map as map_list, ◌≤◌}
use Rattle.std.specs.BTreeMap as tree
use Rattle.std.specs.List.{All, AllZip}
use Rattle.std.specs.Ordering.{nat_cmp}
use Rattle.odb_atoms.specs.FinMap.{get}
use Rattle.odb_chain.specs.Chains.{Chains}
use Rattle.odb_monitor.specs.Job.{Job}
use Rattle.odb_recent.specs.Undo.{Undo}
use Rattle.odb_schema.specs.Schema.{Schema}
use Rattle.odb_round.specs.Alike.{AreUnlike, IsLike, job_like}
use Rattle.odb_sessions.specs.Alike.{Likeness}
use Rattle.odb_sessions.specs.FirstTexts.{AreFirstTexts, FirstText, IsOfNow}
use Rattle.odb_sessions.specs.Marked.{MarkedSession, Sessions}
use Rattle.odb_round.specs.Jobs.{Decision, IsFor, Shared, if_sent}
use Rattle.odb_round.specs.ByMarks.{contents}
use Rattle.odb_sessions.specs.Represented.Digest.{digest}
use Rattle.odb_round.specs.Represented.Served.{IsAtPlace}
use Rattle.odb_sessions.specs.Watches.{AreAlike, asking_in}
use Rattle.odb_round.specs.Known.{Basis}
use Rattle.odb_round.specs.declared.decided.Decided.{Decided}
use Rattle.odb_recent.specs.Recent.{Recent}
use Rattle.odb_round.specs.OfSchema.{AreOfSchema}
use Rattle.odb_sessions.specs.declared.way.Way.{Way}
use Rattle.odb_sessions.specs.declared.way.Way.TheVariants as way

-- a commit that is found is one of these
abbrev pub IsFoundIn : Recent → Way → Type 0
IsFoundIn r way.First = Unit {0}
IsFoundIn r way.Asked = Unit {0}
IsFoundIn r (way.Changed u) = Unit {0}
IsFoundIn r (way.Again told u) = Unit {0}
IsFoundIn r (way.Since s n) = (s.now ≡ r) × (n ≤ length r.undos)

-- what it asks is of the schema
abbrev pub IsLikenessOf : Schema → Likeness → Type 0
IsLikenessOf s l = AreOfSchema s (map_list (λ t. t.request) l.stands)

-- the decisions that are found by this digest
abbrev pub bucket_at : Decided → ℕ → List Decision
bucket_at d n = unwrap_or (tree.get nat_cmp d.buckets n) []

abbrev pub Differs : Likeness → Decision → Type 0
Differs l d = d.likeness ≢ l

-- what is asked is of the schema
abbrev pub IsDecisionOf : Schema → Decision → Type 0
IsDecisionOf s d = IsLikenessOf s d.likeness

abbrev pub AreDecisionsOf : Schema → Decided → Type 0
AreDecisionsOf s d = (n : ℕ) → All (IsDecisionOf s) (bucket_at d n)

abbrev pub IsAmong : List Decision → Decision → Type 0
IsAmong ds d = (i : ℕ) × (i < length ds) × (d ≡ slice_index_or ds i d)

-- some digest finds it
abbrev pub IsThere : Decided → Decision → Type 0
IsThere d x = (n : ℕ) × IsAmong (bucket_at d n) x

-- with one decision more
abbrev pub Puts : Decided → Decided → Decision → Type 0
Puts old new d = (n : ℕ) → bucket_at new n ≡ (if n == digest d.likeness then bucket_at old n ++ d ∷ [] else bucket_at old n)

abbrev pub IsSame : Decided → Decided → Type 0
IsSame old new = (n : ℕ) → bucket_at new n ≡ bucket_at old n

-- ---- in a round, of the database with its past, where the last commits replaced these

-- the place is that of the job of the likeness
abbrev pub IsDecided : Chains → List Undo → List Job → Decision → Type 0
IsDecided k us js d = IsFor js (if_sent (job_like (contents k) us k.db d.likeness)) d.place

abbrev pub AreDecided : Chains → List Undo → List Job → Decided → Type 0
AreDecided k us js d = (n : ℕ) → All (IsDecided k us js) (bucket_at d n)

-- the likeness that was decided stands at the place
abbrev pub IsPlaced : List Likeness → Decision → Type 0
IsPlaced ls d = IsAtPlace ls d.likeness d.place

abbrev pub ArePlaced : List Likeness → Decided → Type 0
ArePlaced ls d = (n : ℕ) → All (IsPlaced ls) (bucket_at d n)

-- ---- of monitors that are known by numbers

-- it is of the monitor that stands at this place in a session that has this number
abbrev pub IsSharedIn : Sessions → Shared → Type 0
IsSharedIn m e = (s : ℕ) × (x : MarkedSession) × (get m s ≡ Some x) × (x.watch ≡ Some e.watch.0) × (slice_get (asking_in x) e.watch.1 ≡ Some (e.likeness.notation, map (λ t. t.request) e.likeness.stands))

-- the place is that of the job of the likeness
abbrev pub IsPlaceOf : Chains → List Undo → List Job → Likeness → Option ℕ → Type 0
IsPlaceOf k us js l place = IsFor js (if_sent (job_like (contents k) us k.db l)) place

abbrev pub ArePlacesOf : Chains → List Undo → List Job → List Shared → Type 0
ArePlacesOf k us js es = All (λ e. IsPlaceOf k us js e.likeness e.place) es

-- the likeness of each stands at its place
abbrev pub AreSharedPlaced : List Likeness → List Shared → Type 0
AreSharedPlaced ls es = All (λ e. IsAtPlace ls e.likeness e.place) es

abbrev pub AreShared : Basis → Chains → List Undo → List Job → List Shared → Type 0
AreShared g k us js es = AreAlike g.sessions × All (IsSharedIn g.sessions) es × ArePlacesOf k us js es

-- ---- all

-- each likeness of a job is found
abbrev pub AreNoted : List Likeness → Decided → Type 0
AreNoted ls d = (n : ℕ) (l : Likeness) → slice_get ls n ≡ Some l → All (Differs l) (bucket_at d (digest l)) → ⊥

-- all that is so of the jobs of a round
abbrev pub IsPlanned : Chains → List Undo → List FirstText → List Job → List Likeness → Decided → Type 0
IsPlanned k us fs js ls d =
    AreDecided k us js d × AreFirstTexts k.db fs × All (IsOfNow k.db) js × AreNoted ls d × AreUnlike ls × AllZip (IsLike (contents k) us k.db) js ls × ArePlaced ls d
