-- By what number decisions are found: what a hasher makes of what clients ask of each table, with all atoms in its filter, mixed with where they stand.
use Rattle.std.specs.Prelude.{ℕ, ◌+◌, ◌*◌, ◌%◌, ◌^◌, List, [], ◌∷◌, fold, Option, Some, None}
use Rattle.std.specs.Hash.{usize}
use Rattle.std.specs.Hash.DefaultHasher as sip
use Rattle.std.specs.declared.hash.DefaultHasher.{DefaultHasher}
use Rattle.odb_cond.specs.Filter.{Filter, Member, always, when}
use Rattle.odb_request.specs.Request.{Request}
use Rattle.odb_sessions.specs.Alike.{Likeness, Stand}
use Rattle.odb_tables.specs.Represented.Digest.{after_value}

-- the hasher after the atoms in the member
abbrev pub after_member : DefaultHasher → Member → DefaultHasher
after_member h (always b) = h
after_member h (when c) = after_value h c.value

abbrev pub after_filter : DefaultHasher → Filter → DefaultHasher
after_filter h [] = h
after_filter h (m ∷ ms) = after_filter (after_member h m) ms

-- of what is asked of the table at the place under the filter
unfoldable pub asked_digest : ℕ → Filter → ℕ
asked_digest t f = sip.finish (after_filter (fold sip.write sip.initial (usize t)) f)

abbrev pub request_digest : Request → ℕ
request_digest q = asked_digest q.place q.filter

-- an odd number, near 2^64 over the golden ratio
abbrev pub multiplier : ℕ
multiplier = 0x9e3779b97f4a7c15

-- a number of 64 bits that follows from both
abbrev pub mixed : ℕ → ℕ → ℕ
mixed n word = ((n * multiplier) % 2 ^ 64 + word) % 2 ^ 64

abbrev pub after_version : ℕ → Option (ℕ × ℕ) → ℕ
after_version n None = n
after_version n (Some p) = mixed n p.1

abbrev pub after_stand : ℕ → Stand → ℕ
after_stand n s = after_version (mixed n (request_digest s.request)) s.version

abbrev pub after_stands : ℕ → List Stand → ℕ
after_stands n [] = n
after_stands n (s ∷ ss) = after_stands (after_stand n s) ss

abbrev pub after_ago : ℕ → Option ℕ → ℕ
after_ago n None = n
after_ago n (Some k) = mixed n k

unfoldable pub digest : Likeness → ℕ
digest l = after_ago (after_stands 0 l.stands) l.ago
