-- The changes between neighbouring contents that are kept, and what undoing them gives.
use Rattle.std.specs.Prelude.{◌≡◌, ℕ, nat_lt, cond, filter, length, List, [], ◌∷◌, Option, Some, None}
use Rattle.odb_atoms.specs.FinMap as map
use Rattle.odb_atoms.specs.Row.{Row}
use Rattle.odb_tables.specs.Change.{Changes, change, changed_row, undone}
use Rattle.odb_tables.specs.Database.{Table, table_at}
use Rattle.odb_chain.specs.Chains.{Chains, Standing, live_at, standing, version}

-- what comes after each version that is kept up to the next one, or up to now, where the table is t now
abbrev pub segments_of : List (ℕ × Standing) → Table → List (ℕ × Changes)
segments_of [] t = []
segments_of (e ∷ []) t = (e.0, change e.1.content t) ∷ []
segments_of (e ∷ f ∷ es) t = (e.0, change e.1.content f.1.content) ∷ segments_of (f ∷ es) t

abbrev pub segments : Chains → ℕ → List (ℕ × Changes)
segments k t = segments_of (map.entries_of (live_at k t)) (table_at k.db t)

-- how many of them begin before now; one that begins now has nothing in it
abbrev pub segments_held : Chains → ℕ → ℕ
segments_held k t = length (filter (λ s. nat_lt s.0 (version k t)) (segments k t))

-- how many contents marks stand for
abbrev pub contents_held : Chains → ℕ → ℕ
contents_held k t = map.len (live_at k t)

-- a content with the segments from a version on undone, the last one first
abbrev pub undone_to : ℕ → List (ℕ × Changes) → Table → Table
undone_to p [] t = t
undone_to p (s ∷ ss) t = cond (nat_lt s.0 p) (undone_to p ss t) (undone (undone_to p ss t) s.1)

-- two changes of a row as one: the old side is the first one's
abbrev pub joined_row : Option (Option Row × Option Row) → Option (Option Row × Option Row) → Option (Option Row × Option Row)
joined_row None d = d
joined_row (Some c) None = Some c
joined_row (Some c) (Some d) = changed_row c.0 d.1

abbrev pub joined : Changes → Changes → Changes
joined = map.combine joined_row

-- undoing from now what came after a mark gives what it stands for
abbrev pub UndoneToMarks : Type 0
UndoneToMarks = (k : Chains) (t p : ℕ) (x : Standing) → standing k t p ≡ Some x → undone_to p (segments k t) (table_at k.db t) ≡ x.content

-- where a mark between them goes, two segments become one
abbrev pub SegmentsJoin : Type 0
SegmentsJoin = (a b c : Table) → joined (change a b) (change b c) ≡ change a c
