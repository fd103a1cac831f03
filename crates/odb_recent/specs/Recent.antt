-- The last commits, and which of them an identifier names. [P 9.8]
use Rattle.std.specs.Prelude.{ℕ, ◌+◌, ◌-◌, ◌*◌, ◌/◌, ◌%◌, ◌^◌, ◌==◌, ◌&&◌, nat_le, nat_lt, cond, take, List, [], ◌∷◌, Option, Some, None}
use Rattle.odb_atoms.specs.Uuid.{Uuid, uuid_from}
use Rattle.odb_recent.specs.Undo.{Undo, undo_of}
use Rattle.odb_tables.specs.Change.{Changes}

-- the word of the run, how many commits there were, how many contents can be found at most, and what the last commits replaced, the newest first
pub record Recent : Type 0 where
  pub run : ℕ
  pub commits : ℕ
  pub most : ℕ
  pub undos : List Undo

abbrev pub recent_of : ℕ → ℕ → Recent
recent_of run most = record { run = run; commits = 0; most = most; undos = [] }

-- the identifier of a commit: above, the word of the run, below, the commit's number
abbrev pub number_of : ℕ → ℕ → Uuid
number_of run k = uuid_from (run * 2 ^ 64 + k)

-- how many commits ago the one was that an identifier names, if it is one of the last of this run; there is no commit 0
abbrev pub commits_ago : ℕ → ℕ → ℕ → Uuid → Option ℕ
commits_ago most run commits v =
    let k = v.number % 2 ^ 64 in
    cond (v.number / 2 ^ 64 == run && nat_le 1 k && nat_le k commits && nat_lt (commits - k) most) (Some (commits - k)) None

-- what is kept of a change: with one content or none there is nothing to go back to
abbrev pub kept_undo : ℕ → List Changes → Undo
kept_undo most cs = cond (nat_lt most 2) [] (undo_of cs)

-- with one commit more
abbrev pub noted : Undo → Recent → Recent
noted u r = record r { commits = r.commits + 1; undos = take (r.most - 1) (u ∷ r.undos) }

-- with a commit of a change
abbrev pub committed : List Changes → Recent → Recent
committed cs r = noted (kept_undo r.most cs) r
