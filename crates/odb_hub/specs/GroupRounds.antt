-- Rounds of some sessions.
use Rattle.std.specs.Prelude.{◌≡◌, ℕ, length, slice_get, take, List, Option}
use Rattle.std.specs.BTreeSet.{BTreeSet}
use Rattle.odb_atoms.specs.FinMap.{get}
use Rattle.odb_core.specs.Represented.Core.{IsQuietBut}
use Rattle.odb_service.specs.Run.{round}
use Rattle.odb_hub.specs.Guarded.{Guarded, Takes}
use Rattle.odb_hub.specs.Rings.{HandsOver, IsFlushedAt, Rings, Text, ready_among, texts_to}

-- First what is held back is sent, where there is room for it. Then a round lists so many at most of those for which nothing is held back, from a number on, among some but which all are owed nothing; it gives so many messages, which are handed over. The next is the first that was left out
abbrev pub TakesRound : ℕ → ℕ → ℕ → Option ℕ → Guarded → Guarded → Type 0
TakesRound from most given next old new =
    (owed : BTreeSet ℕ) × (flushed : Rings) × (outs : List (ℕ × Text))
    × IsQuietBut owed old.server × ((s : ℕ) → IsFlushedAt (get old.rings s) (get flushed s))
    × Takes (round (take most (ready_among owed from flushed))) old new outs × (given ≡ length outs) × (next ≡ slice_get (ready_among owed from flushed) most)
    × ((s : ℕ) → HandsOver (get flushed s) (texts_to s outs) (get new.rings s))
