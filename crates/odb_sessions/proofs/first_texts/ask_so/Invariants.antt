use Rattle.std.proofs.Common.{◌≡◌, take}
use Rattle.odb_sessions.specs.Composed.{asked_of}
use Rattle.odb_sessions.proofs.first_texts.ask_so.Given as goal

abbrev pub invariant-loop-place : goal.invariant-loop-place
invariant-loop-place l = take l.place l.requests ≡ asked_of (take l.place l.tables)
