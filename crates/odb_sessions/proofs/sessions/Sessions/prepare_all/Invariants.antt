use Rattle.std.proofs.Common.{◌≡◌, map, take}
use Rattle.odb_recent.specs.Recent.{kept_undo}
use Rattle.odb_sessions.specs.Committed.{changes_of}
use Rattle.odb_sessions.specs.Represented.Ended.{ending_of}
use Rattle.odb_sessions.proofs.sessions.Sessions.prepare_all.Given as goal

abbrev pub invariant-loop-one : goal.invariant-loop-one
invariant-loop-one l = l.undos.items ≡ map (kept_undo l.self.earlier.most) (changes_of (map ending_of (take l.one-index l.ended)))
