-- A session of a server is drained, and what it is given is printed.
use Rattle.std.specs.Prelude.{ℕ, List, [], ◌∷◌, ◌++◌, map, if◌then◌else◌, Option, Some, None}
use Rattle.std.specs.FinMap.Entries.{find}
use Rattle.std.specs.List.{flat_map}
use Rattle.std.specs.Ordering.{nat_cmp}
use Rattle.serde_json.specs.Written.{compact_text}
use Rattle.odb_atoms.specs.FinMap.{get, insert}
use Rattle.odb_service.specs.Server.{Server, served_by}
use Rattle.odb_service.specs.Session.{Session, drained, owed}
use Rattle.odb_script.specs.Script.{ScriptSession, line_of}
use Rattle.odb_script.specs.Represented.Names.{by_number}
use Rattle.odb_service.specs.World.{revision_of}

abbrev pub lines_for : List ℕ → Server → Session → List ℕ
lines_for name s x = flat_map (λ o. line_of name (compact_text o.message)) (owed (served_by s.schema) (revision_of s.world) x)

abbrev pub drained_in : ℕ → Server → Session → Server
drained_in n s x = record s { world = record (s.world) { sessions = insert s.world.sessions n (drained (served_by s.schema) s.world.db x) } }

abbrev pub drain_if : List ℕ → ℕ → Option Session → Server × List ℕ → Server × List ℕ
drain_if name n None p = p
drain_if name n (Some x) p = (drained_in n p.0 x, p.1 ++ lines_for name p.0 x)

-- the server and the text so far, once all that the session of this number is owed was given and printed after the name
abbrev pub drained_session : List ℕ → ℕ → Server × List ℕ → Server × List ℕ
drained_session name n p = drain_if name n (get p.0.world.sessions n) p

abbrev pub drain_session : ScriptSession → Server × List ℕ → Server × List ℕ
drain_session x p = if x.held then p else drained_session x.name x.session p

-- the same for each of these sessions that isn't held, in order
abbrev pub all_drained : List ScriptSession → Server × List ℕ → Server × List ℕ
all_drained [] p = p
all_drained (x ∷ xs) p = all_drained xs (drain_session x p)

-- the session of the number, if it is among them
abbrev pub numbered : ℕ → List ScriptSession → Option ScriptSession
numbered q xs = find nat_cmp q (map by_number xs)

abbrev pub numbered_drained : Option ScriptSession → Server × List ℕ → Server × List ℕ
numbered_drained None p = p
numbered_drained (Some x) p = drain_session x p

-- the same for each of these numbers that is among them, in order of the numbers
abbrev pub found_drained : List ℕ → List ScriptSession → Server × List ℕ → Server × List ℕ
found_drained [] xs p = p
found_drained (q ∷ qs) xs p = found_drained qs xs (numbered_drained (numbered q xs) p)
