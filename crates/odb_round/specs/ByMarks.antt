-- Whose marks a likeness has: what is alike is so by the versions of marks, and of the monitor to which something is due. [P 9.2, 10.1, 10.3]
use Rattle.std.specs.List.{AllZip}
use Rattle.std.specs.Prelude.{IfSome, List, None, Option, Some, [], flat_map, option_map, unwrap_or, ◌++◌, ◌∷◌, ◌≡◌, ◌⊎◌}
use Rattle.odb_atoms.specs.FinMap as map
use Rattle.odb_chain.specs.Chains.{Chains, standing}
use Rattle.odb_round.specs.Alike.{Contents}
use Rattle.odb_round.specs.Planned.{Due, first_due, grant_due, text_due, update_due}
use Rattle.odb_service.specs.Session.{Watch}
use Rattle.odb_sessions.specs.Alike.{Likeness, Stand}
use Rattle.odb_sessions.specs.Marked.{MarkedItem, MarkedMonitor, MarkedSession, Watched, due, plain, watch_of}

-- what the chains keep of the tables, at the versions of marks
abbrev pub contents : Chains → Contents
contents k t p = unwrap_or (option_map (λ s. s.content) (standing k t p)) map.empty

-- ---- whose marks a likeness has

-- where it counts at which change of the table a client was told of it, that is the version of the mark, and it was told under the filter for which the mark was made
abbrev pub IsByMark : Stand → Watched → Type 0
IsByMark s w = IfSome s.version (λ p. (p ≡ (w.mark.table, w.mark.version)) × (s.told ≡ Some w.told))

-- so it is of each table of the monitor
abbrev pub IsByMarks : Likeness → MarkedMonitor → Type 0
IsByMarks l h = (l.notation ≡ h.notation) × AllZip IsByMark l.stands h.tables

-- ---- to which monitor something is due

-- the monitor whose first reply is due by the item, if one is
abbrev pub monitors_due : MarkedItem → List MarkedMonitor
monitors_due (plain i) = []
monitors_due (due d h) = h ∷ []

-- the monitors of the session, and those whose first replies are queued
abbrev pub monitors_in : MarkedSession → List MarkedMonitor
monitors_in x = x.monitors ++ flat_map monitors_due x.queue

abbrev pub monitors_of : Option MarkedSession → List MarkedMonitor
monitors_of None = []
monitors_of (Some x) = monitors_in x

abbrev pub watch_due : Due → Option Watch
watch_due (text_due a d) = None
watch_due (first_due d k) = Some k
watch_due (update_due m qs) = Some m.watch
watch_due (grant_due d) = None

abbrev pub IsOneOf : List MarkedMonitor → MarkedMonitor → Type 0
IsOneOf [] h = ⊥
IsOneOf (x ∷ xs) h = (h ≡ x) ⊎ IsOneOf xs h

-- it is one of these, and what is due is due to it
abbrev pub IsDueTo : Option Due → List MarkedMonitor → MarkedMonitor → Type 0
IsDueTo o hs h = IsOneOf hs h × IfSome o (λ d. watch_due d ≡ Some (watch_of h))
