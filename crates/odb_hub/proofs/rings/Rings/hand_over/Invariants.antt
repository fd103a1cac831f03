use Rattle.std.proofs.Common.{ℕ, map, Option}
use Rattle.odb_atoms.specs.FinMap.{get}
use Rattle.odb_sessions.specs.Represented.Out.{sent_in}
use Rattle.odb_hub.specs.Rings.{HandsOver, HasRoom, Ring, texts_to}
use Rattle.odb_hub.proofs.rings.Rings.hand_over.Given as goal

-- there is room for the rest, and what the rest makes of the rings now, all makes of the first ones
abbrev pub invariant-loop-out : goal.invariant-loop-out
invariant-loop-out l =
    ((s : ℕ) → HasRoom (get l.self s) (texts_to s (map sent_in l.out-iterator.rest.items)))
    × ((s : ℕ) (o : Option Ring) → HandsOver (get l.self s) (texts_to s (map sent_in l.out-iterator.rest.items)) o → HandsOver (get l.initial.self s) (texts_to s (map sent_in l.initial.out-iterator.rest.items)) o)
