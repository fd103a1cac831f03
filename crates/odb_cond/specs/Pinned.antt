-- Conditions that name one row: those that want `_uuid` to be an identifier.
use Rattle.std.specs.Prelude.{List, [], ◌∷◌, Option, None, Some}
use Rattle.odb_atoms.specs.FinSet as set
use Rattle.odb_atoms.specs.Atom.{Atom, uuid}
use Rattle.odb_atoms.specs.Row.{Selector, own_uuid}
use Rattle.odb_atoms.specs.Uuid.{Uuid}
use Rattle.odb_atoms.specs.Value.{Value, map_of, set_of}
use Rattle.odb_cond.specs.Condition.{Clause, Function, equal, includes}

-- the identifier that alone is listed
abbrev pub lone_uuid : List Atom → Option Uuid
lone_uuid (uuid u ∷ []) = Some u
lone_uuid atoms = None

abbrev pub uuid_in : Value → Option Uuid
uuid_in (set_of s) = lone_uuid (set.items s)
uuid_in (map_of m) = None

abbrev pub wanted : Selector → Function → Value → Option Uuid
wanted own_uuid equal v = uuid_in v
wanted own_uuid includes v = uuid_in v
wanted c f v = None

-- the identifier that `_uuid` has to equal, or to include
abbrev pub pinned_by : Clause → Option Uuid
pinned_by c = wanted c.column c.function c.value

abbrev pub or_later : Option Uuid → Option Uuid → Option Uuid
or_later None later = later
or_later (Some u) later = Some u

-- that of the first condition that has one
abbrev pub pinned : List Clause → Option Uuid
pinned [] = None
pinned (c ∷ cs) = or_later (pinned_by c) (pinned cs)
