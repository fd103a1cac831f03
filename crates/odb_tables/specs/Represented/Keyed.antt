-- What a map of the code with identifiers for its keys stands for.
use Rattle.std.specs.Prelude.{map}
use Rattle.indexmap.specs.IndexMap.{IndexMap}
use Rattle.odb_atoms.specs.FinMap as finite
use Rattle.odb_atoms.specs.Uuid.{Uuid, uuid_cmp}

abbrev pub shown : {V X : Type 0} → (V → X) → Uuid × V → Uuid × X
shown f e = (e.0, f e.1)

-- the identifiers, and what f says of their values
abbrev pub keyed : {V X S : Type 0} → (V → X) → IndexMap Uuid V S → finite.FinMap uuid_cmp X
keyed f m = finite.from_entries (map (shown f) m.entries)
