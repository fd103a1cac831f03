-- Pairs of a tag and a row's identifier, as which an index has rows under their tags.
use Rattle.std.specs.Prelude.{◌≡◌, Bool, true}
use Rattle.std.specs.BTreeSet.{BTreeSet, contains}
use Rattle.std.specs.Ordering.{ordering_then}
use Rattle.std.specs.declared.cmp.Ordering.{Ordering}
use Rattle.odb_atoms.specs.Uuid.{Uuid, uuid_cmp}

abbrev pub Pairs : Type 0
Pairs = BTreeSet (Uuid × Uuid)

-- by the tag, then by the identifier
abbrev pub pair_cmp : Uuid × Uuid → Uuid × Uuid → Ordering
pair_cmp p q = ordering_then (uuid_cmp p.0 q.0) (uuid_cmp p.1 q.1)

-- the row stands under the tag
abbrev pub has : Pairs → Uuid → Uuid → Bool
has s tag u = contains pair_cmp s (tag, u)

-- every pair stays
abbrev pub Grows : Pairs → Pairs → Type 0
Grows old new = (tag u : Uuid) → has old tag u ≡ true → has new tag u ≡ true
