-- The rings as a finite map.
use Rattle.std.specs.Prelude.{ℕ}
use Rattle.std.specs.Ordering.{nat_cmp}
use Rattle.std.specs.BTreeMap.{BTreeMap}
use Rattle.odb_atoms.specs.FinMap as finite
use Rattle.odb_hub.specs.Rings.{Ring}

abbrev pub rings_in : BTreeMap ℕ Ring → finite.FinMap nat_cmp Ring
rings_in m = finite.from_entries m.entries
