-- What a map of the code with texts for its keys stands for.
use Rattle.std.specs.Prelude.{ℕ, List, map, string_bytes}
use Rattle.std.specs.BTreeMap.{BTreeMap}
use Rattle.std.specs.declared.string.String.{String}
use Rattle.std.specs.declared.alloc.Global.{Global}
use Rattle.odb_atoms.specs.FinMap as finite
use Rattle.odb_atoms.specs.Text.{text_cmp}

module _ {X Y : Type 0} (f : X → Y) where
  abbrev pub named : String Global × X → List ℕ × Y
  named e = (string_bytes e.0, f e.1)

  -- the keys by their bytes, and what f says of the values
  abbrev pub text_map : BTreeMap (String Global) X → finite.FinMap text_cmp Y
  text_map m = finite.from_entries (map named m.entries)
