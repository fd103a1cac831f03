-- What a table of locks by name stands for.
use Rattle.std.specs.Prelude.{ℕ, List, map, string_bytes}
use Rattle.std.specs.Ordering.{nat_cmp}
use Rattle.std.specs.Cmp.Lexicographic.{slice_cmp}
use Rattle.std.specs.BTreeMap.{BTreeMap}
use Rattle.std.specs.declared.string.String.{String}
use Rattle.std.specs.declared.alloc.Global.{Global}
use Rattle.odb_atoms.specs.FinMap as finite
use Rattle.odb_locks.specs.Locks.{Lock, Locks}

-- the locks by the bytes of their names
abbrev pub locks_in : BTreeMap (String Global) Lock → Locks
locks_in m = finite.from_entries {R = slice_cmp nat_cmp} (map (λ e. let named : List ℕ × Lock = (string_bytes e.0, e.1) in named) m.entries)
