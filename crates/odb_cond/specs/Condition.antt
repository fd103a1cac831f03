-- Conditions (RFC 7047, <condition>): what they say of a row. [P 3.1]
use Rattle.std.specs.Prelude.{Bool, false, not, List}
use Rattle.std.specs.declared.cmp.Ordering.{Ordering}
use Rattle.std.specs.List.{list_all, list_any}
use Rattle.std.specs.Ordering.{is_lt, is_le, is_gt, is_ge}
use Rattle.odb_atoms.specs.FinSet as set
use Rattle.odb_atoms.specs.Atom.{atom_cmp}
use Rattle.odb_atoms.specs.Members.{excludes_all}
use Rattle.odb_atoms.specs.Row.{Row, Selector, cell}
use Rattle.odb_atoms.specs.Uuid.{Uuid}
use Rattle.odb_atoms.specs.Value.{Value, includes_all, same_value, set_of}

pub data Function : Type 0 where
  less less_or_equal equal not_equal greater_or_equal greater includes excludes : Function

pub record Clause : Type 0 where
  pub column : Selector
  pub function : Function
  pub value : Value

-- some atom of c stands so to some atom of v (a scalar has just one)
abbrev pub compares : (Ordering → Bool) → Value → Value → Bool
compares test (set_of c) (set_of v) = list_any (λ a. list_any (λ b. test (atom_cmp a b)) (set.items v)) (set.items c)
compares test c v = false

abbrev pub relates : Function → Value → Value → Bool
relates less c v = compares is_lt c v
relates less_or_equal c v = compares is_le c v
relates equal c v = same_value c v
relates not_equal c v = not (same_value c v)
relates greater_or_equal c v = compares is_ge c v
relates greater c v = compares is_gt c v
relates includes c v = includes_all c v
relates excludes c v = excludes_all c v

-- the condition holds of the row
abbrev pub holds : Clause → Uuid → Row → Bool
holds c u r = relates c.function (cell u r c.column) c.value

-- the `where` of an operation: every member holds
abbrev pub holds_all : List Clause → Uuid → Row → Bool
holds_all cs u r = list_all (λ c. holds c u r) cs
