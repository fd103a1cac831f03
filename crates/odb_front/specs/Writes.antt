-- `_Server` is read alone: a transaction on it ends at the first operation that writes, with `not allowed`, after what came before it was done. [P 15.3]
use Rattle.std.specs.Prelude.{ℕ, zero, suc, ◌-◌, Bool, false, ◌||◌, if◌then◌else◌, List, [], ◌∷◌, ◌++◌, Some, None, codes, bytes_eq, length, map, take}
use Rattle.std.specs.List.{list_any}
use Rattle.serde_json.specs.Data.{Data, string}
use Rattle.serde_json.specs.Find.{get, as_str}
use Rattle.std.specs.Prelude.{option_and_then}
use Rattle.odb_rpc.specs.Message.{one, operations_of}
use Rattle.odb_front.specs.Front.{has_end, name_of}

abbrev pub is_name_of_write : List ℕ → Bool
is_name_of_write op = ((bytes_eq op (codes "insert") || bytes_eq op (codes "update")) || bytes_eq op (codes "mutate")) || bytes_eq op (codes "delete")

-- whatever else the operation has
abbrev pub is_write : Data → Bool
is_write d = elim (option_and_then as_str (get (codes "op") d)) [ None ↦ false | Some op ↦ is_name_of_write op ]

-- whether a `transact` on `_Server` is refused as `not allowed`, unless it ends or waits before
abbrev pub has_writes : Data → Bool
has_writes d = list_any is_write (operations_of d)

-- how many operations come after the first that writes
abbrev pub after_write : List Data → ℕ
after_write [] = 0
after_write (d ∷ ds) = if is_write d then length ds else after_write ds

-- what is done in its place: the transaction ends there
abbrev pub abort : Data
abort = one (codes "op") (string (codes "abort"))

abbrev pub read_only : Data → Data
read_only d = if is_write d then abort else d

abbrev pub readable : List Data → List Data
readable = map read_only

-- the `params` of a request that names a database, with another name
abbrev pub params_by : List ℕ → List ℕ → List Data → List Data
params_by name m others = string name ∷ (if bytes_eq m (codes "transact") then readable others else others)

abbrev pub params_for : List ℕ → Data → List Data
params_for name d = params_by name (name_of d) (operations_of d)

-- the results of so many operations that aren't reached
abbrev pub nulls : ℕ → List ℕ
nulls zero = []
nulls (suc n) = nulls n ++ codes ",null"

-- how a reply ends in which an operation has this error, and so many come after it
abbrev pub ended_by : List ℕ → ℕ → List ℕ
ended_by error after = codes "{\"error\":\"" ++ error ++ codes "\"}" ++ nulls after ++ codes "]}"

-- a reply in which the `abort` ended the transaction that so many operations follow says `not allowed`; any other stays
abbrev pub with_refusal : List ℕ → ℕ → List ℕ
with_refusal reply after =
    let end = ended_by (codes "aborted") after in
    if has_end end reply then take (length reply - length end) reply ++ ended_by (codes "not allowed") after else reply
