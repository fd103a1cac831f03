-- What a key of the code stands for, and which keys are the same.
use Rattle.std.specs.Prelude.{◌≡◌, ℕ, Bool, true, false, ◌&&◌, ◌==◌, List, Option, Some, None}
use Rattle.std.specs.List.{list_any}
use Rattle.odb_atoms.specs.Atom.{same_atom}
use Rattle.odb_atoms.specs.Represented.Atom.{atom_of}
use Rattle.odb_atoms.specs.Row.{Selector, declared, own_uuid, own_version}
use Rattle.odb_cond.specs.Filter.{Filter}
use Rattle.odb_cond.specs.Represented.Clause.{selector_of}
use Rattle.odb_cond.specs.Represented.Filter.{member_of}
use Rattle.odb_cond.specs.declared.filter.Member as code
use Rattle.odb_interest.specs.Keys as model
use Rattle.odb_interest.specs.Keys.{Asked, any_row, key_of, keys_of, named}
use Rattle.odb_interest.specs.declared.key.Key.{Key}
use Rattle.odb_interest.specs.declared.key.Key.TheVariants.{Any, Named}

-- there is something, and it passes the test
abbrev pub held : {V : Type 0} → (V → Bool) → Option V → Bool
held p None = false
held p (Some v) = p v

abbrev pub key_in : Key → model.Key
key_in Any = any_row
key_in (Named c a) = named (selector_of c) (atom_of a.now)

abbrev pub same_column : Selector → Selector → Bool
same_column own_uuid own_uuid = true
same_column own_version own_version = true
same_column (declared i) (declared j) = i == j
same_column c d = false

abbrev pub same_key : model.Key → model.Key → Bool
same_key any_row any_row = true
same_key (named c a) (named d b) = same_column c d && same_atom a b
same_key k l = false

-- the filter is looked up by the key
abbrev pub has_key : model.Key → Filter → Bool
has_key k f = list_any (same_key k) (keys_of f)

-- one of the filters of the table at the place is looked up by the key
abbrev pub is_asked : List Asked → ℕ → model.Key → Bool
is_asked fs t k = list_any (λ a. (a.0 == t) && has_key k a.1) fs

-- one of the members of the code is looked up by the key
abbrev pub among : List code.Member → model.Key → Bool
among ms k = list_any (λ m. held (same_key k) (key_of (member_of m))) ms

-- the key of the member, or none, where the others have it or it has none
abbrev pub LacksKey : code.Member → List code.Member → Option model.Key → Type 0
LacksKey m others None = (k : model.Key) → held (same_key k) (key_of (member_of m)) ≡ true → among others k ≡ true
LacksKey m others (Some k) = key_of (member_of m) ≡ Some k
