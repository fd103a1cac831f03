-- Column types (RFC 7047, <type> and <base-type>): what they admit, and their defaults. [P 1.3, 2.4, 2.6]
use Rattle.std.specs.Prelude.{ℕ, ℤ, pos, Bool, true, false, cond, not, ◌&&◌, ◌==◌, List, [], ◌∷◌, length, chars, nat_lt, nat_le, int_le, is_some, is_none, Option, Some, None, unwrap_or}
use Rattle.odb_atoms.specs.FinSet as set
use Rattle.odb_atoms.specs.FinMap as map
use Rattle.odb_atoms.specs.Atom.{Atom, Kind, boolean, integer, kind_of, same_kind, text, uuid, zero_atom}
use Rattle.odb_atoms.specs.Value.{Atoms, Value, atoms, each_atom, is_map, map_of, set_of, size}

-- a reference to a table, by the table's name
pub record Reference : Type 0 where
  pub table : List ℕ
  pub weak : Bool

-- an atomic type with its constraints, of which all must hold
pub record Base : Type 0 where
  pub kind : Kind
  pub enum : Option Atoms
  pub min_integer : Option ℤ
  pub max_integer : Option ℤ
  pub min_length : Option ℤ
  pub max_length : Option ℤ
  pub reference : Option Reference

-- a map where `value` is given; `max` is None where it is unlimited
pub record ColType : Type 0 where
  pub key : Base
  pub value : Option Base
  pub min : ℕ
  pub max : Option ℕ

abbrev pub plain : Kind → Base
plain k = record { kind = k; enum = None; min_integer = None; max_integer = None; min_length = None; max_length = None; reference = None }

-- a scalar without constraints
abbrev pub scalar : Kind → ColType
scalar k = record { key = plain k; value = None; min = 1; max = Some 1 }

-- the base of a map's values (for a set, which has none, that of its elements)
abbrev pub value_base : ColType → Base
value_base t = unwrap_or t.value t.key

-- the bound is kept, where there is one
abbrev pub at_least : {A : Type 0} → (A → A → Bool) → Option A → A → Bool
at_least le None x = true
at_least le (Some low) x = le low x

abbrev pub at_most : {A : Type 0} → (A → A → Bool) → Option A → A → Bool
at_most le None x = true
at_most le (Some high) x = le x high

abbrev pub in_enum : Option Atoms → Atom → Bool
in_enum None a = true
in_enum (Some s) a = set.contains s a

-- integers by size, strings by their number of Unicode scalar values
abbrev pub in_bounds : Base → Atom → Bool
in_bounds b (integer z) = at_least int_le b.min_integer z && at_most int_le b.max_integer z
in_bounds b (boolean x) = true
in_bounds b (text s) = at_least int_le b.min_length (pos (length (chars s))) && at_most int_le b.max_length (pos (length (chars s)))
in_bounds b (uuid u) = true

-- there is neither an `enum` nor a bound
abbrev pub is_free : Base → Bool
is_free b = is_none b.enum && is_none b.min_integer && is_none b.max_integer && is_none b.min_length && is_none b.max_length

abbrev pub meets : Base → Atom → Bool
meets b a = in_enum b.enum a && in_bounds b a

abbrev pub is_a : Kind → Atom → Bool
is_a k a = same_kind (kind_of a) k

abbrev pub has_kind : ColType → Value → Bool
has_kind t v = cond (is_some t.value) (is_map v) (not (is_map v)) && each_atom (is_a t.key.kind) (is_a (value_base t).kind) v

abbrev pub meets_constraints : ColType → Value → Bool
meets_constraints t v = each_atom (meets t.key) (meets (value_base t)) v

pub data AdmitFault : Type 0 where
  wrong_kind too_few too_many broken_constraint : AdmitFault

-- why the type does not admit the value: the kind first, then the number of elements, then the constraints
abbrev pub admit_fault : ColType → Value → Option AdmitFault
admit_fault t v =
    cond (not (has_kind t v)) (Some wrong_kind)
    (cond (nat_lt (size v) t.min) (Some too_few)
    (cond (not (at_most nat_le t.max (size v))) (Some too_many)
    (cond (not (meets_constraints t v)) (Some broken_constraint) None)))

abbrev pub admits : ColType → Value → Bool
admits t v = is_none (admit_fault t v)

-- nothing where `min` is 0, else one element or pair of 0, false, "" or the zero UUID
abbrev pub default_of : ColType → Value
default_of t =
    let key = zero_atom t.key.kind in
    cond (is_some t.value)
    (map_of (cond (t.min == 0) map.empty (map.from_entries ((key, zero_atom (value_base t).kind) ∷ []))))
    (set_of (cond (t.min == 0) set.empty (atoms (key ∷ []))))

abbrev pub is_one : Option ℕ → Bool
is_one None = false
is_one (Some n) = n == 1

-- `max` is 1
abbrev pub is_single : ColType → Bool
is_single t = is_one t.max

-- neither a set nor a map: exactly one element
abbrev pub is_scalar : ColType → Bool
is_scalar t = is_single t && (t.min == 1) && not (is_some t.value)
