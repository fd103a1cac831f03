-- Atoms, the scalars of RFC 7047: integers, booleans, strings and UUIDs; their order, and their code as stored data. [P 2.1]
use Rattle.std.specs.Prelude.{◌≡◌, ℕ, ℤ, pos, Bool, false, cond, ◌==◌, List, [], refl}
use Rattle.std.specs.declared.cmp.Ordering.{Ordering}
use Rattle.std.specs.Ordering.{nat_cmp, int_cmp, bool_cmp, eq_by_cmp}
use Rattle.std.specs.Coded.{Coded, code_by, coded×, coded_ℕ, coded_ℤ, coded_bool, coded_list}
use Rattle.odb_atoms.specs.Text.{text_cmp}
use Rattle.odb_atoms.specs.Uuid.{Uuid, uuid_cmp, uuid_code, zero_uuid}

-- an integer, a boolean, a string by its bytes, a UUID
pub data Atom : Type 0 where
  integer : ℤ → Atom
  boolean : Bool → Atom
  text : List ℕ → Atom
  uuid : Uuid → Atom

-- the atomic types
pub data Kind : Type 0 where
  integers booleans strings uuids : Kind

abbrev pub kind_of : Atom → Kind
kind_of (integer z) = integers
kind_of (boolean b) = booleans
kind_of (text s) = strings
kind_of (uuid u) = uuids

-- their place in the order of kinds
abbrev pub rank : Kind → ℕ
rank integers = 0
rank booleans = 1
rank strings = 2
rank uuids = 3

-- by kind, then integers by size, false before true, strings by bytes, UUIDs as numbers
abbrev pub atom_cmp : Atom → Atom → Ordering
atom_cmp (integer x) (integer y) = int_cmp x y
atom_cmp (boolean x) (boolean y) = bool_cmp x y
atom_cmp (text x) (text y) = text_cmp x y
atom_cmp (uuid x) (uuid y) = uuid_cmp x y
atom_cmp a b = nat_cmp (rank (kind_of a)) (rank (kind_of b))

abbrev pub same_atom : Atom → Atom → Bool
same_atom = eq_by_cmp atom_cmp

abbrev pub same_kind : Kind → Kind → Bool
same_kind k l = rank k == rank l

-- what a column of the kind has by default
abbrev pub zero_atom : Kind → Atom
zero_atom integers = integer (pos 0)
zero_atom booleans = boolean false
zero_atom strings = text []
zero_atom uuids = uuid zero_uuid

-- the kind's number and one field for each kind of content
abbrev pub Parts : Type 0
Parts = ℕ × (ℤ × (Bool × (List ℕ × Uuid)))

abbrev pub to_parts : Atom → Parts
to_parts (integer z) = (0, (z, (false, ([], zero_uuid))))
to_parts (boolean b) = (1, (pos 0, (b, ([], zero_uuid))))
to_parts (text s) = (2, (pos 0, (false, (s, zero_uuid))))
to_parts (uuid u) = (3, (pos 0, (false, ([], u))))

abbrev pub from_parts : Parts → Atom
from_parts p = cond (p.0 == 0) (integer p.1.0) (cond (p.0 == 1) (boolean p.1.1.0) (cond (p.0 == 2) (text p.1.1.1.0) (uuid p.1.1.1.1)))

pub from_parts-to_parts : (a : Atom) → from_parts (to_parts a) ≡ a
from_parts-to_parts (integer z) = refl
from_parts-to_parts (boolean b) = refl
from_parts-to_parts (text s) = refl
from_parts-to_parts (uuid u) = refl

abbrev pub atom_code : Coded Atom
atom_code = code_by Parts (coded× coded_ℕ (coded× coded_ℤ (coded× coded_bool (coded× (coded_list coded_ℕ) uuid_code)))) to_parts from_parts from_parts-to_parts
