-- JSON as `serde_json`'s data, by lists. [P 0.1]
use Rattle.std.specs.Prelude.{ℕ, ℤ, List, [], ◌∷◌, Option, Some, None, option_and_then, Bool, true, false, ◌&&◌, ◌==◌}
use Rattle.std.specs.Ordering.{int_eq, bool_cmp, is_eq}
use Rattle.odb_atoms.specs.Text.{same_text}
use Rattle.serde_json.specs.Data.{Num, unsigned, negative, put}
pub use Rattle.serde_json.specs.Data.{Data, null, boolean, number, string, array, object, Items, no_items, item, Members, no_members, member}
pub use Rattle.serde_json.specs.Find.{get_member, as_bool, as_str, as_array, as_object}
use Rattle.serde_json.specs.Find as find
use Rattle.odb_atoms.specs.First.{Ok, Result, ok_or, ◌>>=◌}

abbrev pub items_list : Items → List Data
items_list no_items = []
items_list (item d ds) = d ∷ items_list ds

abbrev pub members_list : Members → List (List ℕ × Data)
members_list no_members = []
members_list (member k d ms) = (k, d) ∷ members_list ms

abbrev pub items_of : List Data → Items
items_of [] = no_items
items_of (d ∷ ds) = item d (items_of ds)

abbrev pub array_of : List Data → Data
array_of ds = array (items_of ds)

abbrev pub members_of : List (List ℕ × Data) → Members
members_of [] = no_members
members_of (m ∷ ms) = put m.0 m.1 (members_of ms)

-- the keys in byte order
abbrev pub object_of : List (List ℕ × Data) → Data
object_of ms = object (members_of ms)

-- a number without fraction or exponent from -(2^63) to 2^63-1
abbrev pub as_integer : Data → Option ℤ
as_integer d = option_and_then find.as_i64 (find.as_number d)

abbrev pub of_integer : ℤ → Data
of_integer z = number (find.of_integer z)

-- the member k of an object, where it is a string
abbrev pub string_member : List ℕ → Data → Option (List ℕ)
string_member k d = option_and_then as_str (option_and_then (get_member k) (as_object d))

-- ---- the members of an object: one that has to be there, one that may be, and one with a default

abbrev pub needed : {E : Type 0} → E → List ℕ → Members → Result Data E
needed e k ms = ok_or (get_member k ms) e

abbrev pub if_given : {A E : Type 0} → (Data → Result A E) → Option Data → Result (Option A) E
if_given read None = Ok None
if_given read (Some d) = do
  x ← read d
  Ok (Some x)

abbrev pub given_or : {A E : Type 0} → A → (Data → Result A E) → Option Data → Result A E
given_or default read None = Ok default
given_or default read (Some d) = read d

-- the member k of an object that is made, where it has a value
abbrev pub present : List ℕ → Option Data → List (List ℕ × Data)
present k None = []
present k (Some d) = (k, d) ∷ []

-- ---- equality, of data without fractions

abbrev pub same_number : Num → Num → Bool
same_number (unsigned m) (unsigned n) = m == n
same_number (negative y) (negative z) = int_eq y z
same_number m n = false

abbrev mutual
  pub same_data : Data → Data → Bool
  same_data null null = true
  same_data (boolean b) (boolean c) = is_eq (bool_cmp b c)
  same_data (number m) (number n) = same_number m n
  same_data (string s) (string t) = same_text s t
  same_data (array ds) (array es) = same_items ds es
  same_data (object ms) (object ns) = same_members ms ns
  same_data d e = false

  pub same_items : Items → Items → Bool
  same_items no_items no_items = true
  same_items (item d ds) (item e es) = same_data d e && same_items ds es
  same_items ds es = false

  pub same_members : Members → Members → Bool
  same_members no_members no_members = true
  same_members (member k d ms) (member l e ns) = same_text k l && same_data d e && same_members ms ns
  same_members ms ns = false
