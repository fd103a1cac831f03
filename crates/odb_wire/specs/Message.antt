-- Messages of JSON-RPC 1.0 (RFC 7047, section 4): a request has a text `method` and an `id` that isn't null, a notification a `method` and no such `id`, a response no `method`. [P 0.1, 7.2]
use Rattle.std.specs.Prelude.{ℕ, ◌^◌, Bool, true, false, not, ◌&&◌, ◌||◌, nat_lt, List, Option, Some, None, is_some, codes, unwrap_or}
use Rattle.serde_json.specs.Data.{Data, null, boolean, number, string, array, object, Num, unsigned, negative, float, Items, no_items, item, Members, no_members, member}
use Rattle.serde_json.specs.Find.{get, as_str}

-- a member of a message, null where it is absent
abbrev pub at_key : List ℕ → Data → Data
at_key k d = unwrap_or (get k d) null

abbrev pub is_null : Data → Bool
is_null null = true
is_null (boolean b) = false
is_null (number n) = false
is_null (string s) = false
is_null (array ds) = false
is_null (object ms) = false

abbrev pub method_of : Data → Option (List ℕ)
method_of d = as_str (at_key (codes "method") d)

abbrev pub params_of : Data → Data
params_of d = at_key (codes "params") d

abbrev pub id_of : Data → Data
id_of d = at_key (codes "id") d

abbrev pub is_request : Data → Bool
is_request d = is_some (method_of d) && not (is_null (id_of d))

abbrev pub is_notification : Data → Bool
is_notification d = is_some (method_of d) && is_null (id_of d)

-- a request or a notification has a text `method`; a response has none, and `result` or `error`
abbrev pub is_message : Data → Bool
is_message d = elim (get (codes "method") d) [ Some m ↦ is_some (as_str m) | None ↦ is_some (get (codes "result") d) || is_some (get (codes "error") d) ]

-- ---- numbers that are left out: those that aren't integers from -(2^63) to 2^63-1

abbrev pub is_left_out : Num → Bool
is_left_out (unsigned n) = not (nat_lt n (2 ^ 63))
is_left_out (negative z) = false
is_left_out (float x) = true

-- such a number stands anywhere in the data
abbrev mutual
  pub has_left_out : Data → Bool
  has_left_out null = false
  has_left_out (boolean b) = false
  has_left_out (number n) = is_left_out n
  has_left_out (string s) = false
  has_left_out (array ds) = items_left_out ds
  has_left_out (object ms) = members_left_out ms

  pub items_left_out : Items → Bool
  items_left_out no_items = false
  items_left_out (item d ds) = has_left_out d || items_left_out ds

  pub members_left_out : Members → Bool
  members_left_out no_members = false
  members_left_out (member k d ms) = has_left_out d || members_left_out ms
