-- JSON as a text gives it: integers below zero have 64 bits, and the keys of objects ascend.
use Rattle.std.specs.Prelude.{◌≡◌, ◌^◌, ◌&&◌, pos, neg_ℤ, int_le, int_lt, Bool, true, T}
use Rattle.std.specs.FinMap.Entries.{is_sorted}
use Rattle.serde_json.specs.Data.{Num, unsigned, negative, float}
use Rattle.odb_atoms.specs.Text.{text_cmp}
use Rattle.odb_schema.specs.Json.{Data, null, boolean, number, string, array, object, Items, no_items, item, Members, no_members, member, members_list}

abbrev pub is_in_range : Num → Bool
is_in_range (unsigned n) = true
is_in_range (negative z) = int_le (neg_ℤ (pos (2 ^ 63))) z && int_lt z (pos 0)
is_in_range (float x) = true

abbrev pub Ascend : Members → Type 0
Ascend ms = T (is_sorted text_cmp (members_list ms))

abbrev mutual
  pub IsSound : Data → Type 0
  IsSound null = Unit {0}
  IsSound (boolean b) = Unit {0}
  IsSound (number n) = is_in_range n ≡ true
  IsSound (string s) = Unit {0}
  IsSound (array ds) = AreSound ds
  IsSound (object ms) = Ascend ms × HasSound ms

  pub AreSound : Items → Type 0
  AreSound no_items = Unit {0}
  AreSound (item d ds) = IsSound d × AreSound ds

  pub HasSound : Members → Type 0
  HasSound no_members = Unit {0}
  HasSound (member k d ms) = IsSound d × HasSound ms
