-- What has no left-out number has none in its members, and no fraction.
use Rattle.std.proofs.Common.{◌≡◌, ℕ, Bool, false, ◌||◌, List, [], ◌∷◌, map, Some, Option, refl, ap, ◌∙◌, unwrap_or}
use Rattle.std.proofs.lemmas.Option.{same_Some}
use Rattle.std.specs.List.{list_any}
use Rattle.std.proofs.lemmas.Bool.{or_parts}
use Rattle.std.specs.Ordering.{nat_cmp, match_ordering}
use Rattle.std.specs.Cmp.Lexicographic.{slice_cmp}
use Rattle.std.specs.declared.cmp.Ordering.{Ordering}
use Rattle.std.specs.declared.cmp.Ordering.TheVariants.{Less, Equal, Greater}
use Rattle.serde_json.specs.Data.{Num, unsigned, negative, float, Data, null, boolean, number, string, array, object, Items, no_items, item, Members, no_members, member}
use Rattle.serde_json.specs.Find.{as_array, get_member, is_float}
use Rattle.serde_json.specs.View.{view, items_view}
use Rattle.serde_json.specs.declared.value.Value.{Value}
use Rattle.serde_json.specs.Written.{has_float, items_have_float, members_have_float}
use Rattle.odb_wire.specs.Message.{at_key, has_left_out, items_left_out, members_left_out, is_left_out}

-- a value that may be absent has none
abbrev IsWhole : Option Data → Type 0
IsWhole o = has_left_out (unwrap_or o null) ≡ false

in_either : (o : Ordering) (a b c : Option Data) → IsWhole a → IsWhole b → IsWhole c → IsWhole (match_ordering o a b c)
in_either Less a b c x y z = x
in_either Equal a b c x y z = y
in_either Greater a b c x y z = z

in_members : (k : List ℕ) (ms : Members) → members_left_out ms ≡ false → IsWhole (get_member k ms)
in_members k no_members e = refl
in_members k (member l d ms) e =
    let p = or_parts (has_left_out d) (members_left_out ms) e in
    let rest = in_members k ms p.1 in
    in_either (slice_cmp nat_cmp k l) (get_member k ms) (Some d) (get_member k ms) rest p.0 rest

pub whole-at_key : (k : List ℕ) (d : Data) → has_left_out d ≡ false → has_left_out (at_key k d) ≡ false
whole-at_key k null e = refl
whole-at_key k (boolean b) e = refl
whole-at_key k (number n) e = refl
whole-at_key k (string s) e = refl
whole-at_key k (array ds) e = refl
whole-at_key k (object ms) e = in_members k ms e

no_fraction : (n : Num) → is_left_out n ≡ false → is_float n ≡ false
no_fraction (unsigned n) e = refl
no_fraction (negative z) e = refl
no_fraction (float x) e = e

both_false : (a b : Bool) → a ≡ false → b ≡ false → (a || b) ≡ false
both_false a b x y = ap (λ t. t || b) x ∙ y

mutual
  pub no_float : (d : Data) → has_left_out d ≡ false → has_float d ≡ false
  no_float null e = refl
  no_float (boolean b) e = refl
  no_float (number n) e = no_fraction n e
  no_float (string s) e = refl
  no_float (array ds) e = no_float_items ds e
  no_float (object ms) e = no_float_members ms e

  no_float_items : (ds : Items) → items_left_out ds ≡ false → items_have_float ds ≡ false
  no_float_items no_items e = refl
  no_float_items (item d ds) e = let p = or_parts (has_left_out d) (items_left_out ds) e in both_false (has_float d) (items_have_float ds) (no_float d p.0) (no_float_items ds p.1)

  no_float_members : (ms : Members) → members_left_out ms ≡ false → members_have_float ms ≡ false
  no_float_members no_members e = refl
  no_float_members (member k d ms) e = let p = or_parts (has_left_out d) (members_left_out ms) e in both_false (has_float d) (members_have_float ms) (no_float d p.0) (no_float_members ms p.1)

-- ---- the members of `params`

each_whole : (xs : List Value) → list_any has_left_out (map view xs) ≡ items_left_out (items_view xs)
each_whole [] = refl
each_whole (x ∷ xs) = ap (λ b. has_left_out (view x) || b) (each_whole xs)

pub whole_params : (xs : List Value) (params : Data) → Some (items_view xs) ≡ as_array params → has_left_out params ≡ false → list_any has_left_out (map view xs) ≡ false
whole_params xs null e whole = cc
whole_params xs (boolean b) e whole = cc
whole_params xs (number n) e whole = cc
whole_params xs (string s) e whole = cc
whole_params xs (array ds) e whole = each_whole xs ∙ ap items_left_out (same_Some _ _ e) ∙ whole
whole_params xs (object ms) e whole = cc
