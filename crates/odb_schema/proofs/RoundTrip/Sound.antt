-- What a text is read to is sound.
use Rattle.std.specs.Prelude.{◌≡◌, ℕ, ◌^◌, ◌&&◌, pos, neg_ℤ, int_le, int_lt, nat_lt, nat_le, Bool, true, false, T, List, ◌∷◌, drop, if◌then◌else◌, Option, Some, None, option_map, option_and_then}
use mathlib.Core.Path.{refl, sym, ap, subst}
use Rattle.std.proofs.Common.{arith}
use Rattle.std.proofs.lemmas.Bool.Decides.{nat_tests}
use Rattle.std.proofs.lemmas.Int.{ints}
use Rattle.std.specs.Cmp.Lexicographic.{nat_list_cmp_total}
use Rattle.std.specs.FinMap.Entries.{by_order, is_sorted, is_sorted-put}
use Rattle.std.specs.FinMap.Entries as entries
use Rattle.std.specs.declared.cmp.Ordering.{Ordering}
use Rattle.std.specs.declared.cmp.Ordering.TheVariants.{Less, Equal, Greater}
use Rattle.std.specs.Ordering.{match_ordering}
use Rattle.fast_float.specs.Text.{Parts, scan, digits_of}
use Rattle.json.specs.Json as json
use Rattle.json.specs.Lex.{tokens}
use Rattle.serde_json.specs.Data.{Num, unsigned, negative, float, put}
use Rattle.serde_json.specs.Read.{float_of, is_integer, max_depth, number_from, number_of, of_items, of_json, of_members, read}
use Rattle.odb_atoms.specs.Text.{text_cmp}
use Rattle.odb_atoms.proofs.Lists.{both}
use Rattle.odb_schema.specs.Json.{Data, array, item, Members, no_members, member, members_list, number, object}
use Rattle.odb_schema.specs.Represented.Sound.{AreSound, Ascend, HasSound, IsSound, is_in_range}

-- what there is has the property
unfoldable pub OnSome : {A : Type 0} → (A → Type 0) → Option A → Type 0
OnSome P None = Unit {0}
OnSome P (Some x) = P x

mapped : {A B : Type 0} (P : A → Type 0) (Q : B → Type 0) (f : A → B) → ((a : A) → P a → Q (f a)) → (o : Option A) → OnSome P o → OnSome Q (option_map f o)
unfolding OnSome
mapped P Q f h None x = tt
mapped P Q f h (Some a) x = h a x

chained : {A B : Type 0} (P : A → Type 0) (Q : B → Type 0) (f : A → Option B) → ((a : A) → P a → OnSome Q (f a)) → (o : Option A) → OnSome P o → OnSome Q (option_and_then f o)
unfolding OnSome
chained P Q f h None x = tt
chained P Q f h (Some a) x = h a x

any_some : {A : Type 0} (o : Option A) → OnSome (λ _. Unit {0}) o
unfolding OnSome
any_some None = tt
any_some (Some a) = tt

-- ---- numbers

abbrev InRange : Num → Type 0
InRange n = is_in_range n ≡ true

either : (b : Bool) (x y : Option Num) → OnSome InRange x → OnSome InRange y → OnSome InRange (if b then x else y)
either true x y h g = h
either false x y h g = g

float_in_range : (sign : Bool) (p : Parts) → OnSome InRange (float_of sign p)
unfolding OnSome
float_in_range sign p = either _ (Some (float _)) None refl tt

below_zero : (n : ℕ) → nat_lt 0 n ≡ true → nat_le n (2 ^ 63) ≡ true → (int_le (neg_ℤ (pos (2 ^ 63))) (neg_ℤ (pos n)) && int_lt (neg_ℤ (pos n)) (pos 0)) ≡ true
below_zero n h g = grind (arith, nat_tests, ints)

from_in_range : (sign : Bool) (p : Parts) → OnSome InRange (number_from sign p)
unfolding OnSome
from_in_range false p = either _ (Some (unsigned (digits_of p))) (float_of false p) refl (float_in_range false p)
from_in_range true p = by (is_integer p && nat_lt 0 (digits_of p) && nat_le (digits_of p) (2 ^ 63)) refl
  where
    by : (b : Bool) → (is_integer p && nat_lt 0 (digits_of p) && nat_le (digits_of p) (2 ^ 63)) ≡ b → OnSome InRange (if b then Some (negative (neg_ℤ (pos (digits_of p)))) else float_of true p)
    by true e =
        let parts : ((is_integer p && nat_lt 0 (digits_of p)) ≡ true) × (nat_le (digits_of p) (2 ^ 63) ≡ true) = both (is_integer p && nat_lt 0 (digits_of p)) (nat_le (digits_of p) (2 ^ 63)) e in
        below_zero (digits_of p) (both (is_integer p) (nat_lt 0 (digits_of p)) parts.0).1 parts.1
    by false e = float_in_range true p

number_in_range : (s : List ℕ) → OnSome InRange (number_of s)
unfolding number_of
number_in_range s = either _ (number_from true (scan (drop 1 s))) (number_from false (scan s)) (from_in_range true (scan (drop 1 s))) (from_in_range false (scan s))

-- ---- members

pub members_list-put : (k : List ℕ) (d : Data) (ms : Members) → members_list (put k d ms) ≡ entries.put text_cmp k d (members_list ms)
members_list-put k d no_members = refl
members_list-put k d (member l e ms) = by (text_cmp k l) (members_list-put k d ms)
  where
    by : (o : Ordering) → members_list (put k d ms) ≡ entries.put text_cmp k d (members_list ms)
        → members_list (match_ordering o (member k d (member l e ms)) (member l d ms) (member l e (put k d ms))) ≡ by_order o ((k, d) ∷ (l, e) ∷ members_list ms) ((l, d) ∷ members_list ms) ((l, e) ∷ entries.put text_cmp k d (members_list ms))
    by Less h = refl
    by Equal h = refl
    by Greater h = ap (λ r. let m : List ℕ × Data = (l, e) in m ∷ r) h

pub put_ascends : (k : List ℕ) (d : Data) (ms : Members) → Ascend ms → Ascend (put k d ms)
put_ascends k d ms h = subst (λ es. T (is_sorted text_cmp es)) (sym (members_list-put k d ms)) (is_sorted-put text_cmp nat_list_cmp_total k d (members_list ms) h)

put_has : (k : List ℕ) (d : Data) (ms : Members) → IsSound d → HasSound ms → HasSound (put k d ms)
put_has k d no_members h g = (h, tt)
put_has k d (member l e ms) h g = by (text_cmp k l) (put_has k d ms h g.1)
  where
    by : (o : Ordering) → HasSound (put k d ms) → HasSound (match_ordering o (member k d (member l e ms)) (member l d ms) (member l e (put k d ms)))
    by Less f = (h, g)
    by Equal f = (h, g.1)
    by Greater f = (g.0, f)

-- ---- data

abbrev MembersSound : Members → Type 0
MembersSound ms = Ascend ms × HasSound ms

mutual
  unfolding OnSome

  json_sound : (j : json.Json) → OnSome IsSound (of_json j)
  json_sound json.null = tt
  json_sound (json.boolean b) = tt
  json_sound (json.number s) = mapped InRange IsSound number (λ n h. h) (number_of s) (number_in_range s)
  json_sound (json.string s) = tt
  json_sound (json.array js) = mapped AreSound IsSound array (λ ds h. h) (of_items js) (items_sound js)
  json_sound (json.object ms) = mapped MembersSound IsSound object (λ ms h. h) (of_members ms no_members) (members_sound ms no_members (tt, tt))

  items_sound : (js : json.Items) → OnSome AreSound (of_items js)
  items_sound json.no_items = tt
  items_sound (json.item j js) = chained IsSound AreSound _ (λ d h. mapped AreSound AreSound (item d) (λ ds g. (h, g)) (of_items js) (items_sound js)) (of_json j) (json_sound j)

  members_sound : (ms : json.Members) (found : Members) → MembersSound found → OnSome MembersSound (of_members ms found)
  members_sound json.no_members found h = h
  members_sound (json.member k j ms) found h = chained IsSound MembersSound _ (λ d s. members_sound ms (put k d found) (put_ascends k d found h.0, put_has k d found s h.1)) (of_json j) (json_sound j)

-- the JSON that a text is
abbrev parsed : List ℕ → Option json.Json
parsed text = option_and_then (λ p. json.if_last p.0 p.1) (json.value max_depth (tokens text))

so_some : {A : Type 0} (P : A → Type 0) (x : A) → OnSome P (Some x) → P x
unfolding OnSome
so_some P x h = h

pub text_sound : (text : List ℕ) (d : Data) → read text ≡ Some d → IsSound d
text_sound text d e = so_some IsSound d (subst (OnSome IsSound) e (chained (λ _. Unit {0}) IsSound of_json (λ j h. json_sound j) (parsed text) (any_some (parsed text))))
