-- Types and columns that were read are read back.
use Rattle.std.specs.Prelude.{◌≡◌, ℕ, ℤ, ◌&&◌, cond, pos, negsuc, nat_le, Bool, true, false, not, ◌==◌, is_some, List, ◌∷◌, ◌++◌, codes, ok_or, option_map, unwrap_or, Option, Some, None, Ok}
use Rattle.std.specs.Option.{option_or}
use mathlib.Core.Path.{refl, sym, ap, subst, ◌∙◌}
use mathlib.Core.Bool.{true≢false}
use Rattle.std.specs.Cmp.{unsigned_Decides}
use Rattle.odb_atoms.specs.ColType.{Base, ColType, is_one, is_scalar, scalar}
use Rattle.odb_atoms.specs.First.{demand}
use Rattle.odb_atoms.specs.Text.{same_text}
use Rattle.odb_atoms.proofs.Lists.{both}
use Rattle.odb_schema.specs.Json as json
use Rattle.odb_schema.specs.Json.{Data, Members, null, boolean, number, string, array, object, get_member, given_or, if_given, members_of, needed, object_of, present}
use Rattle.odb_schema.specs.Schema.{Column}
use Rattle.odb_schema.specs.SchemaText.{bad_id, bad_type, is_name, is_plain, kind_name, of_natural, read_base, read_between, read_bool, read_column, read_integer, read_kind, read_max, read_type, syntax, unless, within, write_base, write_column, write_max, write_type}
use Rattle.odb_schema.specs.Represented.Parts.{column_in, column_type_of, flag_of, key_of, max_of, min_of, type_in, value_of}
use Rattle.odb_schema.specs.Represented.Sound.{HasSound, IsSound}
use Rattle.odb_schema.proofs.Holds.{Holds, next, none_read, once_more, passed_holds, same_behind, so_holds, read_so, test_passed, tested_holds, then_holds, with_holds}
use Rattle.odb_schema.proofs.Parts.{column_members, type_in-is}
use Rattle.odb_schema.proofs.RoundTrip.Base.{Back, base_back, given_back, integer_back, kind_again, plain_is}
use Rattle.odb_schema.proofs.RoundTrip.Found.{Finds, at, finds_first, finds_joined, finds_one, finds_present, finds_unless, found_in, member_sound, needed_holds}
use Rattle.odb_schema.proofs.Written.{option_or-None}
use Rattle.odb_schema.proofs.RoundTrip.Sound.{OnSome}

-- ---- numbers in a range

pub range_back : (low : ℕ) (high : Option ℕ) (d : Data) → IsSound d → Holds (Back (read_between low high) of_natural) (read_between low high d)
range_back low high d h = with_holds (Back read_integer json.of_integer) (Back (read_between low high) of_natural) (read_integer d) _ (integer_back d h) by
  where
    by : (z : ℤ) → Back read_integer json.of_integer z → Holds (Back (read_between low high) of_natural) (within low high z)
    by (pos n) e = passed_holds (Back (read_between low high) of_natural) (nat_le low n && unwrap_or (option_map (nat_le n) high) true) bad_type _ (λ t. read_so (Back (read_between low high) of_natural) n (once_more (read_integer (of_natural n)) (pos n) (within low high) _ e (test_passed (nat_le low n && unwrap_or (option_map (nat_le n) high) true) bad_type _ _ t refl)))
    by (negsuc n) e = none_read (Back (read_between low high) of_natural) bad_type

-- a number that is left out where it is 1
abbrev unless_one : ℕ → Option Data
unless_one n = cond (n == 1) None (Some (of_natural n))

abbrev MinBack : ℕ → Type 0
MinBack n = given_or 1 (read_between 0 (Some 1)) (unless_one n) ≡ Ok n

one : (n : ℕ) → (n == 1) ≡ true → 1 ≡ n
one n e = sym ((unsigned_Decides n 1).0 e)

min_again : (n : ℕ) → Back (read_between 0 (Some 1)) of_natural n → MinBack n
min_again n e = by (n == 1) refl
  where
    by : (b : Bool) → (n == 1) ≡ b → given_or 1 (read_between 0 (Some 1)) (cond b None (Some (of_natural n))) ≡ Ok n
    by true h = ap Ok (one n h)
    by false h = e

min_back : (o : Option Data) → OnSome IsSound o → Holds MinBack (given_or 1 (read_between 0 (Some 1)) o)
unfolding OnSome
min_back None h = read_so MinBack 1 refl
min_back (Some d) h = so_holds (Back (read_between 0 (Some 1)) of_natural) MinBack (read_between 0 (Some 1) d) min_again (range_back 0 (Some 1) d h)

-- the member for the most elements
abbrev max_member : Option ℕ → Option Data
max_member None = Some (string (codes "unlimited"))
max_member (Some n) = unless_one n

abbrev MaxBack : Option ℕ → Type 0
MaxBack m = given_or (Some 1) read_max (max_member m) ≡ Ok m

abbrev most : ℕ
most = 4294967295

max_again : (n : ℕ) → Back (read_between 1 (Some most)) of_natural n → MaxBack (Some n)
max_again n e = by (n == 1) refl
  where
    by : (b : Bool) → (n == 1) ≡ b → given_or (Some 1) read_max (cond b None (Some (of_natural n))) ≡ Ok (Some n)
    by true h = ap (λ n. Ok (Some n)) (one n h)
    by false h = ap (λ r. next r (λ n. Ok (Some n))) e

read_max_back : (d : Data) → IsSound d → Holds MaxBack (read_max d)
read_max_back (string s) h = tested_holds MaxBack (demand (same_text s (codes "unlimited")) bad_type) _ (read_so MaxBack None refl)
read_max_back (number n) h = with_holds (Back (read_between 1 (Some most)) of_natural) MaxBack (read_between 1 (Some most) (number n)) _ (range_back 1 (Some most) (number n) h) (λ n e. read_so MaxBack (Some n) (max_again n e))
read_max_back d h = none_read MaxBack syntax

max_back : (o : Option Data) → OnSome IsSound o → Holds MaxBack (given_or (Some 1) read_max o)
unfolding OnSome
max_back None h = read_so MaxBack (Some 1) refl
max_back (Some d) h = read_max_back d h

-- ---- types

abbrev printed_type : ColType → List (List ℕ × Data)
printed_type t = (codes "key", write_base t.key) ∷ present (codes "value") (option_map write_base t.value) ++ unless (t.min == 1) (codes "min") (of_natural t.min) ++ write_max t.max

finds_max : (q : List ℕ) (m : Option ℕ) → Finds q (write_max m) (at q (codes "max") (max_member m))
finds_max q None = finds_one q (codes "max") (string (codes "unlimited"))
finds_max q (Some n) = finds_unless q (n == 1) (codes "max") (of_natural n)

found_of_type : (q : List ℕ) (t : ColType) → get_member q (members_of (printed_type t)) ≡
    option_or (option_or (option_or (at q (codes "key") (Some (write_base t.key)))
    (at q (codes "value") (option_map write_base t.value)))
    (at q (codes "min") (unless_one t.min)))
    (at q (codes "max") (max_member t.max))
found_of_type q t =
    found_in q (printed_type t) _
    (finds_joined q _ _ _ _ (finds_joined q _ _ _ _
    (finds_first q _ _ _ _ (finds_present q _ _))
    (finds_unless q _ _ _)) (finds_max q t.max))

one_is : (m : Option ℕ) → is_one m ≡ true → Some 1 ≡ m
one_is None e = absurd (true≢false (sym e))
one_is (Some n) e = ap Some (one n e)

none_is : {A : Type 0} (o : Option A) → not (is_some o) ≡ true → None ≡ o
none_is None e = refl
none_is (Some x) e = absurd (true≢false (sym e))

-- a scalar without constraints
scalar_is : (t : ColType) → (is_scalar t && is_plain t.key) ≡ true → scalar t.key.kind ≡ t
scalar_is t h =
    let p = both (is_scalar t) (is_plain t.key) h in
    let q = both (is_one t.max && (t.min == 1)) (not (is_some t.value)) p.0 in
    let r = both (is_one t.max) (t.min == 1) q.0 in
    λ j. record { key = plain_is t.key p.1 j; value = none_is t.value q.1 j; min = one t.min r.1 j; max = one_is t.max r.0 j }

module _ (tables : List (List ℕ)) where
  abbrev TypeBack : ColType → Type 0
  TypeBack = Back (read_type tables) write_type

  abbrev ValueBack : Option Base → Type 0
  ValueBack v = if_given (read_base tables) (option_map write_base v) ≡ Ok v

  type_members_again : (t : ColType) → Back (read_base tables) write_base t.key → ValueBack t.value → MinBack t.min → MaxBack t.max → type_in tables (members_of (printed_type t)) ≡ Ok t
  type_members_again t k v n m =
      let ms : Members = members_of (printed_type t) in
      let value_is : get_member (codes "value") ms ≡ option_map write_base t.value = found_of_type (codes "value") t ∙ simp option_or-None in
      once_more (key_of tables ms) t.key _ _ (ap (λ o. next (ok_or o syntax) (read_base tables)) (found_of_type (codes "key") t) ∙ k)
      (once_more (value_of tables ms) t.value _ _ (ap (if_given (read_base tables)) value_is ∙ v)
      (once_more (min_of ms) t.min _ _ (ap (given_or 1 (read_between 0 (Some 1))) (found_of_type (codes "min") t ∙ option_or-None (unless_one t.min)) ∙ n)
      (once_more (max_of ms) t.max _ _ (ap (given_or (Some 1) read_max) (found_of_type (codes "max") t) ∙ m) refl)))

  type_again : (t : ColType) → Back (read_base tables) write_base t.key → ValueBack t.value → MinBack t.min → MaxBack t.max → TypeBack t
  type_again t k v n m = by (is_scalar t && is_plain t.key) refl
    where
      by : (b : Bool) → (is_scalar t && is_plain t.key) ≡ b → read_type tables (cond b (string (kind_name t.key.kind)) (object_of (printed_type t))) ≡ Ok t
      by true h = ap (λ r. next r (λ k. Ok (scalar k))) (kind_again t.key.kind) ∙ ap Ok (scalar_is t h)
      by false h = sym (type_in-is tables (members_of (printed_type t))) ∙ type_members_again t k v n m

  type_members_back : (ms : Members) → HasSound ms → Holds TypeBack (type_in tables ms)
  type_members_back ms s =
      with_holds (Back (read_base tables) write_base) TypeBack (key_of tables ms) _ (needed_holds (Back (read_base tables) write_base) (read_base tables) (base_back tables) (get_member (codes "key") ms) (member_sound (codes "key") ms s))
      (λ key k. with_holds ValueBack TypeBack (value_of tables ms) _ (given_back (read_base tables) write_base (base_back tables) (get_member (codes "value") ms) (member_sound (codes "value") ms s))
      (λ value v. with_holds MinBack TypeBack (min_of ms) _ (min_back (get_member (codes "min") ms) (member_sound (codes "min") ms s))
      (λ min n. with_holds MaxBack TypeBack (max_of ms) _ (max_back (get_member (codes "max") ms) (member_sound (codes "max") ms s))
      (λ max m. read_so TypeBack (record { key = key; value = value; min = min; max = max }) (type_again (record { key = key; value = value; min = min; max = max }) k v n m)))))

  type_back : (d : Data) → IsSound d → Holds TypeBack (read_type tables d)
  type_back (string s) h = then_holds TypeBack (read_kind s) _ (λ k. read_so TypeBack (scalar k) (ap (λ r. next r (λ k. Ok (scalar k))) (kind_again k)))
  type_back (object ms) h = subst (Holds TypeBack) (type_in-is tables ms) (type_members_back ms h.1)
  type_back d h = none_read TypeBack syntax

-- ---- columns

abbrev printed_column : Column → List (List ℕ × Data)
printed_column c = (codes "type", write_type c.type) ∷ unless (not c.ephemeral) (codes "ephemeral") (boolean true) ++ unless c.mutable (codes "mutable") (boolean false)

-- a flag that is printed where it is true, and one where it is false
abbrev pub true_member : Bool → Option Data
true_member b = cond (not b) None (Some (boolean true))

abbrev false_member : Bool → Option Data
false_member b = cond b None (Some (boolean false))

found_of_column : (q : List ℕ) (c : Column) → get_member q (members_of (printed_column c)) ≡
    option_or (option_or (at q (codes "type") (Some (write_type c.type)))
    (at q (codes "ephemeral") (true_member c.ephemeral)))
    (at q (codes "mutable") (false_member c.mutable))
found_of_column q c = found_in q (printed_column c) _ (finds_joined q _ _ _ _ (finds_first q _ _ _ _ (finds_unless q _ _ _)) (finds_unless q _ _ _))

pub true_again : (b : Bool) → given_or false read_bool (true_member b) ≡ Ok b
true_again true = refl
true_again false = refl

false_again : (b : Bool) → given_or true read_bool (false_member b) ≡ Ok b
false_again true = refl
false_again false = refl

module _ (tables : List (List ℕ)) where
  abbrev pub ColumnBack : Column → Type 0
  ColumnBack c = read_column tables (c.name, write_column c) ≡ Ok c

  column_again : (c : Column) → is_name c.name ≡ true → Back (read_type tables) write_type c.type → ColumnBack c
  column_again c named t =
      let ms : Members = members_of (printed_column c) in
      sym (column_members tables c.name (object ms) ms named refl)
      ∙ once_more (column_type_of tables ms) c.type _ _ (ap (λ o. next (ok_or o syntax) (read_type tables)) (found_of_column (codes "type") c) ∙ t)
      (once_more (flag_of (codes "ephemeral") false ms) c.ephemeral _ _ (ap (given_or false read_bool) (found_of_column (codes "ephemeral") c ∙ option_or-None (true_member c.ephemeral)) ∙ true_again c.ephemeral)
      (once_more (flag_of (codes "mutable") true ms) c.mutable _ _ (ap (given_or true read_bool) (found_of_column (codes "mutable") c) ∙ false_again c.mutable) refl))

  column_members_back : (name : List ℕ) (ms : Members) → HasSound ms → is_name name ≡ true → Holds ColumnBack (column_in tables name ms)
  column_members_back name ms s named =
      with_holds (Back (read_type tables) write_type) ColumnBack (column_type_of tables ms) _ (needed_holds (Back (read_type tables) write_type) (read_type tables) (type_back tables) (get_member (codes "type") ms) (member_sound (codes "type") ms s))
      (λ type t. then_holds ColumnBack (flag_of (codes "ephemeral") false ms) _
      (λ ephemeral. then_holds ColumnBack (flag_of (codes "mutable") true ms) _
      (λ mutable. read_so ColumnBack (record { name = name; type = type; ephemeral = ephemeral; mutable = mutable }) (column_again (record { name = name; type = type; ephemeral = ephemeral; mutable = mutable }) named t))))

  pub column_back : (name : List ℕ) (d : Data) → IsSound d → Holds ColumnBack (read_column tables (name, d))
  column_back name (object ms) h = same_behind ColumnBack (is_name name) bad_id _ (column_in tables name ms) (λ named. column_members tables name (object ms) ms named refl) (λ named. column_members_back name ms h.1 named)
  column_back name d h = tested_holds ColumnBack (demand (is_name name) bad_id) _ (none_read ColumnBack syntax)
