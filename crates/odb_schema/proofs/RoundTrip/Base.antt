-- A base type that was read is read back.
use Rattle.std.specs.Prelude.{◌≡◌, ℕ, ℤ, ◌^◌, ◌&&◌, cond, pos, negsuc, neg_ℤ, int_le, int_lt, nat_lt, Bool, true, false, not, if◌then◌else◌, is_none, is_some, List, [], ◌∷◌, ◌++◌, codes, ok_or, option_map, option_and_then, unwrap_or, Option, Some, None, Result, Ok, Err}
use Rattle.std.specs.List.{list_any}
use Rattle.std.specs.Option.{option_or}
use mathlib.Core.Path.{refl, sym, ap, subst, ◌∙◌}
use mathlib.Core.Bool.{true≢false}
use Rattle.std.proofs.Common.{arith}
use Rattle.std.proofs.lemmas.Bool.Decides.{nat_tests}
use Rattle.std.proofs.lemmas.Int.{ints}
use Rattle.serde_json.specs.Data.{unsigned, negative}
use Rattle.odb_atoms.specs.Atom.{Kind, booleans, integers, same_kind, strings, uuids}
use Rattle.odb_atoms.specs.ColType.{Base, Reference, plain}
use Rattle.odb_atoms.specs.First.{demand}
use Rattle.odb_atoms.specs.Text.{same_text}
use Rattle.odb_atoms.specs.Value.{Atoms, set_of}
use Rattle.odb_schema.specs.Json as json
use Rattle.odb_schema.specs.Json.{Data, Members, null, boolean, number, string, array, object, get_member, given_or, if_given, members_of, object_of, present}
use Rattle.odb_schema.specs.Notation.{write_value}
use Rattle.odb_schema.specs.SchemaText.{SchemaFault, bad_type, in_order, is_plain, kind_name, read_base, read_enum, read_integer, read_kind, read_ref_table, read_ref_type, read_string, read_with, syntax, unknown_ref_table, write_base, write_reference}
use Rattle.odb_schema.specs.Represented.Parts.{base_in, bounds_of, enum_of, kind_of, reference_in}
use Rattle.odb_schema.specs.Represented.Sound.{HasSound, IsSound}
use Rattle.odb_schema.proofs.Holds.{Holds, behind, next, none_read, once_more, passed_holds, read_so, test_passed, then_holds, with_holds}
use Rattle.odb_schema.proofs.Parts.{base_in-is}
use Rattle.odb_schema.proofs.RoundTrip.Enum.{enum_back}
use Rattle.odb_schema.proofs.RoundTrip.Found.{Finds, at, finds_first, finds_joined, finds_neither, finds_present, finds_unless, found_in, member_sound}
use Rattle.odb_schema.proofs.Written.{option_or-None}
use Rattle.odb_schema.proofs.RoundTrip.Sound.{OnSome}

-- what was read, printed by w, is read as the same
abbrev pub Back : {A : Type 0} → (Data → Result A SchemaFault) → (A → Data) → A → Type 0
Back r w x = r (w x) ≡ Ok x

-- ---- members that may be given

module _ {A : Type 0} (r : Data → Result A SchemaFault) (w : A → Data) (back : (d : Data) → IsSound d → Holds (Back r w) (r d)) where
  pub given_back : (o : Option Data) → OnSome IsSound o → Holds (λ x. if_given r (option_map w x) ≡ Ok x) (if_given r o)
  unfolding OnSome
  given_back None h = read_so (λ x. if_given r (option_map w x) ≡ Ok x) None refl
  given_back (Some d) h = with_holds (Back r w) (λ x. if_given r (option_map w x) ≡ Ok x) (r d) _ (back d h) (λ x e. read_so (λ x. if_given r (option_map w x) ≡ Ok x) (Some x) (ap (λ q. next q (λ x. Ok (Some x))) e))

  pub with_back : (stands : Bool) (d : Data) → IsSound d → Holds (Back (read_with stands r) w) (read_with stands r d)
  with_back true d h = with_holds (Back r w) (Back (read_with true r) w) (r d) _ (back d h) (λ x e. read_so (Back (read_with true r) w) x (ap (λ q. next q (λ x. Ok x)) e))
  with_back false d h = then_holds (Back (read_with false r) w) (r d) _ (λ x. none_read (Back (read_with false r) w) bad_type)

-- ---- numbers

pub integer_back : (d : Data) → IsSound d → Holds (Back read_integer json.of_integer) (read_integer d)
integer_back (number (unsigned n)) h = by (nat_lt n (2 ^ 63)) refl
  where
    by : (b : Bool) → nat_lt n (2 ^ 63) ≡ b → Holds (Back read_integer json.of_integer) (ok_or (if b then Some (pos n) else None) syntax)
    by true e = read_so (Back read_integer json.of_integer) (pos n) (ap (λ b. ok_or (if b then Some (pos n) else None) syntax) e)
    by false e = none_read (Back read_integer json.of_integer) syntax
integer_back (number (negative (pos n))) h = absurd (let wrong : (int_le (neg_ℤ (pos (2 ^ 63))) (pos n) && int_lt (pos n) (pos 0)) ≡ true = h in grind (arith, nat_tests, ints))
integer_back (number (negative (negsuc n))) h = read_so (Back read_integer json.of_integer) (negsuc n) refl
integer_back d h = none_read (Back read_integer json.of_integer) syntax

-- two bounds, by their members
abbrev bounds : Bool → Option Data → Option Data → Result (Option ℤ × Option ℤ) SchemaFault
bounds stands low high = next (if_given (read_with stands read_integer) low) (λ l. next (if_given (read_with stands read_integer) high) (λ h. behind (demand (in_order int_le l h) bad_type) (Ok (l, h))))

abbrev BoundsBack : Bool → Option ℤ × Option ℤ → Type 0
BoundsBack stands b = bounds stands (option_map json.of_integer b.0) (option_map json.of_integer b.1) ≡ Ok b

bounds_back : (stands : Bool) (low high : Option Data) → OnSome IsSound low → OnSome IsSound high → Holds (BoundsBack stands) (bounds stands low high)
bounds_back stands low high s t =
    let r : Data → Result ℤ SchemaFault = read_with stands read_integer in
    with_holds (λ x. if_given r (option_map json.of_integer x) ≡ Ok x) (BoundsBack stands) (if_given r low) _ (given_back r json.of_integer (with_back read_integer json.of_integer integer_back stands) low s)
    (λ l e. with_holds (λ x. if_given r (option_map json.of_integer x) ≡ Ok x) (BoundsBack stands) (if_given r high) _ (given_back r json.of_integer (with_back read_integer json.of_integer integer_back stands) high t)
    (λ h f. passed_holds (BoundsBack stands) (in_order int_le l h) bad_type _ (λ up. read_so (BoundsBack stands) (l, h)
    (once_more (if_given r (option_map json.of_integer l)) l _ _ e (once_more (if_given r (option_map json.of_integer h)) h _ _ f (test_passed (in_order int_le l h) bad_type _ _ up refl))))))

-- ---- references

-- a reference, by its two members
abbrev referred : List (List ℕ) → Kind → Option Data → Option Data → Result (Option Reference) SchemaFault
referred tables kind t w = next (if_given (read_ref_table tables kind) t) (λ table. next (given_or false (read_with (is_some table) read_ref_type) w) (λ weak. Ok (option_map (λ t. record { table = t; weak = weak }) table)))

abbrev table_member : Option Reference → Option Data
table_member r = option_map (λ r. string r.table) r

abbrev weak_member : Option Reference → Option Data
weak_member r = option_and_then (λ r. cond (not r.weak) None (Some (string (codes "weak")))) r

abbrev ReferenceBack : List (List ℕ) → Kind → Option Reference → Type 0
ReferenceBack tables kind r = referred tables kind (table_member r) (weak_member r) ≡ Ok r

module _ (tables : List (List ℕ)) (kind : Kind) where
  table_back : (d : Data) → Holds (Back (read_ref_table tables kind) string) (read_ref_table tables kind d)
  table_back (string s) = passed_holds (Back (read_ref_table tables kind) string) (same_kind kind uuids) bad_type _ (λ k. passed_holds (Back (read_ref_table tables kind) string) (list_any (same_text s) tables) unknown_ref_table _ (λ t. read_so (Back (read_ref_table tables kind) string) s (test_passed (same_kind kind uuids) bad_type _ _ k (test_passed (list_any (same_text s) tables) unknown_ref_table _ _ t refl))))
  table_back d = none_read (Back (read_ref_table tables kind) string) syntax

  -- the second member prints whether the reference is weak
  weak_back : (name : List ℕ) (w : Bool) → Back (read_ref_table tables kind) string name → ReferenceBack tables kind (Some (record { table = name; weak = w }))
  weak_back name true e = ap (λ q. next (next q (λ x. Ok (Some x))) (λ table. next (given_or false (read_with (is_some table) read_ref_type) (Some (string (codes "weak")))) (λ weak. Ok (option_map (λ t. record { table = t; weak = weak }) table)))) e
  weak_back name false e = ap (λ q. next (next q (λ x. Ok (Some x))) (λ table. next (given_or false (read_with (is_some table) read_ref_type) None) (λ weak. Ok (option_map (λ t. record { table = t; weak = weak }) table)))) e

  named_back : (table : Option (List ℕ)) (w : Option Data) → if_given (read_ref_table tables kind) (option_map string table) ≡ Ok table
      → Holds (ReferenceBack tables kind) (next (given_or false (read_with (is_some table) read_ref_type) w) (λ weak. Ok (option_map (λ t. record { table = t; weak = weak }) table)))
  named_back None w e = then_holds (ReferenceBack tables kind) (given_or false (read_with false read_ref_type) w) _ (λ weak. read_so (ReferenceBack tables kind) None refl)
  named_back (Some name) w e = then_holds (ReferenceBack tables kind) (given_or false (read_with true read_ref_type) w) _ (λ weak. read_so (ReferenceBack tables kind) (Some (record { table = name; weak = weak })) (weak_back name weak (named (read_ref_table tables kind (string name)) e)))
    where
      named : (r : Result (List ℕ) SchemaFault) → next r (λ x. Ok (Some x)) ≡ Ok (Some name) → r ≡ Ok name
      named (Ok x) h = cc
      named (Err f) h = cc

  reference_back : (t w : Option Data) → OnSome IsSound t → Holds (ReferenceBack tables kind) (referred tables kind t w)
  reference_back t w s = with_holds (λ x. if_given (read_ref_table tables kind) (option_map string x) ≡ Ok x) (ReferenceBack tables kind) (if_given (read_ref_table tables kind) t) _ (given_back (read_ref_table tables kind) string (λ d h. table_back d) t s) (λ table e. named_back table w e)

-- ---- what is printed

-- the members of a base type that is printed as an object
abbrev printed : Base → List (List ℕ × Data)
printed b =
    (codes "type", string (kind_name b.kind))
    ∷ present (codes "enum") (option_map (λ s. write_value (set_of s)) b.enum)
    ++ present (codes "minInteger") (option_map json.of_integer b.min_integer)
    ++ present (codes "maxInteger") (option_map json.of_integer b.max_integer)
    ++ present (codes "minLength") (option_map json.of_integer b.min_length)
    ++ present (codes "maxLength") (option_map json.of_integer b.max_length)
    ++ unwrap_or (option_map write_reference b.reference) []

finds_reference : (q : List ℕ) (r : Option Reference) → Finds q (unwrap_or (option_map write_reference r) []) (option_or (at q (codes "refTable") (table_member r)) (at q (codes "refType") (weak_member r)))
finds_reference q None = finds_neither q (codes "refTable") (codes "refType")
finds_reference q (Some r) = finds_first q (codes "refTable") (string r.table) _ _ (finds_unless q (not r.weak) (codes "refType") (string (codes "weak")))

found : (q : List ℕ) (b : Base) → get_member q (members_of (printed b)) ≡
    option_or (option_or (option_or (option_or (option_or (option_or (at q (codes "type") (Some (string (kind_name b.kind))))
    (at q (codes "enum") (option_map (λ s. write_value (set_of s)) b.enum)))
    (at q (codes "minInteger") (option_map json.of_integer b.min_integer)))
    (at q (codes "maxInteger") (option_map json.of_integer b.max_integer)))
    (at q (codes "minLength") (option_map json.of_integer b.min_length)))
    (at q (codes "maxLength") (option_map json.of_integer b.max_length)))
    (option_or (at q (codes "refTable") (table_member b.reference)) (at q (codes "refType") (weak_member b.reference)))
found q b =
    found_in q (printed b) _
    (finds_joined q _ _ _ _ (finds_joined q _ _ _ _ (finds_joined q _ _ _ _ (finds_joined q _ _ _ _ (finds_joined q _ _ _ _
    (finds_first q _ _ _ _ (finds_present q _ _))
    (finds_present q _ _)) (finds_present q _ _)) (finds_present q _ _)) (finds_present q _ _)) (finds_reference q b.reference))

module _ (b : Base) where
  abbrev ms : Members
  ms = members_of (printed b)

  has_type : get_member (codes "type") ms ≡ Some (string (kind_name b.kind))
  has_type = found (codes "type") b

  has_enum : get_member (codes "enum") ms ≡ option_map (λ s. write_value (set_of s)) b.enum
  has_enum = found (codes "enum") b ∙ simp option_or-None

  has_min_integer : get_member (codes "minInteger") ms ≡ option_map json.of_integer b.min_integer
  has_min_integer = found (codes "minInteger") b ∙ simp option_or-None

  has_max_integer : get_member (codes "maxInteger") ms ≡ option_map json.of_integer b.max_integer
  has_max_integer = found (codes "maxInteger") b ∙ simp option_or-None

  has_min_length : get_member (codes "minLength") ms ≡ option_map json.of_integer b.min_length
  has_min_length = found (codes "minLength") b ∙ simp option_or-None

  has_max_length : get_member (codes "maxLength") ms ≡ option_map json.of_integer b.max_length
  has_max_length = found (codes "maxLength") b ∙ simp option_or-None

  has_ref_table : get_member (codes "refTable") ms ≡ table_member b.reference
  has_ref_table = found (codes "refTable") b ∙ simp option_or-None

  has_ref_type : get_member (codes "refType") ms ≡ weak_member b.reference
  has_ref_type = found (codes "refType") b

-- ---- base types

abbrev EnumBack : Kind → Option Atoms → Type 0
EnumBack k e = if_given (read_enum k) (option_map (λ s. write_value (set_of s)) e) ≡ Ok e

pub kind_again : (k : Kind) → read_kind (kind_name k) ≡ Ok k
kind_again integers = refl
kind_again booleans = refl
kind_again strings = refl
kind_again uuids = refl

its_kind : (b : Base) → kind_of (members_of (printed b)) ≡ Ok b.kind
its_kind b = ap (λ o. next (ok_or o syntax) (λ t. next (read_string t) read_kind)) (has_type b) ∙ kind_again b.kind

module _ (tables : List (List ℕ)) where
  -- printed as an object
  members_again : (b : Base) → EnumBack b.kind b.enum → BoundsBack (same_kind b.kind integers) (b.min_integer, b.max_integer) → BoundsBack (same_kind b.kind strings) (b.min_length, b.max_length) → ReferenceBack tables b.kind b.reference
      → base_in tables (members_of (printed b)) ≡ Ok b
  members_again b e i l r =
      once_more (kind_of (ms b)) b.kind _ _ (its_kind b)
      (once_more (enum_of b.kind (ms b)) b.enum _ _ (ap (if_given (read_enum b.kind)) (has_enum b) ∙ e)
      (once_more (bounds_of (codes "minInteger") (codes "maxInteger") (same_kind b.kind integers) (ms b)) (b.min_integer, b.max_integer) _ _ ((λ j. bounds (same_kind b.kind integers) (has_min_integer b j) (has_max_integer b j)) ∙ i)
      (once_more (bounds_of (codes "minLength") (codes "maxLength") (same_kind b.kind strings) (ms b)) (b.min_length, b.max_length) _ _ ((λ j. bounds (same_kind b.kind strings) (has_min_length b j) (has_max_length b j)) ∙ l)
      (once_more (reference_in tables b.kind (ms b)) b.reference _ _ ((λ j. referred tables b.kind (has_ref_table b j) (has_ref_type b j)) ∙ r) refl))))

  pub plain_back : (k : Kind) → Back (read_base tables) write_base (plain k)
  plain_back k = ap (λ r. next r (λ k. Ok (plain k))) (kind_again k)

is_none_of : {A : Type 0} (o : Option A) → is_none o ≡ true → None ≡ o
is_none_of None e = refl
is_none_of (Some x) e = absurd (true≢false (sym e))

six : (a b c d e f : Bool) → (a && b && c && d && e && f) ≡ true → (a ≡ true) × (b ≡ true) × (c ≡ true) × (d ≡ true) × (e ≡ true) × (f ≡ true)
six true true true true true true h = (refl, refl, refl, refl, refl, refl)
six a b c d e f h = absurd (true≢false (sym h))

-- without constraints
pub plain_is : (b : Base) → is_plain b ≡ true → plain b.kind ≡ b
plain_is b h =
    let p = six (is_none b.enum) (is_none b.min_integer) (is_none b.max_integer) (is_none b.min_length) (is_none b.max_length) (is_none b.reference) h in
    λ j. record { kind = b.kind; enum = is_none_of b.enum p.0 j; min_integer = is_none_of b.min_integer p.1 j; max_integer = is_none_of b.max_integer p.2 j; min_length = is_none_of b.min_length p.3 j; max_length = is_none_of b.max_length p.4 j; reference = is_none_of b.reference p.5 j }

module _ (tables : List (List ℕ)) where
  abbrev BaseBack : Base → Type 0
  BaseBack = Back (read_base tables) write_base

  base_again : (b : Base) → EnumBack b.kind b.enum → BoundsBack (same_kind b.kind integers) (b.min_integer, b.max_integer) → BoundsBack (same_kind b.kind strings) (b.min_length, b.max_length) → ReferenceBack tables b.kind b.reference → BaseBack b
  base_again b e i l r = by (is_plain b) refl
    where
      by : (t : Bool) → is_plain b ≡ t → read_base tables (cond t (string (kind_name b.kind)) (object_of (printed b))) ≡ Ok b
      by true h = plain_back tables b.kind ∙ ap Ok (plain_is b h)
      by false h = sym (base_in-is tables (ms b)) ∙ members_again tables b e i l r

  members_back : (ms : Members) → HasSound ms → Holds BaseBack (base_in tables ms)
  members_back ms s =
      then_holds BaseBack (kind_of ms) _
      (λ kind. with_holds (EnumBack kind) BaseBack (enum_of kind ms) _ (given_back (read_enum kind) (λ s. write_value (set_of s)) (enum_back kind) (get_member (codes "enum") ms) (member_sound (codes "enum") ms s))
      (λ enum e. with_holds (BoundsBack (same_kind kind integers)) BaseBack (bounds_of (codes "minInteger") (codes "maxInteger") (same_kind kind integers) ms) _ (bounds_back (same_kind kind integers) (get_member (codes "minInteger") ms) (get_member (codes "maxInteger") ms) (member_sound (codes "minInteger") ms s) (member_sound (codes "maxInteger") ms s))
      (λ integer_bounds i. with_holds (BoundsBack (same_kind kind strings)) BaseBack (bounds_of (codes "minLength") (codes "maxLength") (same_kind kind strings) ms) _ (bounds_back (same_kind kind strings) (get_member (codes "minLength") ms) (get_member (codes "maxLength") ms) (member_sound (codes "minLength") ms s) (member_sound (codes "maxLength") ms s))
      (λ length_bounds l. with_holds (ReferenceBack tables kind) BaseBack (reference_in tables kind ms) _ (reference_back tables kind (get_member (codes "refTable") ms) (get_member (codes "refType") ms) (member_sound (codes "refTable") ms s))
      (λ reference r. read_so BaseBack (record { kind = kind; enum = enum; min_integer = integer_bounds.0; max_integer = integer_bounds.1; min_length = length_bounds.0; max_length = length_bounds.1; reference = reference })
      (base_again (record { kind = kind; enum = enum; min_integer = integer_bounds.0; max_integer = integer_bounds.1; min_length = length_bounds.0; max_length = length_bounds.1; reference = reference }) e i l r))))))

  pub base_back : (d : Data) → IsSound d → Holds (Back (read_base tables) write_base) (read_base tables d)
  base_back (string s) h = then_holds BaseBack (read_kind s) _ (λ k. read_so BaseBack (plain k) (plain_back tables k))
  base_back (object ms) h = subst (Holds BaseBack) (base_in-is tables ms) (members_back ms h.1)
  base_back d h = none_read BaseBack syntax
