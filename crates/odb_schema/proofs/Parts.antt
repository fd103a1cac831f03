-- Readings in parts are those of the definitions.
use Rattle.std.specs.Prelude.{◌≡◌, ◌≤◌, ℕ, ℤ, length, nat_le, not, ok_or, Bool, true, false, List, codes, int_le, is_some, Option, Some, None, option_map, Result, Ok, Err}
use Rattle.std.specs.Str.{IsUtf8, is_utf8}
use Rattle.std.proofs.lemmas.Str.{is_utf8-from_IsUtf8, IsUtf8-from_is_utf8}
use mathlib.Core.Path.{refl, sym, ap, ◌∙◌}
use mathlib.Core.Bool.{true≢false}
use Rattle.std.proofs.Common.{arith}
use Rattle.std.proofs.lemmas.Bool.Decides.{nat_tests}
use Rattle.odb_atoms.specs.Atom.{Kind, integers, same_kind, strings}
use Rattle.odb_atoms.specs.ColType.{Base, Reference, plain, scalar}
use Rattle.odb_atoms.specs.Value.{Atoms}
use Rattle.odb_atoms.specs.First.{demand, ◌>>=◌, ◌>>◌}
use Rattle.serde_json.specs.Read.{read}
use Rattle.odb_schema.specs.Json as json
use Rattle.odb_schema.specs.Json.{Data, Members, array, get_member, given_or, needed, as_object, as_str, boolean, null, number, object, string}
use Rattle.odb_schema.specs.Schema.{Schema}
use Rattle.odb_schema.specs.SchemaText.{SchemaFault, bad_id, bad_type, in_order, is_name, is_too_large, is_version, max_file, read_base, read_column, read_constraints, read_integer, read_kind, read_object, read_ref_table, read_ref_type, read_schema, read_string, read_table, read_type, read_with, schema_of_file, syntax, too_large}
use Rattle.odb_schema.specs.Represented.Parts.{base_in, bounds_of, cksum_of, column_in, columns_in, enum_of, json_of, reference_in, schema_in, table_in, tables_in, tables_of, type_in, version_of}

abbrev next : {A B : Type 0} → Result A SchemaFault → (A → Result B SchemaFault) → Result B SchemaFault
next = ◌>>=◌

abbrev behind : {A B : Type 0} → Result A SchemaFault → Result B SchemaFault → Result B SchemaFault
behind = ◌>>◌

-- ---- steps, regrouped

apart : {A B C : Type 0} (r : Result A SchemaFault) (f : A → Result B SchemaFault) (g : B → Result C SchemaFault) → next (next r f) g ≡ next r (λ x. next (f x) g)
apart (Ok x) f g = refl
apart (Err e) f g = refl

apart_behind : {A B C : Type 0} (r : Result A SchemaFault) (q : Result B SchemaFault) (g : B → Result C SchemaFault) → next (behind r q) g ≡ behind r (next q g)
apart_behind (Ok x) q g = refl
apart_behind (Err e) q g = refl

each_way : {A B : Type 0} (r : Result A SchemaFault) (f g : A → Result B SchemaFault) → ((x : A) → f x ≡ g x) → next r f ≡ next r g
each_way (Ok x) f g same = same x
each_way (Err e) f g same = refl

-- three steps
three : {A B C D : Type 0} (r : Result A SchemaFault) (f : A → Result B SchemaFault) (g : B → Result C SchemaFault) (k : C → Result D SchemaFault) → next (next r (λ x. next (f x) g)) k ≡ next r (λ x. next (f x) (λ y. next (g y) k))
three (Ok x) f g k = apart (f x) g k
three (Err e) f g k = refl

-- two steps and a test
tested : {A B C D : Type 0} (r : Result A SchemaFault) (q : Result B SchemaFault) (test : A → B → Bool) (make : A → B → C) (k : C → Result D SchemaFault)
    → next (next r (λ x. next q (λ y. behind (demand (test x y) bad_type) (Ok (make x y))))) k ≡ next r (λ x. next q (λ y. behind (demand (test x y) bad_type) (k (make x y))))
tested (Err e) q test make k = refl
tested (Ok x) (Err e) test make k = refl
tested (Ok x) (Ok y) test make k = apart_behind (demand (test x y) bad_type) (Ok (make x y)) k

-- two steps and what they make
made : {A B C D : Type 0} (r : Result A SchemaFault) (f : A → Result B SchemaFault) (make : A → B → C) (k : C → Result D SchemaFault)
    → next (next r (λ x. next (f x) (λ y. Ok (make x y)))) k ≡ next r (λ x. next (f x) (λ y. k (make x y)))
made (Err e) f make k = refl
made (Ok x) f make k = apart (f x) (λ y. Ok (make x y)) k

-- a step and a test of what it gives
passed : {A B : Type 0} (r : Result A SchemaFault) (test : A → Bool) (e : SchemaFault) (k : A → Result B SchemaFault) → next (next r (λ x. behind (demand (test x) e) (Ok x))) k ≡ next r (λ x. behind (demand (test x) e) (k x))
passed (Err f) test e k = refl
passed (Ok x) test e k = apart_behind (demand (test x) e) (Ok x) k

-- ---- base types and types

module _ (tables : List (List ℕ)) (ms : Members) where
  abbrev bound : Bool → List ℕ → Result (Option ℤ) SchemaFault
  bound stands key = json.if_given (read_with stands read_integer) (get_member key ms)

  abbrev table_at : Kind → Result (Option (List ℕ)) SchemaFault
  table_at kind = json.if_given (read_ref_table tables kind) (get_member (codes "refTable") ms)

  abbrev weak_at : Option (List ℕ) → Result Bool SchemaFault
  weak_at table = given_or false (read_with (is_some table) read_ref_type) (get_member (codes "refType") ms)

  abbrev whole : Kind → Option Atoms → Option ℤ × Option ℤ → Option ℤ × Option ℤ → Option Reference → Base
  whole kind enum i l r = record { kind = kind; enum = enum; min_integer = i.0; max_integer = i.1; min_length = l.0; max_length = l.1; reference = r }

  referring : (kind : Kind) (enum : Option Atoms) (i l : Option ℤ × Option ℤ)
      → next (reference_in tables kind ms) (λ r. Ok (whole kind enum i l r)) ≡ next (table_at kind) (λ t. next (weak_at t) (λ w. Ok (whole kind enum i l (option_map (λ t. record { table = t; weak = w }) t))))
  referring kind enum i l = made (table_at kind) weak_at (λ t w. option_map (λ t. record { table = t; weak = w }) t) (λ r. Ok (whole kind enum i l r))

  abbrev after_lengths : Kind → Option Atoms → Option ℤ × Option ℤ → Option ℤ × Option ℤ → Result Base SchemaFault
  after_lengths kind enum i l = next (table_at kind) (λ t. next (weak_at t) (λ w. Ok (whole kind enum i l (option_map (λ t. record { table = t; weak = w }) t))))

  lengths : (kind : Kind) (enum : Option Atoms) (i : Option ℤ × Option ℤ)
      → next (bounds_of (codes "minLength") (codes "maxLength") (same_kind kind strings) ms) (λ l. next (reference_in tables kind ms) (λ r. Ok (whole kind enum i l r)))
      ≡ next (bound (same_kind kind strings) (codes "minLength")) (λ x. next (bound (same_kind kind strings) (codes "maxLength")) (λ y. behind (demand (in_order int_le x y) bad_type) (after_lengths kind enum i (x, y))))
  lengths kind enum i =
      each_way (bounds_of (codes "minLength") (codes "maxLength") (same_kind kind strings) ms) _ _ (λ l. referring kind enum i l)
      ∙ tested (bound (same_kind kind strings) (codes "minLength")) (bound (same_kind kind strings) (codes "maxLength")) (in_order int_le) (λ x y. (x, y)) (λ l. after_lengths kind enum i l)

  abbrev after_integers : Kind → Option Atoms → Option ℤ × Option ℤ → Result Base SchemaFault
  after_integers kind enum i = next (bound (same_kind kind strings) (codes "minLength")) (λ x. next (bound (same_kind kind strings) (codes "maxLength")) (λ y. behind (demand (in_order int_le x y) bad_type) (after_lengths kind enum i (x, y))))

  bounded : (kind : Kind) (enum : Option Atoms)
      → next (bounds_of (codes "minInteger") (codes "maxInteger") (same_kind kind integers) ms) (λ i. next (bounds_of (codes "minLength") (codes "maxLength") (same_kind kind strings) ms) (λ l. next (reference_in tables kind ms) (λ r. Ok (whole kind enum i l r))))
      ≡ next (bound (same_kind kind integers) (codes "minInteger")) (λ x. next (bound (same_kind kind integers) (codes "maxInteger")) (λ y. behind (demand (in_order int_le x y) bad_type) (after_integers kind enum (x, y))))
  bounded kind enum =
      each_way (bounds_of (codes "minInteger") (codes "maxInteger") (same_kind kind integers) ms) _ _ (λ i. lengths kind enum i)
      ∙ tested (bound (same_kind kind integers) (codes "minInteger")) (bound (same_kind kind integers) (codes "maxInteger")) (in_order int_le) (λ x y. (x, y)) (λ i. after_integers kind enum i)

  pub base_in-is : base_in tables ms ≡ read_constraints tables ms
  base_in-is =
      three (needed syntax (codes "type") ms) read_string read_kind _
      ∙ each_way (needed syntax (codes "type") ms) _ _ (λ t. each_way (read_string t) _ _ (λ name. each_way (read_kind name) _ _ (λ kind. each_way (enum_of kind ms) _ _ (λ enum. bounded kind enum))))

-- the name of an atomic type
pub base_named : (tables : List (List ℕ)) (d : Data) (s : List ℕ) (k : Kind) → Some s ≡ as_str d → read_kind s ≡ Ok k → read_base tables d ≡ Ok (plain k)
base_named tables null s k e h = cc
base_named tables (boolean b) s k e h = cc
base_named tables (number n) s k e h = cc
base_named tables (string t) s k e h = let same : s ≡ t = cc in ap (λ r. next r (λ k. Ok (plain k))) (ap read_kind (sym same) ∙ h)
base_named tables (array ds) s k e h = cc
base_named tables (object ms) s k e h = cc

-- an object
pub base_members : (tables : List (List ℕ)) (d : Data) (ms : Members) → None ≡ as_str d → read_object d ≡ Ok ms → base_in tables ms ≡ read_base tables d
base_members tables null ms e h = cc
base_members tables (boolean b) ms e h = cc
base_members tables (number n) ms e h = cc
base_members tables (string t) ms e h = cc
base_members tables (array ds) ms e h = cc
base_members tables (object ns) ms e h = let same : ns ≡ ms = cc in base_in-is tables ms ∙ ap (read_constraints tables) (sym same)

pub type_named : (tables : List (List ℕ)) (d : Data) (s : List ℕ) (k : Kind) → Some s ≡ as_str d → read_kind s ≡ Ok k → read_type tables d ≡ Ok (scalar k)
type_named tables null s k e h = cc
type_named tables (boolean b) s k e h = cc
type_named tables (number n) s k e h = cc
type_named tables (string t) s k e h = let same : s ≡ t = cc in ap (λ r. next r (λ k. Ok (scalar k))) (ap read_kind (sym same) ∙ h)
type_named tables (array ds) s k e h = cc
type_named tables (object ms) s k e h = cc

pub type_in-is : (tables : List (List ℕ)) (ms : Members) → type_in tables ms ≡ read_type tables (object ms)
type_in-is tables ms = apart (needed syntax (codes "key") ms) (read_base tables) _

pub type_members : (tables : List (List ℕ)) (d : Data) (ms : Members) → None ≡ as_str d → read_object d ≡ Ok ms → type_in tables ms ≡ read_type tables d
type_members tables null ms e h = cc
type_members tables (boolean b) ms e h = cc
type_members tables (number n) ms e h = cc
type_members tables (string t) ms e h = cc
type_members tables (array ds) ms e h = cc
type_members tables (object ns) ms e h = let same : ns ≡ ms = cc in type_in-is tables ms ∙ ap (λ m. read_type tables (object m)) (sym same)

-- ---- columns, tables and schemas

-- the rest, after a name that is tested and the object's members
behind_name : {A : Type 0} (b : Bool) (r : Result Members SchemaFault) (ms : Members) (f : Members → Result A SchemaFault) → b ≡ true → r ≡ Ok ms → f ms ≡ behind (demand b bad_id) (next r f)
behind_name true r ms f e h = ap (λ r. next r f) (sym h)
behind_name false r ms f e h = cc

pub column_members : (tables : List (List ℕ)) (name : List ℕ) (d : Data) (ms : Members) → is_name name ≡ true → read_object d ≡ Ok ms → column_in tables name ms ≡ read_column tables (name, d)
column_members tables name d ms e h = apart (needed syntax (codes "type") ms) (read_type tables) _ ∙ behind_name (is_name name) (read_object d) ms _ e h

pub table_members : (tables : List (List ℕ)) (name : List ℕ) (d : Data) (ms : Members) → is_name name ≡ true → read_object d ≡ Ok ms → table_in tables name ms ≡ read_table tables (name, d)
table_members tables name d ms e h = three (needed syntax (codes "columns") ms) read_object (columns_in tables) _ ∙ behind_name (is_name name) (read_object d) ms _ e h

-- the rest, after a test of the size
in_size : {A : Type 0} (b : Bool) (r : Result A SchemaFault) → b ≡ false → r ≡ behind (demand (not b) too_large) r
in_size true r e = absurd (true≢false e)
in_size false r e = refl

abbrev described : Members → List ℕ → List ℕ → Option (List ℕ) → Result Schema SchemaFault
described ms name version cksum = do
  t ← needed syntax (codes "tables") ms
  tables ← read_object t
  described ← tables_in tables
  Ok (record { name = name; version = version; cksum = cksum; tables = described })

abbrev versioned : Members → List ℕ → Result Schema SchemaFault
versioned ms name = do
  v ← needed syntax (codes "version") ms
  version ← read_string v
  demand (is_version version) syntax
  cksum ← cksum_of ms
  described ms name version cksum

abbrev named : Members → Result Schema SchemaFault
named ms = do
  n ← needed syntax (codes "name") ms
  name ← read_string n
  demand (is_name name) bad_id
  versioned ms name

pub schema_in-is : (ms : Members) → schema_in ms ≡ named ms
schema_in-is ms = three (needed syntax (codes "name") ms) read_string (λ name. behind (demand (is_name name) bad_id) (Ok name)) _ ∙ each_way (needed syntax (codes "name") ms) _ _ (λ n. each_way (read_string n) _ _ (λ name. apart_behind (demand (is_name name) bad_id) (Ok name) _ ∙ ap (behind (demand (is_name name) bad_id)) (by_version name)))
  where
    by_tables : (name version : List ℕ) (cksum : Option (List ℕ)) → next (tables_of ms) (λ tables. Ok (record { name = name; version = version; cksum = cksum; tables = tables })) ≡ described ms name version cksum
    by_tables name version cksum = three (needed syntax (codes "tables") ms) read_object tables_in _

    by_version : (name : List ℕ) → next (version_of ms) (λ version. next (cksum_of ms) (λ cksum. next (tables_of ms) (λ tables. Ok (record { name = name; version = version; cksum = cksum; tables = tables })))) ≡ versioned ms name
    by_version name =
        three (needed syntax (codes "version") ms) read_string (λ version. behind (demand (is_version version) syntax) (Ok version)) _
        ∙ each_way (needed syntax (codes "version") ms) _ _ (λ v. each_way (read_string v) _ _ (λ version. apart_behind (demand (is_version version) syntax) (Ok version) _ ∙ ap (behind (demand (is_version version) syntax)) (each_way (cksum_of ms) _ _ (λ cksum. by_tables name version cksum))))

pub schema_members : (d : Data) (ms : Members) → is_too_large d ≡ false → read_object d ≡ Ok ms → schema_in ms ≡ read_schema d
unfolding read_schema
schema_members d ms e h = schema_in-is ms ∙ ap (λ r. next r named) (sym h) ∙ in_size (is_too_large d) (next (read_object d) named) e

pub schema_no_object : (d : Data) (f : SchemaFault) → is_too_large d ≡ false → read_object d ≡ Err f → read_schema d ≡ Err f
unfolding read_schema
schema_no_object d f e h = sym (in_size (is_too_large d) (next (read_object d) named) e) ∙ ap (λ r. next r named) h

pub schema_too_large : (d : Data) → is_too_large d ≡ true → read_schema d ≡ Err too_large
unfolding read_schema
schema_too_large d e = ap (λ b. behind (demand (not b) too_large) (next (read_object d) named)) e

-- ---- texts

pub json_read : (text : List ℕ) (d : Data) → IsUtf8 text → read text ≡ Some d → json_of text ≡ Ok d
json_read text d utf8 is = rw (is_utf8-from_IsUtf8 text utf8, is) refl

pub json_refused : (text : List ℕ) → (IsUtf8 text → read text ≡ None) → json_of text ≡ Err syntax
json_refused text refused = by (is_utf8 text) refl
  where
    by : (b : Bool) → is_utf8 text ≡ b → behind (demand b syntax) (ok_or (read text) syntax) ≡ Err syntax
    by true is = ap (λ o. ok_or o syntax) (refused (IsUtf8-from_is_utf8 text is))
    by false is = refl

abbrev in_file : Bool → Bool → Option Data → Result Schema SchemaFault
in_file small utf8 o = behind (demand small too_large) (behind (demand utf8 syntax) (behind (demand small too_large) (next (ok_or o syntax) read_schema)))

found : (small utf8 : Bool) (o : Option Data) (d : Data) → small ≡ true → behind (demand utf8 syntax) (ok_or o syntax) ≡ Ok d → read_schema d ≡ in_file small utf8 o
found false utf8 o d e h = absurd (true≢false (sym e))
found true false o d e h = cc
found true true None d e h = cc
found true true (Some x) d e h = ap (λ r. next r read_schema) (sym h)

missed : (small utf8 : Bool) (o : Option Data) (f : SchemaFault) → small ≡ true → behind (demand utf8 syntax) (ok_or o syntax) ≡ Err f → in_file small utf8 o ≡ Err f
missed false utf8 o f e h = absurd (true≢false (sym e))
missed true false o f e h = cc
missed true true None f e h = cc
missed true true (Some x) f e h = cc

fits : (n : ℕ) → n ≤ max_file → nat_le n max_file ≡ true
fits n h = grind (arith, nat_tests)

-- the schema that a file is, by its size and its JSON
pub file_read : (text : List ℕ) (d : Data) → length text ≤ max_file → json_of text ≡ Ok d → read_schema d ≡ schema_of_file text
file_read text d small is = found (nat_le (length text) max_file) (is_utf8 text) (read text) d (fits (length text) small) is

pub file_refused : (text : List ℕ) (f : SchemaFault) → length text ≤ max_file → json_of text ≡ Err f → schema_of_file text ≡ Err f
file_refused text f small is = missed (nat_le (length text) max_file) (is_utf8 text) (read text) f (fits (length text) small) is
