-- A schema that was read is read back.
use Rattle.std.specs.Prelude.{◌≡◌, ℕ, ◌||◌, nat_lt, Bool, true, false, length, List, [], ◌∷◌, codes, map as map_list, ok_or, option_map, option_and_then, unwrap_or, Option, Some, None, Result, Ok}
use Rattle.std.specs.Option.{option_or}
use mathlib.Core.Path.{refl, sym, ap, subst, ◌∙◌}
use Rattle.odb_atoms.specs.First.{demand, each}
use Rattle.odb_schema.specs.Json.{Data, Members, string, object, get_member, if_given, members_list, members_of, as_object, object_of, present}
use Rattle.odb_schema.specs.Schema.{Schema, TableSchema}
use Rattle.odb_schema.specs.SchemaText.{IsReadBack, SchemaFault, bad_id, is_name, is_too_large, is_version, max_tables, read_object, read_schema, read_string, read_table, syntax, too_large, write_schema, write_table}
use Rattle.odb_schema.specs.Represented.Members.{table_member}
use Rattle.odb_schema.specs.Represented.Parts.{cksum_of, has_too_wide, is_too_wide, name_of, schema_in, tables_in, tables_of, version_of}
use Rattle.odb_schema.specs.Represented.Sound.{Ascend, HasSound, IsSound}
use Rattle.odb_schema.proofs.Ascending.{each_named, table_named}
use Rattle.odb_schema.proofs.Holds.{Holds, behind, both_hold, next, none_read, once_more, passed_holds, read_so, so_holds, so_read, test_passed, then_holds, with_holds}
use Rattle.odb_schema.proofs.Keys.{keys_beside, keys_of}
use Rattle.odb_schema.proofs.Parts.{schema_members, schema_no_object, schema_too_large}
use Rattle.odb_schema.proofs.RoundTrip.Base.{Back}
use Rattle.odb_schema.proofs.RoundTrip.Found.{at, finds_first, finds_present, found_in, member_sound, needed_holds}
use Rattle.odb_schema.proofs.RoundTrip.Lists.{EachBack, Member, Sized, all_sound, each_back, each_sized, printed_list}
use Rattle.odb_schema.proofs.RoundTrip.Sound.{OnSome}
use Rattle.odb_schema.proofs.RoundTrip.Tables.{SameWidth, TableBack, table_back}

-- ---- the tables of a schema

abbrev TablesBack : List TableSchema → Type 0
TablesBack ts = tables_in (members_of (map_list table_member ts)) ≡ Ok ts

-- whether tables are too many or too wide
abbrev is_large : List Member → Bool
is_large ms = nat_lt max_tables (length ms) || has_too_wide ms

abbrev AsLarge : List Member → List TableSchema → Type 0
AsLarge ms ts = is_large (members_list (members_of (map_list table_member ts))) ≡ is_large ms

abbrev names : List TableSchema → List (List ℕ)
names ts = map_list (λ t. t.name) ts

abbrev IsRead : Members → List TableSchema → Type 0
IsRead ms ts = EachBack (read_table (keys_of (members_list ms))) table_member ts × (names ts ≡ keys_of (members_list ms))

tables_again : (ms : Members) (ts : List TableSchema) → Ascend ms → IsRead ms ts → TablesBack ts
tables_again ms ts up h =
    ap (λ l. each (read_table (keys_of l)) l) (printed_list (λ t. t.name) write_table ms ts up h.1)
    ∙ ap (λ ns. each (read_table ns) (map_list table_member ts)) (keys_beside (λ t. t.name) write_table ts ∙ h.1)
    ∙ h.0

module _ (ms : Members) (up : Ascend ms) (s : HasSound ms) where
  abbrev IsWhole : List TableSchema → Type 0
  IsWhole ts = TablesBack ts × AsLarge (members_list ms) ts

  large_again : (ts : List TableSchema) → names ts ≡ keys_of (members_list ms) → (length (map_list table_member ts) ≡ length (members_list ms)) × (has_too_wide (map_list table_member ts) ≡ has_too_wide (members_list ms)) → AsLarge (members_list ms) ts
  large_again ts same h = ap is_large (printed_list (λ t. t.name) write_table ms ts up same) ∙ (λ i. nat_lt max_tables (h.0 i) || h.1 i)

  tables_back : Holds IsWhole (tables_in ms)
  tables_back =
      let ns : List (List ℕ) = keys_of (members_list ms) in
      let back : (m : Member) → IsSound m.1 → Holds (λ t. TableBack ns t × SameWidth ns m.1 t) (read_table ns m) = λ m h. table_back ns m.0 m.1 h in
      let Sizes : List TableSchema → Type 0 = Sized (read_table ns) table_member (λ m. IsSound m.1) (λ m. is_too_wide m.1) (λ m h. so_holds (λ t. TableBack ns t × SameWidth ns m.1 t) (SameWidth ns m.1) (read_table ns m) (λ t p. p.1) (back m h)) (members_list ms) in
      so_holds (λ ts. IsRead ms ts × Sizes ts) IsWhole (tables_in ms) (λ ts h. (tables_again ms ts up h.0, large_again ts h.0.1 h.1))
      (both_hold (IsRead ms) Sizes (tables_in ms)
      (both_hold (EachBack (read_table ns) table_member) (λ ts. names ts ≡ ns) (tables_in ms)
      (each_back (read_table ns) table_member (λ m. IsSound m.1) (λ m h. so_holds (λ t. TableBack ns t × SameWidth ns m.1 t) (TableBack ns) (read_table ns m) (λ t p. p.0) (back m h)) (members_list ms) (all_sound ms s))
      (each_named (λ t. t.name) (read_table ns) (table_named ns) (members_list ms)))
      (each_sized (read_table ns) table_member (λ m. IsSound m.1) (λ m. is_too_wide m.1) (λ m h. so_holds (λ t. TableBack ns t × SameWidth ns m.1 t) (SameWidth ns m.1) (read_table ns m) (λ t p. p.1) (back m h)) (members_list ms) (all_sound ms s)))

-- the members of an object that is a member
abbrev within : Option Data → List Member
within o = unwrap_or (option_map members_list (option_and_then as_object o)) []

tables_of_back : (o : Option Data) → OnSome IsSound o → Holds (λ ts. TablesBack ts × AsLarge (within o) ts) (next (ok_or o syntax) (λ t. next (read_object t) tables_in))
unfolding OnSome
tables_of_back None h = none_read (λ ts. TablesBack ts × AsLarge [] ts) syntax
tables_of_back (Some (object ms)) h = tables_back ms h.0 h.1
tables_of_back (Some d) h = none_read (λ ts. TablesBack ts × AsLarge (within (Some d)) ts) syntax

-- ---- the other members

abbrev named : Data → Result (List ℕ) SchemaFault
named d = next (read_string d) (λ name. behind (demand (is_name name) bad_id) (Ok name))

abbrev versioned : Data → Result (List ℕ) SchemaFault
versioned d = next (read_string d) (λ version. behind (demand (is_version version) syntax) (Ok version))

name_back : (d : Data) → Holds (Back named string) (named d)
name_back (string s) = passed_holds (Back named string) (is_name s) bad_id _ (λ t. read_so (Back named string) s (test_passed (is_name s) bad_id _ _ t refl))
name_back d = none_read (Back named string) syntax

version_back : (d : Data) → Holds (Back versioned string) (versioned d)
version_back (string s) = passed_holds (Back versioned string) (is_version s) syntax _ (λ t. read_so (Back versioned string) s (test_passed (is_version s) syntax _ _ t refl))
version_back d = none_read (Back versioned string) syntax

cksum_again : (c : Option (List ℕ)) → if_given read_string (option_map string c) ≡ Ok c
cksum_again None = refl
cksum_again (Some s) = refl

-- ---- schemas

abbrev printed_schema : Schema → List Member
printed_schema s =
    (codes "name", string s.name)
    ∷ (codes "version", string s.version)
    ∷ (codes "tables", object_of (map_list (λ t. (t.name, write_table t)) s.tables))
    ∷ present (codes "cksum") (option_map string s.cksum)

found_of_schema : (q : List ℕ) (s : Schema) → get_member q (members_of (printed_schema s)) ≡
    option_or (at q (codes "name") (Some (string s.name)))
    (option_or (at q (codes "version") (Some (string s.version)))
    (option_or (at q (codes "tables") (Some (object_of (map_list table_member s.tables))))
    (at q (codes "cksum") (option_map string s.cksum))))
found_of_schema q s = found_in q (printed_schema s) _ (finds_first q _ _ _ _ (finds_first q _ _ _ _ (finds_first q _ _ _ _ (finds_present q _ _))))

schema_again : (s : Schema) → Back named string s.name → Back versioned string s.version → TablesBack s.tables → schema_in (members_of (printed_schema s)) ≡ Ok s
schema_again s n v t =
    let ms : Members = members_of (printed_schema s) in
    once_more (name_of ms) s.name _ _ (ap (λ o. next (ok_or o syntax) named) (found_of_schema (codes "name") s) ∙ n)
    (once_more (version_of ms) s.version _ _ (ap (λ o. next (ok_or o syntax) versioned) (found_of_schema (codes "version") s) ∙ v)
    (once_more (cksum_of ms) s.cksum _ _ (ap (if_given read_string) (found_of_schema (codes "cksum") s) ∙ cksum_again s.cksum)
    (once_more (tables_of ms) s.tables _ _ (ap (λ o. next (ok_or o syntax) (λ t. next (read_object t) tables_in)) (found_of_schema (codes "tables") s) ∙ t) refl)))

-- the size that a schema has as printed
size_again : (o : Option Data) (s : Schema) → AsLarge (within o) s.tables → is_large (within (get_member (codes "tables") (members_of (printed_schema s)))) ≡ is_large (within o)
size_again o s e = ap (λ p. is_large (within p)) (found_of_schema (codes "tables") s) ∙ e

whole_again : (ms : Members) (s : Schema) → is_too_large (object ms) ≡ false → Back named string s.name → Back versioned string s.version → TablesBack s.tables → AsLarge (within (get_member (codes "tables") ms)) s.tables → IsReadBack s
unfolding write_schema
whole_again ms s small n v t large =
    sym (schema_members (object (members_of (printed_schema s))) (members_of (printed_schema s)) (size_again (get_member (codes "tables") ms) s large ∙ small) refl)
    ∙ schema_again s n v t

-- of the members of an object
pub members_back : (ms : Members) → HasSound ms → is_too_large (object ms) ≡ false → Holds IsReadBack (schema_in ms)
members_back ms s small =
    with_holds (Back named string) IsReadBack (name_of ms) _ (needed_holds (Back named string) named (λ d h. name_back d) (get_member (codes "name") ms) (member_sound (codes "name") ms s))
    (λ name n. with_holds (Back versioned string) IsReadBack (version_of ms) _ (needed_holds (Back versioned string) versioned (λ d h. version_back d) (get_member (codes "version") ms) (member_sound (codes "version") ms s))
    (λ version v. then_holds IsReadBack (cksum_of ms) _
    (λ cksum. with_holds (λ ts. TablesBack ts × AsLarge (within (get_member (codes "tables") ms)) ts) IsReadBack (tables_of ms) _ (tables_of_back (get_member (codes "tables") ms) (member_sound (codes "tables") ms s))
    (λ tables t.
    let whole : Schema = record { name = name; version = version; cksum = cksum; tables = tables } in
    read_so IsReadBack whole (whole_again ms whole small n v t.0 t.1)))))

schema_back : (d : Data) → IsSound d → Holds IsReadBack (read_schema d)
schema_back d h = by d h (is_too_large d) refl
  where
    by : (d : Data) → IsSound d → (b : Bool) → is_too_large d ≡ b → Holds IsReadBack (read_schema d)
    by d h true e = subst (Holds IsReadBack) (sym (schema_too_large d e)) (none_read IsReadBack too_large)
    by (object ms) h false e = subst (Holds IsReadBack) (schema_members (object ms) ms e refl) (members_back ms h.1 e)
    by d h false e = subst (Holds IsReadBack) (sym (schema_no_object d syntax e refl)) (none_read IsReadBack syntax)

-- what is printed of a schema that was read is read back
pub read_back : (d : Data) (s : Schema) → IsSound d → read_schema d ≡ Ok s → IsReadBack s
read_back d s h e = so_read IsReadBack s (subst (Holds IsReadBack) e (schema_back d h))
