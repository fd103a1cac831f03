-- Indexes and tables that were read are read back.
use Rattle.std.specs.Prelude.{◌≡◌, ℕ, suc, ◌&&◌, ◌==◌, cond, nat_lt, true, false, not, length, List, [], ◌∷◌, ◌++◌, codes, map as map_list, ok_or, option_map, option_and_then, unwrap_or, Option, Some, None, Ok}
use Rattle.std.specs.List.{AllByRecursion, list_any}
use Rattle.std.specs.Option.{option_or}
use mathlib.Core.Path.{refl, sym, ap, ◌∙◌}
use Rattle.std.proofs.Common.{arith}
use Rattle.std.proofs.lemmas.Bool.Decides.{nat_tests}
use Rattle.odb_atoms.specs.First.{demand, each}
use Rattle.odb_atoms.specs.Text.{same_text}
use Rattle.odb_schema.specs.Json.{Data, Members, boolean, string, array, object, array_of, as_object, get_member, given_or, if_given, items_list, items_of, members_list, members_of, object_of, present}
use Rattle.odb_schema.specs.Schema.{Column, TableSchema}
use Rattle.odb_schema.specs.SchemaText.{bad_id, bad_index, distinct_names, is_indexable, is_name, max_columns, of_natural, read_between, read_bool, read_column, read_index, read_list, read_object, read_string, read_table, syntax, unless, write_column, write_index, write_table}
use Rattle.odb_schema.specs.Represented.Members.{column_member}
use Rattle.odb_schema.specs.Represented.Parts.{columns_in, columns_of, flag_of, indexes_of, is_too_wide, max_rows_of, table_in}
use Rattle.odb_schema.specs.Represented.Sound.{Ascend, HasSound, IsSound}
use Rattle.odb_schema.proofs.Ascending.{column_named, each_named}
use Rattle.odb_schema.proofs.Holds.{Holds, both_hold, next, none_read, once_more, passed_holds, read_so, same_behind, so_holds, test_passed, tested_holds, then_holds, with_holds}
use Rattle.odb_schema.proofs.Keys.{keys_of}
use Rattle.odb_schema.proofs.Parts.{table_members}
use Rattle.odb_schema.proofs.RoundTrip.Base.{Back, given_back}
use Rattle.odb_schema.proofs.RoundTrip.Columns.{column_back, range_back, true_again, true_member}
use Rattle.odb_schema.proofs.RoundTrip.Found.{at, finds_first, finds_joined, finds_present, finds_unless, found_in, member_sound}
use Rattle.odb_schema.proofs.RoundTrip.Lists.{EachBack, Member, all_sound, each_back, printed_list}
use Rattle.odb_schema.proofs.Written.{option_or-None}
use Rattle.odb_schema.proofs.RoundTrip.Sound.{OnSome}

-- ---- indexes

items_list-items_of : (ds : List Data) → items_list (items_of ds) ≡ ds
items_list-items_of [] = refl
items_list-items_of (d ∷ ds) = ap (λ es. d ∷ es) (items_list-items_of ds)

not_zero : (n : ℕ) → (suc n == 0) ≡ false
not_zero n = grind (arith, nat_tests)

module _ (cs : List Column) where
  abbrev NamesBack : List (List ℕ) → List (List ℕ) → Type 0
  NamesBack seen names = distinct_names cs seen (map_list string names) ≡ Ok names

  names_back : (seen : List (List ℕ)) (ds : List Data) → Holds (NamesBack seen) (distinct_names cs seen ds)
  names_back seen [] = read_so (NamesBack seen) [] refl
  names_back seen (d ∷ ds) =
      then_holds (NamesBack seen) (read_string d) _
      (λ name. passed_holds (NamesBack seen) (is_indexable cs name && not (list_any (same_text name) seen)) bad_index _
      (λ t. with_holds (NamesBack (name ∷ seen)) (NamesBack seen) (distinct_names cs (name ∷ seen) ds) _ (names_back (name ∷ seen) ds)
      (λ names e. read_so (NamesBack seen) (name ∷ names) (test_passed (is_indexable cs name && not (list_any (same_text name) seen)) bad_index _ _ t (once_more (distinct_names cs (name ∷ seen) (map_list string names)) names _ _ e refl)))))

  index_back : (d : Data) → Holds (Back (read_index cs) write_index) (read_index cs d)
  index_back (array ds) =
      with_holds (NamesBack []) (Back (read_index cs) write_index) (distinct_names cs [] (items_list ds)) _ (names_back [] (items_list ds))
      (λ names e. passed_holds (Back (read_index cs) write_index) (nat_lt 0 (length names)) bad_index _
      (λ some. read_so (Back (read_index cs) write_index) names (once_more (distinct_names cs [] (items_list (items_of (map_list string names)))) names _ _ (ap (distinct_names cs []) (items_list-items_of (map_list string names)) ∙ e) (test_passed (nat_lt 0 (length names)) bad_index _ _ some refl))))
  index_back d = none_read (Back (read_index cs) write_index) syntax

  any_data : (ds : List Data) → AllByRecursion (λ _. Unit {0}) ds
  any_data [] = tt
  any_data (d ∷ ds) = (tt, any_data ds)

  abbrev indexes_member : List (List (List ℕ)) → Option Data
  indexes_member indexes = cond (length indexes == 0) None (Some (array_of (map_list write_index indexes)))

  abbrev IndexesBack : List (List (List ℕ)) → Type 0
  IndexesBack indexes = given_or [] (read_list (read_index cs)) (indexes_member indexes) ≡ Ok indexes

  indexes_again : (indexes : List (List (List ℕ))) → EachBack (read_index cs) write_index indexes → IndexesBack indexes
  indexes_again [] e = refl
  indexes_again (x ∷ indexes) e =
      ap (λ b. given_or [] (read_list (read_index cs)) (cond b None (Some (array_of (map_list write_index (x ∷ indexes)))))) (not_zero (length indexes))
      ∙ ap (each (read_index cs)) (items_list-items_of (map_list write_index (x ∷ indexes))) ∙ e

  list_back : (d : Data) → Holds IndexesBack (read_list (read_index cs) d)
  list_back (array ds) = so_holds (EachBack (read_index cs) write_index) IndexesBack (each (read_index cs) (items_list ds)) indexes_again (each_back (read_index cs) write_index (λ _. Unit {0}) (λ d _. index_back d) (items_list ds) (any_data (items_list ds)))
  list_back d = none_read IndexesBack syntax

  indexes_back : (o : Option Data) → Holds IndexesBack (given_or [] (read_list (read_index cs)) o)
  indexes_back None = read_so IndexesBack [] refl
  indexes_back (Some d) = list_back d

-- ---- the columns of a table

module _ (tables : List (List ℕ)) where
  -- the columns are read back, and none is left out
  abbrev ColumnsBack : List Column → Type 0
  ColumnsBack cs = columns_in tables (members_of (map_list column_member cs)) ≡ Ok cs

  abbrev AsMany : List Member → List Column → Type 0
  AsMany ms cs = length (members_list (members_of (map_list column_member cs))) ≡ length ms

  as_many : (cs : List Column) (ks : List Member) → map_list (λ c. c.name) cs ≡ keys_of ks → length (map_list column_member cs) ≡ length ks
  as_many cs ks e = counted cs ∙ ap length e ∙ sym (counted_keys ks)
    where
      counted : (cs : List Column) → length (map_list column_member cs) ≡ length (map_list (λ c. c.name) cs)
      counted [] = refl
      counted (c ∷ cs) = ap suc (counted cs)

      counted_keys : (ks : List Member) → length ks ≡ length (keys_of ks)
      counted_keys [] = refl
      counted_keys (k ∷ ks) = ap suc (counted_keys ks)

  columns_back : (ms : Members) → Ascend ms → HasSound ms → Holds (λ cs. ColumnsBack cs × AsMany (members_list ms) cs) (columns_in tables ms)
  columns_back ms up s =
      so_holds (λ cs. EachBack (read_column tables) column_member cs × (map_list (λ c. c.name) cs ≡ keys_of (members_list ms))) (λ cs. ColumnsBack cs × AsMany (members_list ms) cs) (columns_in tables ms)
      (λ cs p. (ap (each (read_column tables)) (printed_list (λ c. c.name) write_column ms cs up p.1) ∙ p.0, ap length (printed_list (λ c. c.name) write_column ms cs up p.1) ∙ as_many cs (members_list ms) p.1))
      (both_hold (EachBack (read_column tables) column_member) (λ cs. map_list (λ c. c.name) cs ≡ keys_of (members_list ms)) (columns_in tables ms)
      (each_back (read_column tables) column_member (λ m. IsSound m.1) (λ m h. column_back tables m.0 m.1 h) (members_list ms) (all_sound ms s))
      (each_named (λ c. c.name) (read_column tables) (column_named tables) (members_list ms)))

  -- the members of an object that is a member
  abbrev inside : Option Data → List Member
  inside o = unwrap_or (option_map members_list (option_and_then as_object o)) []

  columns_of_back : (o : Option Data) → OnSome IsSound o → Holds (λ cs. ColumnsBack cs × AsMany (inside o) cs) (next (ok_or o syntax) (λ cs. next (read_object cs) (columns_in tables)))
  unfolding OnSome
  columns_of_back None h = none_read (λ cs. ColumnsBack cs × AsMany [] cs) syntax
  columns_of_back (Some (object ms)) h = columns_back ms h.0 h.1
  columns_of_back (Some d) h = none_read (λ cs. ColumnsBack cs × AsMany (inside (Some d)) cs) syntax

-- ---- tables

abbrev printed_table : TableSchema → List Member
printed_table t =
    (codes "columns", object_of (map_list (λ c. (c.name, write_column c)) t.columns))
    ∷ present (codes "maxRows") (option_map of_natural t.max_rows)
    ++ unless (not t.is_root) (codes "isRoot") (boolean true)
    ++ unless (length t.indexes == 0) (codes "indexes") (array_of (map_list write_index t.indexes))

found_of_table : (q : List ℕ) (t : TableSchema) → get_member q (members_of (printed_table t)) ≡
    option_or (option_or (option_or (at q (codes "columns") (Some (object_of (map_list column_member t.columns))))
    (at q (codes "maxRows") (option_map of_natural t.max_rows)))
    (at q (codes "isRoot") (true_member t.is_root)))
    (at q (codes "indexes") (indexes_member t.columns t.indexes))
found_of_table q t =
    found_in q (printed_table t) _
    (finds_joined q _ _ _ _ (finds_joined q _ _ _ _
    (finds_first q _ _ _ _ (finds_present q _ _))
    (finds_unless q _ _ _)) (finds_unless q _ _ _))

abbrev RowsBack : Option ℕ → Type 0
RowsBack n = if_given (read_between 1 None) (option_map of_natural n) ≡ Ok n

module _ (tables : List (List ℕ)) where
  abbrev pub TableBack : TableSchema → Type 0
  TableBack t = read_table tables (t.name, write_table t) ≡ Ok t

  -- the table is printed as wide as the members that it was read of
  abbrev pub SameWidth : Data → TableSchema → Type 0
  SameWidth d t = is_too_wide (write_table t) ≡ is_too_wide d

  table_again : (t : TableSchema) → is_name t.name ≡ true → ColumnsBack tables t.columns → RowsBack t.max_rows → IndexesBack t.columns t.indexes → TableBack t
  table_again t named c n i =
      let ms : Members = members_of (printed_table t) in
      let rows_is : get_member (codes "maxRows") ms ≡ option_map of_natural t.max_rows = found_of_table (codes "maxRows") t ∙ simp option_or-None in
      sym (table_members tables t.name (object ms) ms named refl)
      ∙ once_more (columns_of tables ms) t.columns _ _ (ap (λ o. next (ok_or o syntax) (λ cs. next (read_object cs) (columns_in tables))) (found_of_table (codes "columns") t) ∙ c)
      (once_more (max_rows_of ms) t.max_rows _ _ (ap (if_given (read_between 1 None)) rows_is ∙ n)
      (once_more (flag_of (codes "isRoot") false ms) t.is_root _ _ (ap (given_or false read_bool) (found_of_table (codes "isRoot") t ∙ option_or-None (true_member t.is_root)) ∙ true_again t.is_root)
      (once_more (indexes_of t.columns ms) t.indexes _ _ (ap (given_or [] (read_list (read_index t.columns))) (found_of_table (codes "indexes") t) ∙ i) refl)))

  width_again : (o : Option Data) (t : TableSchema) → AsMany tables (inside tables o) t.columns → nat_lt max_columns (length (inside tables (get_member (codes "columns") (members_of (printed_table t))))) ≡ nat_lt max_columns (length (inside tables o))
  width_again o t e = ap (λ p. nat_lt max_columns (length (inside tables p))) (found_of_table (codes "columns") t) ∙ ap (nat_lt max_columns) e

  table_members_back : (name : List ℕ) (ms : Members) → HasSound ms → is_name name ≡ true → Holds (λ t. TableBack t × SameWidth (object ms) t) (table_in tables name ms)
  table_members_back name ms s named =
      let Q : TableSchema → Type 0 = λ t. TableBack t × SameWidth (object ms) t in
      with_holds (λ cs. ColumnsBack tables cs × AsMany tables (inside tables (get_member (codes "columns") ms)) cs) Q (columns_of tables ms) _ (columns_of_back tables (get_member (codes "columns") ms) (member_sound (codes "columns") ms s))
      (λ columns c. with_holds RowsBack Q (max_rows_of ms) _ (given_back (read_between 1 None) of_natural (range_back 1 None) (get_member (codes "maxRows") ms) (member_sound (codes "maxRows") ms s))
      (λ max_rows n. then_holds Q (flag_of (codes "isRoot") false ms) _
      (λ is_root. with_holds (IndexesBack columns) Q (indexes_of columns ms) _ (indexes_back columns (get_member (codes "indexes") ms))
      (λ indexes i.
      let t : TableSchema = record { name = name; columns = columns; max_rows = max_rows; is_root = is_root; indexes = indexes } in
      read_so Q t (table_again t named c.0 n i, width_again (get_member (codes "columns") ms) t c.1)))))

  pub table_back : (name : List ℕ) (d : Data) → IsSound d → Holds (λ t. TableBack t × SameWidth d t) (read_table tables (name, d))
  table_back name (object ms) h = same_behind (λ t. TableBack t × SameWidth (object ms) t) (is_name name) bad_id _ (table_in tables name ms) (λ named. table_members tables name (object ms) ms named refl) (λ named. table_members_back name ms h.1 named)
  table_back name d h = tested_holds (λ t. TableBack t × SameWidth d t) (demand (is_name name) bad_id) _ (none_read (λ t. TableBack t × SameWidth d t) syntax)
