-- Columns and tables that are read have the names of their members, so their names ascend.
use Rattle.std.specs.Prelude.{◌≡◌, ℕ, true, false, T, codes, None, List, [], ◌∷◌, map, string_bytes, Result, Ok}
use Rattle.std.specs.declared.cmp.Ordering.TheVariants.{Less}
use Rattle.std.specs.Ordering.{is_lt}
use Rattle.std.specs.List.{AllByRecursion}
use Rattle.std.specs.List.Sorted.{IsStrictlySortedBy}
use Rattle.std.specs.FinMap.Entries.{below_all, is_sorted}
use Rattle.std.specs.Map.{keys_of}
use Rattle.std.proofs.Common.{string_cmp}
use mathlib.Core.Path.{refl, sym, ap, subst, ◌∙◌}
use Rattle.serde_json.proofs.Views.{Entry}
use Rattle.serde_json.specs.View.{members_view}
use Rattle.odb_atoms.proofs.Rising.{both}
use Rattle.odb_atoms.specs.First.{demand, each}
use Rattle.odb_atoms.specs.Text.{text_cmp}
use Rattle.odb_schema.proofs.Keys.{bare, keys_beside, sorted_keys}
use Rattle.odb_schema.proofs.Holds.{Holds, read_so, so_read, tested_holds, then_holds, with_holds}
use Rattle.odb_schema.specs.Json.{Data, get_member, given_or, if_given, members_list, needed}
use Rattle.odb_schema.specs.Schema.{Column, TableSchema}
use Rattle.odb_schema.specs.SchemaText.{SchemaFault, bad_id, is_name, read_between, read_bool, read_column, read_index, read_list, read_object, read_table, read_type, syntax}
use Rattle.odb_schema.specs.Represented.Names.{Ascends, ColumnsAscend, TablesAscend, named}

pub column_named : (tables : List (List ℕ)) (m : List ℕ × Data) → Holds (λ c. c.name ≡ m.0) (read_column tables m)
column_named tables m =
    let P : Column → Type 0 = λ c. c.name ≡ m.0 in
    tested_holds P (demand (is_name m.0) bad_id) _ (then_holds P (read_object m.1) _ (λ ms. then_holds P (needed syntax (codes "type") ms) _ (λ t. then_holds P (read_type tables t) _ (λ type. then_holds P (given_or false read_bool (get_member (codes "ephemeral") ms)) _ (λ ephemeral. then_holds P (given_or true read_bool (get_member (codes "mutable") ms)) _ (λ mutable. read_so P (record { name = m.0; type = type; ephemeral = ephemeral; mutable = mutable }) refl))))))

pub table_named : (tables : List (List ℕ)) (m : List ℕ × Data) → Holds (λ t. t.name ≡ m.0) (read_table tables m)
table_named tables m =
    let P : TableSchema → Type 0 = λ t. t.name ≡ m.0 in
    tested_holds P (demand (is_name m.0) bad_id) _ (then_holds P (read_object m.1) _ (λ ms. then_holds P (needed syntax (codes "columns") ms) _ (λ cs. then_holds P (read_object cs) _ (λ columns. then_holds P (each (read_column tables) (members_list columns)) _ (λ cols. then_holds P (if_given (read_between 1 None) (get_member (codes "maxRows") ms)) _ (λ rows. then_holds P (given_or false read_bool (get_member (codes "isRoot") ms)) _ (λ root. then_holds P (given_or [] (read_list (read_index cols)) (get_member (codes "indexes") ms)) _ (λ indexes. read_so P (record { name = m.0; columns = cols; max_rows = rows; is_root = root; indexes = indexes }) refl))))))))

module _ {A : Type 0} (name : A → List ℕ) (f : List ℕ × Data → Result A SchemaFault) (has : (m : List ℕ × Data) → Holds (λ x. name x ≡ m.0) (f m)) where
  pub each_named : (ms : List (List ℕ × Data)) → Holds (λ xs. map name xs ≡ map (λ m. m.0) ms) (each f ms)
  each_named [] = read_so (λ xs. map name xs ≡ []) [] refl
  each_named (m ∷ ms) = with_holds (λ x. name x ≡ m.0) _ (f m) _ (has m) (λ x n. with_holds (λ xs. map name xs ≡ map (λ m. m.0) ms) _ (each f ms) _ (each_named ms) (λ xs ns. read_so (λ ys. map name ys ≡ m.0 ∷ map (λ m. m.0) ms) (x ∷ xs) (λ i. n i ∷ ns i)))

  names_read : (ms : List (List ℕ × Data)) (xs : List A) → each f ms ≡ Ok xs → map name xs ≡ map (λ m. m.0) ms
  names_read ms xs e = so_read (λ xs. map name xs ≡ map (λ m. m.0) ms) xs (subst (Holds (λ xs. map name xs ≡ map (λ m. m.0) ms)) e (each_named ms))

-- ---- names that ascend

below-bare : (x : List ℕ) (ns : List (List ℕ)) → AllByRecursion (λ n. text_cmp x n ≡ Less) ns → T (below_all text_cmp x (map bare ns))
below-bare x [] h = tt
below-bare x (n ∷ ns) h = both _ _ (subst (λ r. T (is_lt r)) (sym h.0) tt) (below-bare x ns h.1)

below-keys : (k : List ℕ) (es : List Entry) → AllByRecursion (λ x. text_cmp k (string_bytes x) ≡ Less) (keys_of es) → AllByRecursion (λ n. text_cmp k n ≡ Less) (map (λ m. m.0) (members_list (members_view es)))
below-keys k [] h = tt
below-keys k (e ∷ es) h = (h.0, below-keys k es h.1)

sorted-keys : (es : List Entry) → IsStrictlySortedBy string_cmp (keys_of es) → T (is_sorted text_cmp (map bare (map (λ m. m.0) (members_list (members_view es)))))
unfolding IsStrictlySortedBy
sorted-keys [] h = tt
sorted-keys (e ∷ es) h = both _ _ (below-bare (string_bytes e.0) _ (below-keys (string_bytes e.0) es h.0)) (sorted-keys es h.1)

module _ {A : Type 0} (name : A → List ℕ) where
  ascends : (xs : List A) (es : List Entry) → map name xs ≡ map (λ m. m.0) (members_list (members_view es)) → IsStrictlySortedBy string_cmp (keys_of es) → Ascends name xs
  ascends xs es same h = subst T (ap (λ ns. is_sorted text_cmp (map bare ns)) (sym (keys_beside name (λ x. x) xs ∙ same)) ∙ sorted_keys (map (named name) xs)) (sorted-keys es h)

pub columns_ascend : (tables : List (List ℕ)) (es : List Entry) (cs : List Column) → IsStrictlySortedBy string_cmp (keys_of es) → each (read_column tables) (members_list (members_view es)) ≡ Ok cs → ColumnsAscend cs
columns_ascend tables es cs h e = ascends (λ c. c.name) cs es (names_read (λ c. c.name) (read_column tables) (column_named tables) (members_list (members_view es)) cs e) h

pub tables_ascend : (tables : List (List ℕ)) (es : List Entry) (ts : List TableSchema) → IsStrictlySortedBy string_cmp (keys_of es) → each (read_table tables) (members_list (members_view es)) ≡ Ok ts → TablesAscend ts
tables_ascend tables es ts h e = ascends (λ t. t.name) ts es (names_read (λ t. t.name) (read_table tables) (table_named tables) (members_list (members_view es)) ts e) h
