-- What is read is of the schema: values of their columns' kinds, and mutations that their columns have.
use Rattle.std.specs.Prelude.{◌≡◌, ℕ, ◌<◌, ℤ, Bool, true, false, cond, not, ◌&&◌, ◌||◌, ◌==◌, List, [], ◌∷◌, codes, length, map as map_list, is_some, position, ⊤, IfOk, Option, Some, None, option_map, Result, Ok, Err, ok_or}
use Rattle.std.specs.List.{list_all}
use Rattle.std.proofs.lemmas.List.Quantifiers.{position-Some}
use Rattle.std.proofs.lemmas.Option.{none-some}
use mathlib.Core.Path.{refl, sym, ap, subst, ◌∙◌}
use Rattle.odb_atoms.specs.FinMap as map
use Rattle.odb_atoms.specs.FinSet as set
use Rattle.odb_atoms.specs.Atom.{Atom, Kind, atom_cmp, boolean, booleans, integer, integers, strings, text, uuid, uuids}
use Rattle.odb_atoms.specs.ColType.{ColType, admits, has_kind, is_a, is_scalar, value_base}
use Rattle.odb_atoms.specs.Error.{Error, constraint_violation, resources_exhausted, syntax_error, unknown_operation, unknown_table}
use Rattle.odb_atoms.specs.First.{demand, each}
use Rattle.odb_atoms.specs.Value.{Atoms, Pairs, Value, each_atom, is_map, map_of, set_of, size, within_limit}
use Rattle.odb_atoms.proofs.Atoms.{atom_cmp-IsAntisymmetric}
use Rattle.odb_atoms.specs.Represented.AtomOrder.{atom_cmp_total}
use Rattle.odb_atoms.proofs.EachEntry.{Each, each-empty, each-insert}
use Rattle.odb_atoms.proofs.Lists.{or_right}
use Rattle.odb_json.specs.ColumnValue.{read_by_kind, read_value}
use Rattle.odb_json.specs.ConditionNotation.{read_text, triple}
use Rattle.odb_json.specs.MutationNotation.{changeable, mutator_named, operand_type, read_changeable, read_mutation, read_mutator, read_operand, takes_mutator}
use Rattle.odb_json.specs.Operation as model
use Rattle.odb_json.specs.Represented.Fault.{Reads}
use Rattle.odb_json.specs.Represented.Operation.{op_of}
use Rattle.odb_json.specs.declared.fault.OpFault.{OpFault}
use Rattle.odb_json.specs.declared.op.Op as declared
use Rattle.odb_json.specs.Operation.{Op}
use Rattle.odb_json.specs.Suited.{IsFor, are_of_kind, are_taken}
use Rattle.odb_mutate.specs.Mutation as mutation
use Rattle.odb_mutate.specs.Mutation.{Mutation, Mutator}
use Rattle.odb_mutate.specs.MutationTyping.{is_set_of, takes}
use Rattle.odb_schema.proofs.Holds.{Holds, behind, in_read, next, none_read, passed_holds, read_in, tested_holds, then_holds, with_holds}
use Rattle.odb_schema.specs.Json as json
use Rattle.odb_schema.specs.Json.{Data, Items, Members, item, no_items}
use Rattle.odb_schema.specs.Notation.{Names, is_map_notation, read_any, read_atom, read_elements, read_map, read_pairs, pair_of, map_content, read_set, read_string, read_uuid, set_content}
use Rattle.odb_schema.specs.Schema.{Column, Schema, column_type, columns_at, table_place}

-- ---- atoms

abbrev OfKind : Kind → Atom → Type 0
OfKind k a = is_a k a ≡ true

integer_kind : (o : Option ℤ) → Holds (OfKind integers) (ok_or (option_map integer o) syntax_error)
integer_kind None = none_read (OfKind integers) syntax_error
integer_kind (Some z) = read_in Error (OfKind integers) (integer z) refl

boolean_kind : (o : Option Bool) → Holds (OfKind booleans) (ok_or (option_map boolean o) syntax_error)
boolean_kind None = none_read (OfKind booleans) syntax_error
boolean_kind (Some b) = read_in Error (OfKind booleans) (boolean b) refl

atom_kind : (names : Option Names) (k : Kind) (d : Data) → Holds (OfKind k) (read_atom names k d)
atom_kind names integers d = integer_kind (json.as_integer d)
atom_kind names booleans d = boolean_kind (json.as_bool d)
atom_kind names strings d = then_holds (OfKind strings) (read_string d) _ (λ s. read_in Error (OfKind strings) (text s) refl)
atom_kind names uuids d = then_holds (OfKind uuids) (read_uuid names d) _ (λ u. read_in Error (OfKind uuids) (uuid u) refl)

-- ---- sets and maps

abbrev of_set : Kind → Atom × Unit {0} → Bool
of_set k e = is_a k e.0

abbrev of_map : Kind → Kind → Atom × Atom → Bool
of_map k l e = is_a k e.0 && is_a l e.1

elements_kind : (names : Option Names) (k : Kind) (seen : Atoms) (ds : Items) → Each (of_set k) seen → Holds (Each (of_set k)) (read_elements names k seen ds)
elements_kind names k seen no_items h = read_in Error (Each (of_set k)) seen h
elements_kind names k seen (item d ds) h =
    with_holds (OfKind k) (Each (of_set k)) (read_atom names k d) _ (atom_kind names k d)
    (λ a g. tested_holds (Each (of_set k)) _ _ (elements_kind names k (set.insert seen a) ds (each-insert atom_cmp_total atom_cmp-IsAntisymmetric (of_set k) seen a tt h g)))

pairs_kind : (names : Option Names) (k l : Kind) (seen : Pairs) (ds : Items) → Each (of_map k l) seen → Holds (Each (of_map k l)) (read_pairs names k l seen ds)
pairs_kind names k l seen no_items h = read_in Error (Each (of_map k l)) seen h
pairs_kind names k l seen (item d ds) h =
    then_holds (Each (of_map k l)) (ok_or (pair_of d) syntax_error) _ (λ pair.
    with_holds (OfKind k) (Each (of_map k l)) (read_atom names k pair.0) _ (atom_kind names k pair.0) (λ key g.
    tested_holds (Each (of_map k l)) _ _
    (with_holds (OfKind l) (Each (of_map k l)) (read_atom names l pair.1) _ (atom_kind names l pair.1) (λ value f.
    pairs_kind names k l (map.insert seen key value) ds (each-insert atom_cmp_total atom_cmp-IsAntisymmetric (of_map k l) seen key value h (λ i. g i && f i))))))

-- `read_set` after its test
abbrev by_content : Option Names → Kind → Data → Option Data → Result Atoms Error
by_content names k d None = next (read_atom names k d) (λ a. Ok (set.insert set.empty a))
by_content names k d (Some content) = next (ok_or (json.as_array content) syntax_error) (λ items. read_elements names k set.empty items)

content_kind : (names : Option Names) (k : Kind) (d : Data) (o : Option Data) → Holds (Each (of_set k)) (by_content names k d o)
content_kind names k d None = with_holds (OfKind k) (Each (of_set k)) (read_atom names k d) _ (atom_kind names k d) (λ a g. read_in Error (Each (of_set k)) (set.insert set.empty a) (each-insert atom_cmp_total atom_cmp-IsAntisymmetric (of_set k) set.empty a tt (each-empty atom_cmp (of_set k)) g))
content_kind names k d (Some content) = then_holds (Each (of_set k)) (ok_or (json.as_array content) syntax_error) _ (λ items. elements_kind names k set.empty items (each-empty atom_cmp (of_set k)))

set_kind : (names : Option Names) (k : Kind) (d : Data) → Holds (Each (of_set k)) (read_set names k d)
set_kind names k d = content_kind names k d (set_content d)

map_kind : (names : Option Names) (k l : Kind) (d : Data) → Holds (Each (of_map k l)) (read_map names k l d)
map_kind names k l d =
    then_holds (Each (of_map k l)) (ok_or (map_content d) syntax_error) _ (λ content.
    then_holds (Each (of_map k l)) (ok_or (json.as_array content) syntax_error) _ (λ items. pairs_kind names k l map.empty items (each-empty atom_cmp (of_map k l))))

all-keys : (p : Atom → Bool) (es : List (Atom × Unit {0})) → list_all (λ e. p e.0) es ≡ list_all p (map_list (λ e. e.0) es)
all-keys p [] = refl
all-keys p (e ∷ es) = ap (λ b. p e.0 && b) (all-keys p es)

set_items : (k : Kind) (s : Atoms) → Each (of_set k) s → list_all (is_a k) (set.items s) ≡ true
unfolding map.keys
set_items k s h = sym (all-keys (is_a k) s.entries) ∙ h

-- ---- values

abbrev HasKind : ColType → Value → Type 0
HasKind t v = has_kind t v ≡ true

abbrev Kinded : ColType → Bool → Value → Type 0
Kinded t b v = (cond b (is_map v) (not (is_map v)) && each_atom (is_a t.key.kind) (is_a (value_base t).kind) v) ≡ true

abbrev as_map : Option Names → ColType → Data → Result Value Error
as_map names t d = next (read_map names t.key.kind (value_base t).kind d) (λ m. Ok (map_of m))

abbrev as_set : Option Names → ColType → Data → Result Value Error
as_set names t d = next (read_set names t.key.kind d) (λ s. Ok (set_of s))

either_kind : (names : Option Names) (t : ColType) (d : Data) (b : Bool) → Holds (Kinded t b) (cond b (as_map names t d) (as_set names t d))
either_kind names t d true = with_holds (Each (of_map t.key.kind (value_base t).kind)) (Kinded t true) (read_map names t.key.kind (value_base t).kind d) _ (map_kind names t.key.kind (value_base t).kind d) (λ m h. read_in Error (Kinded t true) (map_of m) h)
either_kind names t d false = with_holds (Each (of_set t.key.kind)) (Kinded t false) (read_set names t.key.kind d) _ (set_kind names t.key.kind d) (λ s h. read_in Error (Kinded t false) (set_of s) (set_items t.key.kind s h))

any_kind : (names : Option Names) (t : ColType) (d : Data) → Holds (HasKind t) (read_any names t d)
any_kind names t d = either_kind names t d (is_some t.value)

abbrev IsOne : ColType → Value → Type 0
IsOne t v = (not (is_scalar t) || (size v == 1)) ≡ true

by_kind : (names : Option Names) (t : ColType) (d : Data) → Holds (λ v. HasKind t v × IsOne t v) (read_by_kind names t d)
by_kind names t d =
    with_holds (HasKind t) (λ v. HasKind t v × IsOne t v) (read_any names t d) _ (any_kind names t d) (λ v h.
    passed_holds (λ v. HasKind t v × IsOne t v) (not (is_scalar t) || (size v == 1)) syntax_error _ (λ one.
    tested_holds (λ v. HasKind t v × IsOne t v) (demand (within_limit v) resources_exhausted) _ (read_in Error (λ v. HasKind t v × IsOne t v) v (h, one))))

value_kind : (names : Option Names) (t : ColType) (d : Data) → Holds (HasKind t) (read_value names t d)
value_kind names t d =
    with_holds (HasKind t) (HasKind t) (read_any names t d) _ (any_kind names t d) (λ v h.
    tested_holds (HasKind t) (demand (within_limit v) resources_exhausted) _ (tested_holds (HasKind t) (demand (admits t v) constraint_violation) _ (read_in Error (HasKind t) v h)))

-- ---- lists and members

each_holds : {A B : Type 0} (p : B → Bool) (f : A → Result B Error) (xs : List A) → ((x : A) → Holds (λ y. p y ≡ true) (f x)) → Holds (λ ys. list_all p ys ≡ true) (each f xs)
each_holds p f [] h = read_in Error (λ ys. list_all p ys ≡ true) [] refl
each_holds p f (x ∷ xs) h =
    with_holds (λ y. p y ≡ true) (λ ys. list_all p ys ≡ true) (f x) _ (h x) (λ y passes.
    with_holds (λ ys. list_all p ys ≡ true) (λ ys. list_all p ys ≡ true) (each f xs) _ (each_holds p f xs h) (λ ys rest.
    read_in Error (λ zs. list_all p zs ≡ true) (y ∷ ys) (λ i. passes i && rest i)))

needed_holds : {A : Type 0} (P : A → Type 0) (k : List ℕ) (read : Data → Result A Error) (ms : Members) → ((d : Data) → Holds P (read d)) → Holds P (model.read_needed k read ms)
needed_holds P k read ms h = then_holds P (json.needed syntax_error k ms) _ h

list_holds : {A : Type 0} (p : A → Bool) (read : Data → Result A Error) (d : Data) → ((x : Data) → Holds (λ y. p y ≡ true) (read x)) → Holds (λ ys. list_all p ys ≡ true) (model.read_list read d)
list_holds p read d h = then_holds (λ ys. list_all p ys ≡ true) (ok_or (json.as_array d) syntax_error) _ (λ items. each_holds p read (json.items_list items) h)

-- ---- rows and mutations

module _ (names : Names) (cs : List Column) where
  abbrev cell_kind : ℕ × Value → Bool
  cell_kind e = has_kind (column_type cs e.0) e.1

  read_cell_kind : (place : List ℕ → Result ℕ Error) (name : List ℕ) (d : Data) → Holds (λ e. cell_kind e ≡ true) (model.read_cell names cs place name d)
  read_cell_kind place name d =
      then_holds (λ e. cell_kind e ≡ true) (place name) _ (λ i.
      with_holds (HasKind (column_type cs i)) (λ e. cell_kind e ≡ true) (read_value (Some names) (column_type cs i) d) _ (value_kind (Some names) (column_type cs i) d) (λ v h.
      read_in Error (λ e. cell_kind e ≡ true) (i, v) h))

  pub read_row_kind : (place : List ℕ → Result ℕ Error) (d : Data) → Holds (λ row. are_of_kind cs row ≡ true) (model.read_row names cs place d)
  read_row_kind place d =
      then_holds (λ row. are_of_kind cs row ≡ true) (ok_or (json.as_object d) syntax_error) _ (λ ms.
      each_holds cell_kind (λ m. model.read_cell names cs place m.0 m.1) (json.members_list ms) (λ m. read_cell_kind place m.0 m.1))

abbrev is_taken : List Column → Mutation → Bool
is_taken cs m = takes (column_type cs m.column) m.mutator m.value

operand_taken : (t : ColType) (m : Mutator) (b : Bool) (v : Value) → takes_mutator t m ≡ true → HasKind (operand_type t m b) v × IsOne (operand_type t m b) v → takes t m v ≡ true
operand_taken t mutation.insert b v e h = λ i. e i && h.0 i
operand_taken t mutation.delete true v e h = λ i. e i && (h.0 i || is_set_of t.key.kind v)
operand_taken t mutation.delete false v e h = λ i. e i && or_right (has_kind t v) (is_set_of t.key.kind v) h.0 i
operand_taken t mutation.add b v e h = λ i. e i && (h.0 i && h.1 i)
operand_taken t mutation.subtract b v e h = λ i. e i && (h.0 i && h.1 i)
operand_taken t mutation.multiply b v e h = λ i. e i && (h.0 i && h.1 i)
operand_taken t mutation.divide b v e h = λ i. e i && (h.0 i && h.1 i)
operand_taken t mutation.remainder b v e h = λ i. e i && (h.0 i && h.1 i)

mutator_taken : (t : ColType) (d : Data) → Holds (λ m. takes_mutator t m ≡ true) (read_mutator t d)
mutator_taken t d =
    then_holds (λ m. takes_mutator t m ≡ true) (read_text d) _ (λ name.
    then_holds (λ m. takes_mutator t m ≡ true) (ok_or (mutator_named name) syntax_error) _ (λ m.
    passed_holds (λ m. takes_mutator t m ≡ true) (takes_mutator t m) syntax_error _ (λ e. read_in Error (λ m. takes_mutator t m ≡ true) m e)))

mutation_taken : (names : Option Names) (cs : List Column) (d : Data) → Holds (λ m. is_taken cs m ≡ true) (read_mutation names cs d)
mutation_taken names cs d =
    then_holds (λ m. is_taken cs m ≡ true) (ok_or (triple d) syntax_error) _ (λ parts.
    then_holds (λ m. is_taken cs m ≡ true) (read_changeable cs parts.0) _ (λ column.
    let t : ColType = column_type cs column in
    with_holds (λ m. takes_mutator t m ≡ true) (λ m. is_taken cs m ≡ true) (read_mutator t parts.1) _ (mutator_taken t parts.1) (λ m suits.
    let o : ColType = operand_type t m (is_map_notation parts.2) in
    with_holds (λ v. HasKind o v × IsOne o v) (λ m. is_taken cs m ≡ true) (read_operand names t m parts.2) _ (by_kind names o parts.2) (λ v h.
    read_in Error (λ m. is_taken cs m ≡ true) (record { column = column; mutator = m; value = v }) (operand_taken t m (is_map_notation parts.2) v suits h)))))

-- ---- operations

position-inside : {A : Type 0} (p : A → Bool) (xs : List A) (i : ℕ) → position p xs ≡ Some i → i < length xs
position-inside p [] i e = absurd (none-some i e)
position-inside p (x ∷ xs) i e = (position-Some p (x ∷ xs) i x e).0

place_inside : (s : Schema) (o : Option ℕ) → ((t : ℕ) → o ≡ Some t → t < length s.tables) → Holds (λ t. t < length s.tables) (ok_or o unknown_table)
place_inside s None h = none_read (λ t. t < length s.tables) unknown_table
place_inside s (Some t) h = read_in Error (λ t. t < length s.tables) t (h t refl)

table_inside : (s : Schema) (ms : Members) → Holds (λ t. t < length s.tables) (model.read_table s ms)
table_inside s ms = then_holds (λ t. t < length s.tables) (model.read_needed (codes "table") read_text ms) _ (λ name. place_inside s (table_place s name) (λ t e. position-inside _ s.tables t e))

module _ (s : Schema) (names : Names) (ms : Members) where
  abbrev Suits : Result Op Error → Type 0
  Suits = Holds (IsFor s)

  any : {A : Type 0} (r : Result A Error) (f : A → Result Op Error) → ((x : A) → Suits (f x)) → Suits (next r f)
  any r f h = then_holds (IsFor s) r f h

  ends : (o : Op) → IsFor s o → (r : Result ⊤ Error) → Suits (behind r (Ok o))
  ends o h r = tested_holds (IsFor s) r _ (read_in Error (IsFor s) o h)

  on_table : (read : Names → ℕ → List Column → Members → Result Op Error) → ((t : ℕ) → t < length s.tables → Suits (read names t (columns_at s t) ms)) → Suits (model.on_table read s names ms)
  on_table read h = with_holds (λ t. t < length s.tables) (IsFor s) (model.read_table s ms) _ (table_inside s ms) h

  insert_suits : (t : ℕ) → t < length s.tables → Suits (model.read_insert names t (columns_at s t) ms)
  insert_suits t h =
      any (model.read_needed (codes "row") (model.read_row names (columns_at s t) (model.insertable (columns_at s t))) ms) _ (λ row.
      any (json.if_given model.read_id (json.get_member (codes "uuid-name") ms)) _ (λ name.
      any (json.if_given model.read_own_uuid (json.get_member (codes "uuid") ms)) _ (λ own.
      ends (Op.insert t row name own) h (model.refuse_other_members (codes "table" ∷ codes "row" ∷ codes "uuid-name" ∷ codes "uuid" ∷ []) ms))))

  select_suits : (t : ℕ) → t < length s.tables → Suits (model.read_select names t (columns_at s t) ms)
  select_suits t h = any (model.read_where names (columns_at s t) ms) _ (λ clauses. any (model.read_columns (columns_at s t) (json.get_member (codes "columns") ms)) _ (λ columns. ends (Op.select t clauses columns) h (model.refuse_other_members (codes "table" ∷ codes "where" ∷ codes "columns" ∷ []) ms)))

  update_suits : (t : ℕ) → t < length s.tables → Suits (model.read_update names t (columns_at s t) ms)
  update_suits t h =
      any (model.read_where names (columns_at s t) ms) _ (λ clauses.
      with_holds (λ row. are_of_kind (columns_at s t) row ≡ true) (IsFor s) (model.read_needed (codes "row") (model.read_row names (columns_at s t) (changeable (columns_at s t))) ms) _
      (needed_holds (λ row. are_of_kind (columns_at s t) row ≡ true) (codes "row") (model.read_row names (columns_at s t) (changeable (columns_at s t))) ms (read_row_kind names (columns_at s t) (changeable (columns_at s t))))
      (λ row g. ends (Op.update t clauses row) (h, g) (model.refuse_other_members (codes "table" ∷ codes "where" ∷ codes "row" ∷ []) ms)))

  mutate_suits : (t : ℕ) → t < length s.tables → Suits (model.read_mutate names t (columns_at s t) ms)
  mutate_suits t h =
      any (model.read_where names (columns_at s t) ms) _ (λ clauses.
      with_holds (λ m. are_taken (columns_at s t) m ≡ true) (IsFor s) (model.read_mutations names (columns_at s t) ms) _
      (needed_holds (λ m. are_taken (columns_at s t) m ≡ true) (codes "mutations") (model.read_list (read_mutation (Some names) (columns_at s t))) ms (λ d. list_holds (is_taken (columns_at s t)) (read_mutation (Some names) (columns_at s t)) d (mutation_taken (Some names) (columns_at s t))))
      (λ m g. ends (Op.mutate t clauses m) (h, g) (model.refuse_other_members (codes "table" ∷ codes "where" ∷ codes "mutations" ∷ []) ms)))

  delete_suits : (t : ℕ) → t < length s.tables → Suits (model.read_delete names t (columns_at s t) ms)
  delete_suits t h = any (model.read_where names (columns_at s t) ms) _ (λ clauses. ends (Op.delete t clauses) h (model.refuse_other_members (codes "table" ∷ codes "where" ∷ []) ms))

  wait_suits : (t : ℕ) → t < length s.tables → Suits (model.read_wait names t (columns_at s t) ms)
  wait_suits t h =
      any (model.read_where names (columns_at s t) ms) _ (λ clauses.
      any (model.read_columns (columns_at s t) (json.get_member (codes "columns") ms)) _ (λ columns.
      any (model.read_needed (codes "until") model.read_until ms) _ (λ until.
      any (model.read_expected_rows names (columns_at s t) ms) _ (λ rows.
      any (json.if_given model.read_natural (json.get_member (codes "timeout") ms)) _ (λ timeout.
      ends (Op.wait t clauses columns until rows timeout) h (model.refuse_other_members (codes "table" ∷ codes "where" ∷ codes "columns" ∷ codes "until" ∷ codes "rows" ∷ codes "timeout" ∷ []) ms))))))

  members_suit : (v : model.Verb) → Suits (model.read_members s names ms v)
  members_suit model.Verb.insert = on_table model.read_insert insert_suits
  members_suit model.Verb.select = on_table model.read_select select_suits
  members_suit model.Verb.update = on_table model.read_update update_suits
  members_suit model.Verb.mutate = on_table model.read_mutate mutate_suits
  members_suit model.Verb.delete = on_table model.read_delete delete_suits
  members_suit model.Verb.wait = on_table model.read_wait wait_suits
  members_suit model.Verb.commit = any (model.read_needed (codes "durable") model.read_bool ms) _ (λ durable. ends (Op.commit durable) tt (model.refuse_other_members (codes "durable" ∷ []) ms))
  members_suit model.Verb.abort = ends Op.abort tt (model.refuse_other_members [] ms)
  members_suit model.Verb.comment = any (model.read_needed (codes "comment") read_text ms) _ (λ text. ends Op.comment tt (model.refuse_other_members (codes "comment" ∷ []) ms))
  members_suit model.Verb.assert = any (model.read_needed (codes "lock") model.read_id ms) _ (λ lock. ends (Op.assert lock) tt (model.refuse_other_members (codes "lock" ∷ []) ms))

pub op_suits : (s : Schema) (names : Names) (d : Data) → Holds (IsFor s) (model.read_op s names d)
unfolding model.read_op
op_suits s names d =
    then_holds (IsFor s) (ok_or (json.as_object d) syntax_error) _ (λ ms.
    then_holds (IsFor s) (model.read_needed (codes "op") read_text ms) _ (λ name.
    then_holds (IsFor s) (ok_or (model.verb_named name) unknown_operation) _ (λ v. members_suit s names ms v)))

-- what the code read by that definition
pub suits_read : (s : Schema) (names : Names) (d : Data) (result : Result declared.Op OpFault) → Reads op_of result (model.read_op s names d) → IfOk result (λ op. IsFor s (op_of op))
suits_read s names d (Ok op) e = in_read Error (IsFor s) (op_of op) (subst (Holds (IsFor s)) e (op_suits s names d))
suits_read s names d (Err f) e = tt
