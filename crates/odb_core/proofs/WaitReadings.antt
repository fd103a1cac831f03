-- What is read of an operation that is a `wait`, and of one that isn't.
use Rattle.std.proofs.Common.{◌≡◌, ℕ, Bool, true, false, cond, List, [], ◌∷◌, Option, Some, None, Result, Ok, refl, sym, subst, ◌∙◌, true≢false}
use Rattle.std.specs.Prelude.{⊤, codes, ok_or, option_and_then, option_map, unwrap_or}
use Rattle.std.proofs.lemmas.Option.{none-some, same_Some}
use Rattle.std.proofs.lemmas.Slice.Eq.{bytes_eq-Decides}
use Rattle.odb_atoms.specs.Error.{Error, syntax_error, unknown_operation, unknown_table}
use Rattle.odb_atoms.specs.Text.{same_text}
use Rattle.odb_json.specs.ConditionNotation.{read_text}
use Rattle.odb_json.specs.MutationNotation.{changeable}
use Rattle.odb_json.specs.Operation as operation
use Rattle.odb_json.specs.Operation.{Op, Verb, read_op, read_own_uuid}
use Rattle.odb_schema.proofs.Holds.{Holds, behind, next, none_read, read_in, tested_holds, then_holds, with_holds}
use Rattle.odb_schema.specs.Json as json
use Rattle.odb_schema.specs.Json.{Data, Members, as_object, as_str, get_member, string_member}
use Rattle.odb_schema.specs.Notation.{Names}
use Rattle.odb_schema.specs.Schema.{Column, Schema, columns_at, table_place}
use Rattle.odb_core.specs.Stuck.{is_wait}

-- an operation that never waits
abbrev pub EndsAtOnce : Op → Type 0
EndsAtOnce (Op.insert t given name own) = ⊤
EndsAtOnce (Op.select t clauses columns) = ⊤
EndsAtOnce (Op.update t clauses given) = ⊤
EndsAtOnce (Op.mutate t clauses ms) = ⊤
EndsAtOnce (Op.delete t clauses) = ⊤
EndsAtOnce (Op.wait t clauses columns until rows timeout) = ⊥
EndsAtOnce (Op.commit durable) = ⊤
EndsAtOnce Op.abort = ⊤
EndsAtOnce Op.comment = ⊤
EndsAtOnce (Op.assert lock) = ⊤

-- a `wait` on this table
abbrev pub WaitsAt : Option ℕ → Op → Type 0
WaitsAt place (Op.insert t given name own) = ⊥
WaitsAt place (Op.select t clauses columns) = ⊥
WaitsAt place (Op.update t clauses given) = ⊥
WaitsAt place (Op.mutate t clauses ms) = ⊥
WaitsAt place (Op.delete t clauses) = ⊥
WaitsAt place (Op.wait t clauses columns until rows timeout) = place ≡ Some t
WaitsAt place (Op.commit durable) = ⊥
WaitsAt place Op.abort = ⊥
WaitsAt place Op.comment = ⊥
WaitsAt place (Op.assert lock) = ⊥

abbrev IsOther : Verb → Type 0
IsOther Verb.insert = ⊤
IsOther Verb.select = ⊤
IsOther Verb.update = ⊤
IsOther Verb.mutate = ⊤
IsOther Verb.delete = ⊤
IsOther Verb.wait = ⊥
IsOther Verb.commit = ⊤
IsOther Verb.abort = ⊤
IsOther Verb.comment = ⊤
IsOther Verb.assert = ⊤

abbrev other_in : (v : Verb) → IsOther v → Holds IsOther (ok_or (Some v) unknown_operation)
other_in v h = read_in Error IsOther v h

-- a verb that isn't the sixth
other_verb : (a b c d e f g h i j : Bool) → f ≡ false → Holds IsOther (ok_or (cond a (Some Verb.insert) (cond b (Some Verb.select) (cond c (Some Verb.update) (cond d (Some Verb.mutate) (cond e (Some Verb.delete)
    (cond f (Some Verb.wait) (cond g (Some Verb.commit) (cond h (Some Verb.abort) (cond i (Some Verb.comment) (cond j (Some Verb.assert) None)))))))))) unknown_operation)
other_verb true b c d e f g h i j isnt = other_in Verb.insert tt
other_verb false true c d e f g h i j isnt = other_in Verb.select tt
other_verb false false true d e f g h i j isnt = other_in Verb.update tt
other_verb false false false true e f g h i j isnt = other_in Verb.mutate tt
other_verb false false false false true f g h i j isnt = other_in Verb.delete tt
other_verb false false false false false true g h i j isnt = absurd (true≢false isnt)
other_verb false false false false false false true h i j isnt = other_in Verb.commit tt
other_verb false false false false false false false true i j isnt = other_in Verb.abort tt
other_verb false false false false false false false false true j isnt = other_in Verb.comment tt
other_verb false false false false false false false false false true isnt = other_in Verb.assert tt
other_verb false false false false false false false false false false isnt = none_read IsOther unknown_operation

other_named : (name : List ℕ) → same_text name (codes "wait") ≡ false → Holds IsOther (ok_or (operation.verb_named name) unknown_operation)
other_named name isnt =
    other_verb (same_text name (codes "insert")) (same_text name (codes "select")) (same_text name (codes "update")) (same_text name (codes "mutate")) (same_text name (codes "delete"))
    (same_text name (codes "wait")) (same_text name (codes "commit")) (same_text name (codes "abort")) (same_text name (codes "comment")) (same_text name (codes "assert")) isnt

module _ (s : Schema) (names : Names) (ms : Members) where
  abbrev Ends : Result Op Error → Type 0
  Ends = Holds EndsAtOnce

  any : {A : Type 0} (r : Result A Error) (f : A → Result Op Error) → ((x : A) → Ends (f x)) → Ends (next r f)
  any r f h = then_holds EndsAtOnce r f h

  ends : (o : Op) → EndsAtOnce o → (r : Result ⊤ Error) → Ends (behind r (Ok o))
  ends o h r = tested_holds EndsAtOnce r _ (read_in Error EndsAtOnce o h)

  on_table : (read : Names → ℕ → List Column → Members → Result Op Error) → ((t : ℕ) → Ends (read names t (columns_at s t) ms)) → Ends (operation.on_table read s names ms)
  on_table read h = any (operation.read_table s ms) _ h

  insert_ends : (t : ℕ) → Ends (operation.read_insert names t (columns_at s t) ms)
  insert_ends t =
      any (operation.read_needed (codes "row") (operation.read_row names (columns_at s t) (operation.insertable (columns_at s t))) ms) _ (λ row.
      any (json.if_given operation.read_id (json.get_member (codes "uuid-name") ms)) _ (λ name.
      any (json.if_given read_own_uuid (json.get_member (codes "uuid") ms)) _ (λ own.
      ends (Op.insert t row name own) tt (operation.refuse_other_members (codes "table" ∷ codes "row" ∷ codes "uuid-name" ∷ codes "uuid" ∷ []) ms))))

  select_ends : (t : ℕ) → Ends (operation.read_select names t (columns_at s t) ms)
  select_ends t =
      any (operation.read_where names (columns_at s t) ms) _ (λ clauses.
      any (operation.read_columns (columns_at s t) (json.get_member (codes "columns") ms)) _ (λ columns.
      ends (Op.select t clauses columns) tt (operation.refuse_other_members (codes "table" ∷ codes "where" ∷ codes "columns" ∷ []) ms)))

  update_ends : (t : ℕ) → Ends (operation.read_update names t (columns_at s t) ms)
  update_ends t =
      any (operation.read_where names (columns_at s t) ms) _ (λ clauses.
      any (operation.read_needed (codes "row") (operation.read_row names (columns_at s t) (changeable (columns_at s t))) ms) _ (λ row.
      ends (Op.update t clauses row) tt (operation.refuse_other_members (codes "table" ∷ codes "where" ∷ codes "row" ∷ []) ms)))

  mutate_ends : (t : ℕ) → Ends (operation.read_mutate names t (columns_at s t) ms)
  mutate_ends t =
      any (operation.read_where names (columns_at s t) ms) _ (λ clauses.
      any (operation.read_mutations names (columns_at s t) ms) _ (λ mutations.
      ends (Op.mutate t clauses mutations) tt (operation.refuse_other_members (codes "table" ∷ codes "where" ∷ codes "mutations" ∷ []) ms)))

  delete_ends : (t : ℕ) → Ends (operation.read_delete names t (columns_at s t) ms)
  delete_ends t =
      any (operation.read_where names (columns_at s t) ms) _ (λ clauses.
      ends (Op.delete t clauses) tt (operation.refuse_other_members (codes "table" ∷ codes "where" ∷ []) ms))

  members_end : (v : Verb) → IsOther v → Ends (operation.read_members s names ms v)
  members_end Verb.insert isnt = on_table operation.read_insert insert_ends
  members_end Verb.select isnt = on_table operation.read_select select_ends
  members_end Verb.update isnt = on_table operation.read_update update_ends
  members_end Verb.mutate isnt = on_table operation.read_mutate mutate_ends
  members_end Verb.delete isnt = on_table operation.read_delete delete_ends
  members_end Verb.wait isnt = absurd isnt
  members_end Verb.commit isnt =
      any (operation.read_needed (codes "durable") operation.read_bool ms) _ (λ durable. ends (Op.commit durable) tt (operation.refuse_other_members (codes "durable" ∷ []) ms))
  members_end Verb.abort isnt = ends Op.abort tt (operation.refuse_other_members [] ms)
  members_end Verb.comment isnt =
      any (operation.read_needed (codes "comment") read_text ms) _ (λ text. ends Op.comment tt (operation.refuse_other_members (codes "comment" ∷ []) ms))
  members_end Verb.assert isnt =
      any (operation.read_needed (codes "lock") operation.read_id ms) _ (λ lock. ends (Op.assert lock) tt (operation.refuse_other_members (codes "lock" ∷ []) ms))

  -- ---- a `wait`

  module _ (name : List ℕ) where
    abbrev place : Option ℕ
    place = table_place s name

    abbrev Waits : Result Op Error → Type 0
    Waits = Holds (WaitsAt place)

    waits : {A : Type 0} (r : Result A Error) (f : A → Result Op Error) → ((x : A) → Waits (f x)) → Waits (next r f)
    waits r f h = then_holds (WaitsAt place) r f h

    table_read : option_and_then as_str (get_member (codes "table") ms) ≡ Some name → Holds (λ t. place ≡ Some t) (operation.read_table s ms)
    table_read e = at (get_member (codes "table") ms) e
      where
        placed : (o : Option ℕ) → Holds (λ t. o ≡ Some t) (ok_or o unknown_table)
        placed None = none_read (λ t. None ≡ Some t) unknown_table
        placed (Some t) = read_in Error (λ u. Some t ≡ Some u) t refl

        named : (o : Option (List ℕ)) → o ≡ Some name → Holds (λ t. place ≡ Some t) (next (ok_or o syntax_error) (λ (n : List ℕ). ok_or (table_place s n) unknown_table))
        named None e = absurd (none-some name e)
        named (Some n) e = subst (λ (m : List ℕ). Holds (λ t. place ≡ Some t) (ok_or (table_place s m) unknown_table)) (sym (same_Some n name e)) (placed place)

        at : (o : Option Data) → option_and_then as_str o ≡ Some name → Holds (λ t. place ≡ Some t) (next (next (ok_or o syntax_error) read_text) (λ (n : List ℕ). ok_or (table_place s n) unknown_table))
        at None e = absurd (none-some name e)
        at (Some d) e = named (as_str d) e

    wait_at : (t : ℕ) → place ≡ Some t → Waits (operation.read_wait names t (columns_at s t) ms)
    wait_at t is =
        waits (operation.read_where names (columns_at s t) ms) _ (λ clauses.
        waits (operation.read_columns (columns_at s t) (json.get_member (codes "columns") ms)) _ (λ columns.
        waits (operation.read_needed (codes "until") operation.read_until ms) _ (λ until.
        waits (operation.read_expected_rows names (columns_at s t) ms) _ (λ rows.
        waits (json.if_given operation.read_natural (json.get_member (codes "timeout") ms)) _ (λ timeout.
        tested_holds (WaitsAt place) (operation.refuse_other_members (codes "table" ∷ codes "where" ∷ codes "columns" ∷ codes "until" ∷ codes "rows" ∷ codes "timeout" ∷ []) ms) _
        (read_in Error (WaitsAt place) (Op.wait t clauses columns until rows timeout) is))))))

    wait_reads : option_and_then as_str (get_member (codes "table") ms) ≡ Some name → Waits (operation.on_table operation.read_wait s names ms)
    wait_reads e = with_holds (λ t. place ≡ Some t) (WaitsAt place) (operation.read_table s ms) _ (table_read e) wait_at

abbrev is_word : Option (List ℕ) → Bool
is_word o = unwrap_or (option_map (same_text (codes "wait")) o) false

turned : (name : List ℕ) → same_text (codes "wait") name ≡ false → same_text name (codes "wait") ≡ false
turned name isnt = by (same_text name (codes "wait")) refl
  where
    by : (b : Bool) → same_text name (codes "wait") ≡ b → b ≡ false
    by false is = refl
    by true is = absurd (true≢false (sym ((bytes_eq-Decides (codes "wait") name).1 (sym ((bytes_eq-Decides name (codes "wait")).0 is))) ∙ isnt))

-- what isn't a `wait` is read as none
pub ends_read : (s : Schema) (names : Names) (d : Data) → is_wait d ≡ false → Holds EndsAtOnce (read_op s names d)
unfolding read_op
ends_read s names d isnt = by (as_object d) isnt
  where
    at_text : (ms : Members) (o : Option (List ℕ)) → is_word o ≡ false → Holds EndsAtOnce (next (ok_or o syntax_error) (λ (name : List ℕ). next (ok_or (operation.verb_named name) unknown_operation) (λ verb. operation.read_members s names ms verb)))
    at_text ms None isnt = none_read EndsAtOnce syntax_error
    at_text ms (Some name) isnt = with_holds IsOther EndsAtOnce (ok_or (operation.verb_named name) unknown_operation) (λ verb. operation.read_members s names ms verb) (other_named name (turned name isnt)) (members_end s names ms)

    at_op : (ms : Members) (o : Option Data) → is_word (option_and_then as_str o) ≡ false
        → Holds EndsAtOnce (next (next (ok_or o syntax_error) read_text) (λ (name : List ℕ). next (ok_or (operation.verb_named name) unknown_operation) (λ verb. operation.read_members s names ms verb)))
    at_op ms None isnt = none_read EndsAtOnce syntax_error
    at_op ms (Some v) isnt = at_text ms (as_str v) isnt

    by : (o : Option Members) → is_word (option_and_then as_str (option_and_then (get_member (codes "op")) o)) ≡ false
        → Holds EndsAtOnce (next (ok_or o syntax_error) (λ ms. next (operation.read_needed (codes "op") read_text ms) (λ name. next (ok_or (operation.verb_named name) unknown_operation) (λ verb. operation.read_members s names ms verb))))
    by None isnt = none_read EndsAtOnce syntax_error
    by (Some ms) isnt = at_op ms (get_member (codes "op") ms) isnt

-- what is one is read as one on the table that it names
pub waits_read : (s : Schema) (names : Names) (d : Data) (name : List ℕ) → is_wait d ≡ true → string_member (codes "table") d ≡ Some name → Holds (WaitsAt (table_place s name)) (read_op s names d)
unfolding read_op
waits_read s names d name is at = by (as_object d) is at
  where
    at_text : (ms : Members) (o : Option (List ℕ)) → is_word o ≡ true → option_and_then as_str (get_member (codes "table") ms) ≡ Some name
        → Holds (WaitsAt (table_place s name)) (next (ok_or o syntax_error) (λ (word : List ℕ). next (ok_or (operation.verb_named word) unknown_operation) (λ verb. operation.read_members s names ms verb)))
    at_text ms None is at = absurd (true≢false (sym is))
    at_text ms (Some word) is at =
        subst (λ (w : List ℕ). Holds (WaitsAt (table_place s name)) (next (ok_or (operation.verb_named w) unknown_operation) (λ verb. operation.read_members s names ms verb)))
        ((bytes_eq-Decides (codes "wait") word).0 is) (wait_reads s names ms name at)

    at_op : (ms : Members) (o : Option Data) → is_word (option_and_then as_str o) ≡ true → option_and_then as_str (get_member (codes "table") ms) ≡ Some name
        → Holds (WaitsAt (table_place s name)) (next (next (ok_or o syntax_error) read_text) (λ (word : List ℕ). next (ok_or (operation.verb_named word) unknown_operation) (λ verb. operation.read_members s names ms verb)))
    at_op ms None is at = absurd (true≢false (sym is))
    at_op ms (Some v) is at = at_text ms (as_str v) is at

    by : (o : Option Members) → is_word (option_and_then as_str (option_and_then (get_member (codes "op")) o)) ≡ true → option_and_then as_str (option_and_then (get_member (codes "table")) o) ≡ Some name
        → Holds (WaitsAt (table_place s name)) (next (ok_or o syntax_error) (λ ms. next (operation.read_needed (codes "op") read_text ms) (λ word. next (ok_or (operation.verb_named word) unknown_operation) (λ verb. operation.read_members s names ms verb))))
    by None is at = absurd (true≢false (sym is))
    by (Some ms) is at = at_op ms (get_member (codes "op") ms) is at
