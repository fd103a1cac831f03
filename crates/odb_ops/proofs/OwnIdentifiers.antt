-- An insert has one identifier, the same for its name and for its row.
use Rattle.std.specs.Prelude.{◌≡◌, ℕ, ⊤, List, ◌∷◌, [], codes, unwrap_or, Option, Some, None, option_and_then, Result, Ok, Err, ok_or}
use Rattle.std.specs.Result.{result_ok}
use mathlib.Core.Path.{refl, ap}
use Rattle.odb_atoms.specs.Error.{Error, syntax_error, unknown_operation}
use Rattle.odb_atoms.specs.Uuid.{Uuid}
use Rattle.odb_json.specs.ConditionNotation.{read_text}
use Rattle.odb_json.specs.MutationNotation.{changeable}
use Rattle.odb_json.specs.Operation as operation
use Rattle.odb_json.specs.Operation.{Op, read_op, read_own_uuid}
use Rattle.odb_ops.specs.Execution.{first_fresh, identifier_of, own_uuid}
use Rattle.odb_ops.proofs.Readers as readers
use Rattle.odb_ops.proofs.Readers.{IsReader}
use Rattle.odb_schema.proofs.Holds.{Holds, behind, next, none_read, read_in, so_holds, tested_holds, then_holds, with_holds}
use Rattle.odb_schema.specs.Json as json
use Rattle.odb_schema.specs.Json.{Data, Members}
use Rattle.odb_schema.specs.Notation.{Names}
use Rattle.odb_schema.specs.Schema.{Column, Schema, columns_at}

-- what an insert has of its own is this
abbrev pub HasOwn : Option Uuid → Op → Type 0
HasOwn o (Op.insert t given name own) = own ≡ o
HasOwn o (Op.select t clauses columns) = ⊤
HasOwn o (Op.update t clauses given) = ⊤
HasOwn o (Op.mutate t clauses ms) = ⊤
HasOwn o (Op.delete t clauses) = ⊤
HasOwn o (Op.wait t clauses columns until rows timeout) = ⊤
HasOwn o (Op.commit durable) = ⊤
HasOwn o Op.abort = ⊤
HasOwn o Op.comment = ⊤
HasOwn o (Op.assert lock) = ⊤

reader_has : (o : Option Uuid) (op : Op) → IsReader op → HasOwn o op
reader_has o (Op.insert t given name own) h = absurd h
reader_has o (Op.select t clauses columns) h = tt
reader_has o (Op.update t clauses given) h = absurd h
reader_has o (Op.mutate t clauses ms) h = absurd h
reader_has o (Op.delete t clauses) h = absurd h
reader_has o (Op.wait t clauses columns until rows timeout) h = tt
reader_has o (Op.commit durable) h = tt
reader_has o Op.abort h = tt
reader_has o Op.comment h = tt
reader_has o (Op.assert lock) h = tt

-- what can be read there
abbrev readable : Option Data → Option Uuid
readable o = option_and_then (λ d. result_ok (read_own_uuid d)) o

own_given : (o : Option Data) → Holds (λ own. own ≡ readable o) (json.if_given read_own_uuid o)
own_given None = read_in Error (λ own. own ≡ None) None refl
own_given (Some d) = by (read_own_uuid d)
  where
    by : (r : Result Uuid Error) → Holds (λ own. own ≡ result_ok r) (next r (λ u. Ok (Some u)))
    by (Ok u) = read_in Error (λ own. own ≡ Some u) (Some u) refl
    by (Err e) = none_read (λ own. own ≡ None) e

module _ (s : Schema) (names : Names) (ms : Members) where
  abbrev own : Option Uuid
  own = readable (json.get_member (codes "uuid") ms)

  abbrev Has : Result Op Error → Type 0
  Has = Holds (HasOwn own)

  any : {A : Type 0} (r : Result A Error) (f : A → Result Op Error) → ((x : A) → Has (f x)) → Has (next r f)
  any r f h = then_holds (HasOwn own) r f h

  ends : (o : Op) → HasOwn own o → (r : Result ⊤ Error) → Has (behind r (Ok o))
  ends o h r = tested_holds (HasOwn own) r _ (read_in Error (HasOwn own) o h)

  on_table : (read : Names → ℕ → List Column → Members → Result Op Error) → ((t : ℕ) → Has (read names t (columns_at s t) ms)) → Has (operation.on_table read s names ms)
  on_table read h = any (operation.read_table s ms) _ h

  reads : (r : Result Op Error) → Holds IsReader r → Has r
  reads r h = so_holds IsReader (HasOwn own) r (λ op. reader_has own op) h

  insert_has : (t : ℕ) → Has (operation.read_insert names t (columns_at s t) ms)
  insert_has t =
      any (operation.read_needed (codes "row") (operation.read_row names (columns_at s t) (operation.insertable (columns_at s t))) ms) _ (λ row.
      any (json.if_given operation.read_id (json.get_member (codes "uuid-name") ms)) _ (λ name.
      with_holds (λ o. o ≡ own) (HasOwn own) (json.if_given read_own_uuid (json.get_member (codes "uuid") ms)) _ (own_given (json.get_member (codes "uuid") ms)) (λ o is.
      ends (Op.insert t row name o) is (operation.refuse_other_members (codes "table" ∷ codes "row" ∷ codes "uuid-name" ∷ codes "uuid" ∷ []) ms))))

  update_has : (t : ℕ) → Has (operation.read_update names t (columns_at s t) ms)
  update_has t =
      any (operation.read_where names (columns_at s t) ms) _ (λ clauses.
      any (operation.read_needed (codes "row") (operation.read_row names (columns_at s t) (changeable (columns_at s t))) ms) _ (λ row.
      ends (Op.update t clauses row) tt (operation.refuse_other_members (codes "table" ∷ codes "where" ∷ codes "row" ∷ []) ms)))

  mutate_has : (t : ℕ) → Has (operation.read_mutate names t (columns_at s t) ms)
  mutate_has t =
      any (operation.read_where names (columns_at s t) ms) _ (λ clauses.
      any (operation.read_mutations names (columns_at s t) ms) _ (λ mutations.
      ends (Op.mutate t clauses mutations) tt (operation.refuse_other_members (codes "table" ∷ codes "where" ∷ codes "mutations" ∷ []) ms)))

  delete_has : (t : ℕ) → Has (operation.read_delete names t (columns_at s t) ms)
  delete_has t =
      any (operation.read_where names (columns_at s t) ms) _ (λ clauses.
      ends (Op.delete t clauses) tt (operation.refuse_other_members (codes "table" ∷ codes "where" ∷ []) ms))

  members_have : (v : operation.Verb) → Has (operation.read_members s names ms v)
  members_have operation.Verb.insert = on_table operation.read_insert insert_has
  members_have operation.Verb.select = reads (operation.on_table operation.read_select s names ms) (readers.on_table s names ms operation.read_select (readers.select_reads s names ms))
  members_have operation.Verb.update = on_table operation.read_update update_has
  members_have operation.Verb.mutate = on_table operation.read_mutate mutate_has
  members_have operation.Verb.delete = on_table operation.read_delete delete_has
  members_have operation.Verb.wait = reads (operation.on_table operation.read_wait s names ms) (readers.on_table s names ms operation.read_wait (readers.wait_reads s names ms))
  members_have operation.Verb.commit = reads (operation.read_commit ms) (readers.commit_reads s names ms)
  members_have operation.Verb.abort = reads (operation.read_abort ms) (readers.abort_reads s names ms)
  members_have operation.Verb.comment = reads (operation.read_comment ms) (readers.comment_reads s names ms)
  members_have operation.Verb.assert = reads (operation.read_assert ms) (readers.assert_reads s names ms)

-- an insert that is read has of its own what its text has
pub own_is : (s : Schema) (names : Names) (d : Data) → Holds (HasOwn (own_uuid d)) (read_op s names d)
unfolding read_op
own_is s names d = by (json.as_object d)
  where
    by : (o : Option Members) → Holds (HasOwn (readable (option_and_then (json.get_member (codes "uuid")) o))) (next (ok_or o syntax_error) (λ ms. next (operation.read_needed (codes "op") read_text ms) (λ name. next (ok_or (operation.verb_named name) unknown_operation) (λ verb. operation.read_members s names ms verb))))
    by None = none_read (HasOwn None) syntax_error
    by (Some ms) =
        then_holds (HasOwn (readable (json.get_member (codes "uuid") ms))) (operation.read_needed (codes "op") read_text ms) _ (λ name.
        then_holds (HasOwn (readable (json.get_member (codes "uuid") ms))) (ok_or (operation.verb_named name) unknown_operation) _ (λ verb. members_have s names ms verb))

-- so its row has the identifier that its name stands for
pub same_identifier : (d : Data) (fresh : List Uuid) (own : Option Uuid) → own ≡ own_uuid d → unwrap_or own (first_fresh fresh) ≡ identifier_of d fresh
same_identifier d fresh own e = ap (λ o. unwrap_or o (first_fresh fresh)) e
