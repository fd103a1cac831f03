-- What is read as an operation that only reads is one.
use Rattle.std.specs.Prelude.{◌≡◌, ℕ, Bool, true, false, not, ◌||◌, List, [], ◌∷◌, codes, length, ⊤, unwrap_or, Option, Some, None, option_map, option_and_then, Result, Ok, Err, ok_or}
use Rattle.std.specs.List.{AllByRecursion, list_all, list_any}
use Rattle.std.proofs.lemmas.Slice.Eq.{bytes_eq-Decides}
use mathlib.Core.Bool.{true≢false}
use mathlib.Core.Path.{refl, sym, subst}
use Rattle.odb_atoms.specs.Error.{Error, syntax_error, unknown_operation}
use Rattle.odb_atoms.specs.Text.{same_text}
use Rattle.odb_atoms.specs.Uuid.{Uuid}
use Rattle.odb_atoms.proofs.Lists.{both}
use Rattle.odb_json.specs.ConditionNotation.{read_text}
use Rattle.odb_json.specs.Operation as operation
use Rattle.odb_json.specs.Operation.{Op, read_op}
use Rattle.odb_ops.specs.Execution as model
use Rattle.odb_ops.specs.Execution.{Context, Draft, Ran, Stop}
use Rattle.odb_ops.proofs.Typed.{or_stop_holds}
use Rattle.odb_schema.proofs.Holds.{Holds, behind, in_read, next, none_read, read_in, tested_holds, then_holds, with_holds}
use Rattle.odb_schema.specs.Json as json
use Rattle.odb_schema.specs.Json.{Data, Members}
use Rattle.odb_schema.specs.Notation.{Names}
use Rattle.odb_schema.specs.Schema.{Column, Schema, columns_at}
use Rattle.odb_tables.specs.Database.{Db}

-- ---- reading

abbrev pub IsReader : Op → Type 0
IsReader (Op.insert t given name own) = ⊥
IsReader (Op.select t clauses columns) = ⊤
IsReader (Op.update t clauses given) = ⊥
IsReader (Op.mutate t clauses ms) = ⊥
IsReader (Op.delete t clauses) = ⊥
IsReader (Op.wait t clauses columns until rows timeout) = ⊤
IsReader (Op.commit durable) = ⊤
IsReader Op.abort = ⊤
IsReader Op.comment = ⊤
IsReader (Op.assert lock) = ⊤

-- a name that is among these has what each of them has
one_of : (P : List ℕ → Type 0) (names : List (List ℕ)) → AllByRecursion P names → (name : List ℕ) → list_any (same_text name) names ≡ true → P name
one_of P [] all name e = absurd (true≢false (sym e))
one_of P (n ∷ ns) all name e =
    elim (same_text name n) as (λ b. same_text name n ≡ b → (b || list_any (same_text name) ns) ≡ true → P name) [
      | true ↦ λ is _. subst P (sym ((bytes_eq-Decides name n).0 is)) all.0
      | false ↦ λ _ rest. one_of P ns all.1 name rest
    ] refl e

module _ (s : Schema) (names : Names) (ms : Members) where
  abbrev Reads : Result Op Error → Type 0
  Reads = Holds IsReader

  any : {A : Type 0} (r : Result A Error) (f : A → Result Op Error) → ((x : A) → Reads (f x)) → Reads (next r f)
  any r f h = then_holds IsReader r f h

  ends : (o : Op) → IsReader o → (r : Result ⊤ Error) → Reads (behind r (Ok o))
  ends o h r = tested_holds IsReader r _ (read_in Error IsReader o h)

  pub on_table : (read : Names → ℕ → List Column → Members → Result Op Error) → ((t : ℕ) → Reads (read names t (columns_at s t) ms)) → Reads (operation.on_table read s names ms)
  on_table read h = any (operation.read_table s ms) _ h

  pub select_reads : (t : ℕ) → Reads (operation.read_select names t (columns_at s t) ms)
  select_reads t =
      any (operation.read_where names (columns_at s t) ms) _ (λ clauses.
      any (operation.read_columns (columns_at s t) (json.get_member (codes "columns") ms)) _ (λ columns.
      ends (Op.select t clauses columns) tt (operation.refuse_other_members (codes "table" ∷ codes "where" ∷ codes "columns" ∷ []) ms)))

  pub wait_reads : (t : ℕ) → Reads (operation.read_wait names t (columns_at s t) ms)
  wait_reads t =
      any (operation.read_where names (columns_at s t) ms) _ (λ clauses.
      any (operation.read_columns (columns_at s t) (json.get_member (codes "columns") ms)) _ (λ columns.
      any (operation.read_needed (codes "until") operation.read_until ms) _ (λ until.
      any (operation.read_expected_rows names (columns_at s t) ms) _ (λ rows.
      any (json.if_given operation.read_natural (json.get_member (codes "timeout") ms)) _ (λ timeout.
      ends (Op.wait t clauses columns until rows timeout) tt (operation.refuse_other_members (codes "table" ∷ codes "where" ∷ codes "columns" ∷ codes "until" ∷ codes "rows" ∷ codes "timeout" ∷ []) ms))))))

  pub commit_reads : Reads (operation.read_commit ms)
  commit_reads = any (operation.read_needed (codes "durable") operation.read_bool ms) _ (λ durable. ends (Op.commit durable) tt (operation.refuse_other_members (codes "durable" ∷ []) ms))

  pub abort_reads : Reads (operation.read_abort ms)
  abort_reads = ends Op.abort tt (operation.refuse_other_members [] ms)

  pub comment_reads : Reads (operation.read_comment ms)
  comment_reads = any (operation.read_needed (codes "comment") read_text ms) _ (λ text. ends Op.comment tt (operation.refuse_other_members (codes "comment" ∷ []) ms))

  pub assert_reads : Reads (operation.read_assert ms)
  assert_reads = any (operation.read_needed (codes "lock") operation.read_id ms) _ (λ lock. ends (Op.assert lock) tt (operation.refuse_other_members (codes "lock" ∷ []) ms))
