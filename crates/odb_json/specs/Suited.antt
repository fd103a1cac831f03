-- What is known of an operation that was read: it is of the schema.
use Rattle.std.specs.Prelude.{◌≡◌, ℕ, ◌<◌, Bool, true, List, length, ⊤}
use Rattle.std.specs.List.{list_all}
use Rattle.odb_atoms.specs.ColType.{has_kind}
use Rattle.odb_atoms.specs.Value.{Value}
use Rattle.odb_json.specs.Operation.{Op, abort, assert, comment, commit, delete, insert, mutate, select, update, wait}
use Rattle.odb_mutate.specs.Mutation.{Mutation}
use Rattle.odb_mutate.specs.MutationTyping.{takes}
use Rattle.odb_schema.specs.Schema.{Column, Schema, column_type, columns_at}

-- values of the columns' kinds
abbrev pub are_of_kind : List Column → List (ℕ × Value) → Bool
are_of_kind cs given = list_all (λ e. has_kind (column_type cs e.0) e.1) given

-- mutations that the columns have
abbrev pub are_taken : List Column → List Mutation → Bool
are_taken cs ms = list_all (λ m. takes (column_type cs m.column) m.mutator m.value) ms

-- its table is one of the schema's, the values that it writes are of their columns' kinds, and its mutations are ones that their columns have
abbrev pub IsFor : Schema → Op → Type 0
IsFor s (insert t given name own) = t < length s.tables
IsFor s (select t clauses columns) = t < length s.tables
IsFor s (update t clauses given) = (t < length s.tables) × (are_of_kind (columns_at s t) given ≡ true)
IsFor s (mutate t clauses ms) = (t < length s.tables) × (are_taken (columns_at s t) ms ≡ true)
IsFor s (delete t clauses) = t < length s.tables
IsFor s (wait t clauses columns until rows timeout) = t < length s.tables
IsFor s (commit durable) = ⊤
IsFor s abort = ⊤
IsFor s comment = ⊤
IsFor s (assert lock) = ⊤
