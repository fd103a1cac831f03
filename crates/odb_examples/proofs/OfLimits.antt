-- The limits that are too large to compute, by lemmas. [P 14]
use Rattle.std.specs.Prelude.{◌≡◌, ℕ, List, refl, Ok, Err, Result, Some, None, Option, pos, true, false, map as map_list}
use Rattle.serde_json.specs.Written.{compact_text}
use Rattle.std.specs.List.{range_with_len}
use Rattle.odb_atoms.specs.FinSet as set
use Rattle.odb_atoms.specs.Atom.{integer, integers}
use Rattle.odb_atoms.specs.ColType.{ColType, is_scalar, plain}
use Rattle.odb_atoms.specs.Error.{Error, resources_exhausted, syntax_error}
use Rattle.odb_atoms.specs.First.{◌>>=◌}
use Rattle.odb_atoms.specs.Value.{Atoms, Value, max_elements, set_of, size, within_limit}
use Rattle.odb_examples.proofs.Examples.{computes}
use Rattle.odb_json.specs.ColumnValue.{read_by_kind, read_value}
use Rattle.odb_mutate.specs.Mutation.{insert, mutate}
use Rattle.odb_schema.specs.Json.{Data}
use Rattle.odb_schema.specs.Notation.{Names, read_any}
use Rattle.odb_schema.specs.SchemaText.{SchemaFault, schema_of_text, write_schema}

abbrev many : ℕ → Value
many n = set_of (set.from_sorted (map_list (λ n. integer (pos n)) (range_with_len 0 n)))

abbrev three : ColType
three = record { key = plain integers; value = None; min = 0; max = Some 3 }

abbrev again : List ℕ → Result (List ℕ) SchemaFault
again s = do
  schema ← schema_of_text s
  Ok (compact_text (write_schema schema))

pub limit_is : max_elements ≡ 65536
unfolding computes
limit_is = refl

pub limit_first : (names : Option Names) (t : ColType) (d : Data) (v : Value) → read_any names t d ≡ Ok v → within_limit v ≡ false → read_value names t d ≡ Err resources_exhausted
unfolding computes
limit_first = λ names t d v h k. rw (h, k) refl

pub fault_first : (names : Option Names) (t : ColType) (d : Data) (e : Error) → read_any names t d ≡ Err e → read_value names t d ≡ Err e
unfolding computes
fault_first = λ names t d e h. rw h refl

pub at_the_limit : (v : Value) → size v ≡ 65536 → within_limit v ≡ true
unfolding computes
at_the_limit = λ v h. rw h refl

pub past_the_limit : (v : Value) → size v ≡ 65537 → within_limit v ≡ false
unfolding computes
past_the_limit = λ v h. rw h refl

pub by_kind_scalar_first : (names : Option Names) (t : ColType) (d : Data) (v : Value) → read_any names t d ≡ Ok v → is_scalar t ≡ true → size v ≡ 65537 → read_by_kind names t d ≡ Err syntax_error
unfolding computes
by_kind_scalar_first = λ names t d v h k l. rw (h, k, l) refl

pub by_kind_limit : (names : Option Names) (t : ColType) (d : Data) (v : Value) → read_any names t d ≡ Ok v → is_scalar t ≡ false → size v ≡ 65537 → read_by_kind names t d ≡ Err resources_exhausted
unfolding computes
by_kind_limit = λ names t d v h k l. rw (h, k, l) refl

pub mutate_limit : (t : ColType) (s u : Atoms) → size (set_of (set.union s u)) ≡ 65537 → mutate insert (set_of u) t (set_of s) ≡ Err resources_exhausted
unfolding computes
mutate_limit = λ t s u h. rw h refl
