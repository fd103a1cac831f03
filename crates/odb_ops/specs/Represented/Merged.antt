-- One mutation in place of several that stand next to each other, and what it is made of.
use Rattle.std.specs.Prelude.{◌≡◌, ℕ, ◌≤◌, Bool, true, ◌==◌, List, [], ◌∷◌, ◌++◌, Option, Some, None, nat_le, Ok, ⊤}
use Rattle.std.specs.List.{list_all}
use Rattle.odb_atoms.specs.Atom.{Kind}
use Rattle.odb_atoms.specs.ColType.{ColType, plain}
use Rattle.odb_atoms.specs.Row.{Row}
use Rattle.odb_atoms.specs.Value.{Value, size}
use Rattle.odb_json.specs.Suited.{are_taken}
use Rattle.odb_mutate.specs.Mutation.{Mutation, insert}
use Rattle.odb_mutate.specs.MutationTyping.{takes}
use Rattle.odb_ops.specs.Execution.{mutated}
use Rattle.odb_schema.specs.Schema.{Column, column_type}
use Rattle.odb_tables.specs.Typed.{fits}

-- the columns take it, and what it makes of a row is what these make of it one after another
abbrev pub Replaces : List Column → Mutation → List Mutation → Type 0
Replaces cs m ms = (takes (column_type cs m.column) m.mutator m.value ≡ true) × ((r new : Row) → fits cs r ≡ true → mutated cs (m ∷ []) r ≡ Ok new → mutated cs ms r ≡ Ok new)

-- the column never has to have more than one element
abbrev pub needs_one_at_most : List Column → ℕ → Bool
needs_one_at_most cs i = nat_le (column_type cs i).min 1

-- it replaces them wherever they are taken, unless its column has to have several elements
abbrev pub StandsFor : Mutation → List Mutation → Type 0
StandsFor m ms = (cs : List Column) → are_taken cs ms ≡ true → needs_one_at_most cs m.column ≡ true → Replaces cs m ms

-- if there is one, it stands for these
abbrev pub MayStandFor : Option Mutation → List Mutation → Type 0
MayStandFor None ms = ⊤
MayStandFor (Some m) ms = StandsFor m ms

-- these lists of mutations one after another
abbrev pub all_of : List (List Mutation) → List Mutation
all_of [] = []
all_of (run ∷ runs) = run ++ all_of runs

-- ---- insertions of sets

abbrev pub insertion : ℕ → Value → Mutation
insertion place v = record { column = place; mutator = insert; value = v }

abbrev pub are_at : ℕ → List Mutation → Bool
are_at place ms = list_all (λ m. m.column == place) ms

-- sets of any number of these atoms
abbrev pub sets_of : Kind → ColType
sets_of k = record { key = plain k; value = None; min = 0; max = None }

abbrev pub all_take : ColType → List Mutation → Bool
all_take t ms = list_all (λ m. takes t m.mutator m.value) ms

-- the type takes the operand, which isn't empty, and where these are all of one column its insertion there stands for them
abbrev pub Inserts : ColType → List Mutation → Value → Type 0
Inserts t ms v = (takes t insert v ≡ true) × (1 ≤ size v) × ((place : ℕ) → are_at place ms ≡ true → StandsFor (insertion place v) ms)
