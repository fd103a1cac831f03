-- What a context of the code stands for.
use Rattle.std.specs.Prelude.{ℕ, Bool, List, map}
use Rattle.std.specs.List.{list_any}
use Rattle.odb_atoms.specs.Represented.Atom.{uuid_of}
use Rattle.odb_atoms.specs.Text.{same_text}
use Rattle.odb_ops.specs.Execution as model
use Rattle.odb_ops.specs.declared.context.Context.{Context}

-- some name is this one
abbrev pub is_named : List (List ℕ) → List ℕ → Bool
is_named names name = list_any (same_text name) names

abbrev pub context_of : Context → model.Context
context_of c = record { fresh = map uuid_of c.fresh.now; arrival = c.arrival; now = c.now; owns = is_named (map (λ name. name.now) c.owned.now) }
