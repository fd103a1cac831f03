-- The table that a name finds has it.
use Rattle.std.specs.Prelude.{◌≡◌, ℕ, List, [], get_or, Some, None, option_map, unwrap_or, Bool}
use Rattle.std.proofs.lemmas.List.Quantifiers.{position-Some}
use Rattle.std.proofs.lemmas.Option.{slice_get-get_or}
use Rattle.std.proofs.lemmas.Slice.Eq.{bytes_eq-Decides}
use mathlib.Core.Path.{ap, ◌∙◌}
use Rattle.odb_atoms.specs.Text.{same_text}
use Rattle.odb_request.specs.Represented.Shape.{table_name}
use Rattle.odb_schema.specs.Schema.{Schema, TableSchema, table_place}

none : TableSchema
none = record { name = []; columns = []; max_rows = None; is_root = Bool.false; indexes = [] }

pub found_named : (s : Schema) (name : List ℕ) (t : ℕ) → table_place s name ≡ Some t → table_name s t ≡ name
found_named s name t e =
    let at = position-Some (λ (t : TableSchema). same_text t.name name) s.tables t none e in
    ap (λ o. unwrap_or (option_map (λ (t : TableSchema). t.name) o) []) (slice_get-get_or s.tables t none at.0)
    ∙ (bytes_eq-Decides (get_or s.tables t none).name name).0 at.1
