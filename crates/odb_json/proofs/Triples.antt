-- Arrays that don't have three members.
use Rattle.std.specs.Prelude.{◌≡◌, List, [], ◌∷◌, length, None, Some}
use mathlib.Core.Path.{refl, ap, ◌∙◌}
use Rattle.serde_json.specs.Find.{as_array}
use Rattle.serde_json.specs.View.{items_view}
use Rattle.serde_json.specs.declared.value.Value.{Value}
use Rattle.odb_schema.proofs.Uuids.{array_of}
use Rattle.odb_schema.specs.Json.{Data, array}
use Rattle.odb_json.specs.ConditionNotation.{triple}

not_three : (vs : List Value) → (length vs ≡ 3 → ⊥) → None ≡ triple (array (items_view vs))
not_three [] h = refl
not_three (v ∷ []) h = refl
not_three (v ∷ w ∷ []) h = refl
not_three (v ∷ w ∷ x ∷ []) h = absurd (h refl)
not_three (v ∷ w ∷ x ∷ y ∷ vs) h = refl

pub no_triple : (d : Data) (vs : List Value) → Some (items_view vs) ≡ as_array d → (length vs ≡ 3 → ⊥) → None ≡ triple d
no_triple d vs e h = not_three vs h ∙ ap triple (array_of d (items_view vs) e)
