-- An object, or an array of exactly one.
use Rattle.std.specs.Prelude.{◌≡◌, List, [], ◌∷◌, length, None, Some}
use mathlib.Core.Path.{refl, ap, ◌∙◌}
use Rattle.odb_atoms.specs.Error.{syntax_error}
use Rattle.odb_atoms.specs.First.{Err, ok_or}
use Rattle.odb_request.specs.Represented.Parts.{lone_object}
use Rattle.odb_request.specs.Requests.{request_object}
use Rattle.odb_schema.proofs.Uuids.{array_of}
use Rattle.odb_schema.specs.Json.{Data, Items, array, as_array, as_object, item, no_items, object}
use Rattle.serde_json.specs.View.{items_view}
use Rattle.serde_json.specs.declared.value.Value.{Value}

one : (d : Data) → lone_object (item d no_items) ≡ request_object (array (item d no_items))
one (object ms) = refl
one d = refl

several : (d e : Data) (ds : Items) → lone_object (item d (item e ds)) ≡ request_object (array (item d (item e ds)))
several (object ms) e ds = refl
several d e ds = refl

lone : (ds : Items) → lone_object ds ≡ request_object (array ds)
lone no_items = refl
lone (item d no_items) = one d
lone (item d (item e ds)) = several d e ds

pub of_array : (d : Data) (ds : Items) → Some ds ≡ as_array d → lone_object ds ≡ request_object d
of_array d ds e = lone ds ∙ ap request_object (array_of d ds e)

pub no_array : (d : Data) → None ≡ as_array d → ok_or (as_object d) syntax_error ≡ request_object d
no_array (array ds) e = cc
no_array (object ms) e = refl
no_array d e = refl

pub not_one : (vs : List Value) → (length vs ≡ 1 → ⊥) → lone_object (items_view vs) ≡ Err syntax_error
not_one [] h = refl
not_one (v ∷ []) h = absurd (h refl)
not_one (v ∷ w ∷ vs) h = refl
