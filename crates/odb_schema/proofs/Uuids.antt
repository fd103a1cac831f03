-- Identifiers, and arrays that have no tag.
use Rattle.std.specs.Prelude.{◌≡◌, ℕ, ◌==◌, cond, List, [], ◌∷◌, length, Option, Some, None, Err, option_map, Result, Ok, IfOk}
use Rattle.std.specs.Result.{IsOk, result_ok}
use Rattle.odb_atoms.specs.Represented.Atom.{uuid_of}
use mathlib.Core.Bool.{true≢false}
use mathlib.Core.Path.{refl, sym, ap, subst, ◌∙◌}
use Rattle.serde_json.specs.declared.value.Value.{Value}
use Rattle.serde_json.specs.View.{view, items_view}
use Rattle.uuid.specs.Text.{parsed, parsed_hyphenated}
use Rattle.odb_atoms.specs.Uuid.{Uuid, uuid_of_text}
use Rattle.odb_schema.specs.Json.{Data, Items, array, as_array, boolean, item, no_items, null, number, object, string}
use Rattle.odb_schema.specs.Notation.{tagged}

no_uuid : (o : Option (List ℕ)) (f : List ℕ → Uuid) → ((u : List ℕ) → o ≡ Some u → ⊥) → None ≡ option_map f o
no_uuid None f h = refl
no_uuid (Some u) f h = absurd (h u refl)

chosen : {A : Type 0} (n : ℕ) (a b c : A) → n ≡ 36 → cond (n == 32) a (cond (n == 36) b c) ≡ b
chosen n a b c e = subst (λ n. cond (n == 32) a (cond (n == 36) b c) ≡ b) (sym e) refl

-- a text of 36 characters is the identifier that it parses to, and none if it parses to nothing
pub parsed_is : {E : Type 0} (s : List ℕ) (r : Result (List ℕ) E) → length s ≡ 36 → IfOk r (λ u. Some u ≡ parsed s) → ((u : List ℕ) → parsed s ≡ Some u → IsOk r) → option_map uuid_of (result_ok r) ≡ uuid_of_text s
parsed_is s (Ok u) long is h = ap (option_map uuid_of) (is ∙ chosen (length s) _ _ _ long)
parsed_is s (Err e) long is h = no_uuid (parsed_hyphenated s) _ (λ u found. true≢false (sym (h u (chosen (length s) _ _ _ long ∙ found))))

-- ---- arrays without two members have no tag

pub array_of : (d : Data) (ds : Items) → Some ds ≡ as_array d → array ds ≡ d
array_of null ds e = cc
array_of (boolean b) ds e = cc
array_of (number n) ds e = cc
array_of (string s) ds e = cc
array_of (array es) ds e = cc
array_of (object ms) ds e = cc

alone : (tag : List ℕ) (d : Data) → None ≡ tagged tag (array (item d no_items))
alone tag (string s) = refl
alone tag d = refl

many : (tag : List ℕ) (d e f : Data) (ds : Items) → None ≡ tagged tag (array (item d (item e (item f ds))))
many tag (string s) e f ds = refl
many tag d e f ds = refl

not_two : (tag : List ℕ) (vs : List Value) → (length vs ≡ 2 → ⊥) → None ≡ tagged tag (array (items_view vs))
not_two tag [] h = refl
not_two tag (v ∷ []) h = alone tag (view v)
not_two tag (v ∷ w ∷ []) h = absurd (h refl)
not_two tag (v ∷ w ∷ x ∷ vs) h = many tag (view v) (view w) (view x) (items_view vs)

pub untagged : (tag : List ℕ) (d : Data) (vs : List Value) → Some (items_view vs) ≡ as_array d → (length vs ≡ 2 → ⊥) → None ≡ tagged tag d
untagged tag d vs e h = not_two tag vs h ∙ ap (tagged tag) (array_of d (items_view vs) e)
