-- Identifiers by their tags, and arrays of two.
use Rattle.std.specs.Prelude.{◌≡◌, ℕ, Bool, true, false, cond, List, [], ◌∷◌, codes, length, Option, Some, None}
use Rattle.std.proofs.lemmas.Option.{none-some, same_Some}
use mathlib.Core.Path.{refl, sym, ap, ◌∙◌}
use Rattle.serde_json.specs.declared.value.Value.{Value}
use Rattle.serde_json.specs.View.{items_view}
use Rattle.odb_atoms.specs.Error.{Error, syntax_error}
use Rattle.odb_atoms.specs.First.{Err, Result, ok_or}
use Rattle.odb_atoms.specs.Text.{same_text}
use Rattle.odb_atoms.specs.Uuid.{Uuid, uuid_of_text}
use Rattle.odb_schema.specs.Json.{Data, array, as_array, as_str, boolean, item, no_items, null, number, object, string}
use Rattle.odb_schema.specs.Notation.{Names, named_uuid, pair_of, read_uuid, tagged}
use Rattle.odb_schema.proofs.Uuids.{array_of}
use Rattle.odb_json.specs.Operation.{read_own_uuid}
use Rattle.odb_json.specs.Represented.Parts.{name_content, uuid_content}

module _ (names : Option Names) where
  abbrev by_tags : Option Data → Option Data → Result Uuid Error
  by_tags (Some d) o = uuid_content d
  by_tags None (Some d) = name_content names d
  by_tags None None = Err syntax_error

  text : (b c : Bool) (s : List ℕ) → cond b (ok_or (uuid_of_text s) syntax_error) (cond c (named_uuid names s) (Err syntax_error)) ≡ by_tags (cond b (Some (string s)) None) (cond c (Some (string s)) None)
  text true c s = refl
  text false true s = refl
  text false false s = refl

  no_text : (b c : Bool) (d : Data) → uuid_content d ≡ Err syntax_error → name_content names d ≡ Err syntax_error → Err syntax_error ≡ by_tags (cond b (Some d) None) (cond c (Some d) None)
  no_text true c d u n = sym u
  no_text false true d u n = sym n
  no_text false false d u n = refl

  -- an identifier by what stands after the one tag, or after the other
  tags : (d : Data) → read_uuid names d ≡ by_tags (tagged (codes "uuid") d) (tagged (codes "named-uuid") d)
  tags (array (item (string tag) (item (string s) no_items))) = text (same_text tag (codes "uuid")) (same_text tag (codes "named-uuid")) s
  tags (array (item (string tag) (item null no_items))) = no_text (same_text tag (codes "uuid")) (same_text tag (codes "named-uuid")) null refl refl
  tags (array (item (string tag) (item (boolean b) no_items))) = no_text (same_text tag (codes "uuid")) (same_text tag (codes "named-uuid")) (boolean b) refl refl
  tags (array (item (string tag) (item (number n) no_items))) = no_text (same_text tag (codes "uuid")) (same_text tag (codes "named-uuid")) (number n) refl refl
  tags (array (item (string tag) (item (array ds) no_items))) = no_text (same_text tag (codes "uuid")) (same_text tag (codes "named-uuid")) (array ds) refl refl
  tags (array (item (string tag) (item (object ms) no_items))) = no_text (same_text tag (codes "uuid")) (same_text tag (codes "named-uuid")) (object ms) refl refl
  tags d = refl

  pub uuid_tagged : (d content : Data) → Some content ≡ tagged (codes "uuid") d → uuid_content content ≡ read_uuid names d
  uuid_tagged d content is = ap (λ o. by_tags o (tagged (codes "named-uuid") d)) is ∙ sym (tags d)

  pub name_tagged : (d content : Data) → None ≡ tagged (codes "uuid") d → Some content ≡ tagged (codes "named-uuid") d → name_content names content ≡ read_uuid names d
  name_tagged d content none is = (λ i. by_tags (none i) (is i)) ∙ sym (tags d)

-- ---- identifiers of inserts

pub own_text : (d : Data) (s : List ℕ) → Some s ≡ as_str d → ok_or (uuid_of_text s) syntax_error ≡ read_own_uuid d
own_text (string r) s e = ap (λ q. ok_or (uuid_of_text q) syntax_error) (same_Some _ _ e)
own_text null s e = absurd (none-some s (sym e))
own_text (boolean b) s e = absurd (none-some s (sym e))
own_text (number n) s e = absurd (none-some s (sym e))
own_text (array ds) s e = absurd (none-some s (sym e))
own_text (object ms) s e = absurd (none-some s (sym e))

pub own_tagged : (d : Data) → None ≡ as_str d → read_uuid None d ≡ read_own_uuid d
own_tagged (string s) e = absurd (none-some s e)
own_tagged null e = refl
own_tagged (boolean b) e = refl
own_tagged (number n) e = refl
own_tagged (array ds) e = refl
own_tagged (object ms) e = refl

-- ---- arrays of another length than two are no pairs

not_two : (vs : List Value) → (length vs ≡ 2 → ⊥) → None ≡ pair_of (array (items_view vs))
not_two [] h = refl
not_two (v ∷ []) h = refl
not_two (v ∷ w ∷ []) h = absurd (h refl)
not_two (v ∷ w ∷ x ∷ vs) h = refl

pub no_pair : (d : Data) (vs : List Value) → Some (items_view vs) ≡ as_array d → (length vs ≡ 2 → ⊥) → None ≡ pair_of d
no_pair d vs e h = not_two vs h ∙ ap pair_of (array_of d (items_view vs) e)
