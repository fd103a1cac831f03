-- The names of an object's members.
use Rattle.std.specs.Prelude.{◌≡◌, ℕ, Bool, ◌||◌, List, is_some, Option, Some}
use Rattle.std.specs.Option.{option_map}
use Rattle.std.specs.List.{list_any}
use Rattle.std.specs.declared.cmp.Ordering.{Ordering}
use Rattle.std.specs.declared.cmp.Ordering.TheVariants.{Less, Equal, Greater}
use Rattle.std.specs.Ordering.{is_eq, match_ordering}
use mathlib.Core.Path.{refl, ap, ◌∙◌}
use Rattle.odb_atoms.specs.Text.{same_text, text_cmp}
use Rattle.odb_schema.specs.Json.{Data, Members, no_members, member, get_member}
use Rattle.odb_schema.specs.Represented.Parts.{names_in}
use Rattle.odb_schema.proofs.Places.{same_by_order}

here_or : (o : Ordering) (e : Data) (rest : Option Data) (b : Bool) → is_some rest ≡ b → is_some (match_ordering o rest (Some e) rest) ≡ (is_eq o || b)
here_or Less e rest b h = h
here_or Equal e rest b h = refl
here_or Greater e rest b h = h

-- there is a member at a name that is among them
pub is_some-get_member : (name : List ℕ) (ms : Members) → is_some (get_member name ms) ≡ list_any (same_text name) (names_in ms)
is_some-get_member name no_members = refl
is_some-get_member name (member k d ms) = here_or (text_cmp name k) d _ _ (is_some-get_member name ms) ∙ ap (λ b. b || list_any (same_text name) (names_in ms)) (same_by_order name k)

pub is_some-option_map : {A B : Type 0} (f : A → B) (o : Option A) → is_some (option_map f o) ≡ is_some o
is_some-option_map f o = elim o as (λ o. is_some (option_map f o) ≡ is_some o) [ Some x ↦ refl | _ ↦ refl ]
