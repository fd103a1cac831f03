use Rattle.std.proofs.Common.{◌≡◌, ◌∙◌, ℕ, List, Bool, true, false, cond, codes, Option, None, Some, ap, option_map, refl, subst, sym}
use Rattle.std.specs.Option as option
use Rattle.serde_json.specs.View.{view}
use Rattle.odb_atoms.specs.Error.{syntax_error}
use Rattle.odb_atoms.specs.First.{Err, Result, ok_or}
use Rattle.odb_atoms.specs.Represented.Atom.{uuid_of}
use Rattle.odb_atoms.specs.Text.{same_text}
use Rattle.odb_atoms.specs.Uuid.{Uuid, uuid_of_text}
use Rattle.odb_schema.specs.Json.{Data, array, as_str, boolean, item, no_items, null, number, object, string}
use Rattle.odb_schema.specs.Notation.{tagged}
use Rattle.odb_schema.specs.SchemaText.{SchemaFault, bad_as, bad_type}
use Rattle.odb_schema.specs.Represented.Fault.{Gives}
use Rattle.odb_schema.specs.Represented.Parts.{uuid_in}
use Rattle.odb_schema.specs.declared.fault.SchemaFault.TheVariants.{BadType}
use Rattle.odb_schema.proofs.read.atom.read_uuid.Goals as goal
use Rattle.uuid.specs.declared.Uuid as code

abbrev of_text : Option (List ℕ) → Result Uuid SchemaFault
of_text None = Err bad_type
of_text (Some s) = ok_or (uuid_of_text s) bad_type

abbrev behind : Option Data → Result Uuid SchemaFault
behind None = Err bad_type
behind (Some d) = of_text (as_str d)

text : (b c : Bool) (s : List ℕ) (o : Option Uuid) → uuid_of_text s ≡ o → bad_as (cond b (ok_or o syntax_error) (cond c (Err syntax_error) (Err syntax_error))) ≡ behind (cond b (Some (string s)) None)
text true c s None is = ap (λ o. ok_or o bad_type) (sym is)
text true c s (Some u) is = ap (λ o. ok_or o bad_type) (sym is)
text false true s o is = refl
text false false s o is = refl

no_text : (b : Bool) (d : Data) → as_str d ≡ None → Err bad_type ≡ behind (cond b (Some d) None)
no_text true d none = ap of_text (sym none)
no_text false d none = refl

by_tag : (d : Data) → uuid_in d ≡ behind (tagged (codes "uuid") d)
by_tag (array (item (string tag) (item (string s) no_items))) = text (same_text tag (codes "uuid")) (same_text tag (codes "named-uuid")) s (uuid_of_text s) refl
by_tag (array (item (string tag) (item null no_items))) = no_text (same_text tag (codes "uuid")) null refl
by_tag (array (item (string tag) (item (boolean b) no_items))) = no_text (same_text tag (codes "uuid")) (boolean b) refl
by_tag (array (item (string tag) (item (number n) no_items))) = no_text (same_text tag (codes "uuid")) (number n) refl
by_tag (array (item (string tag) (item (array ds) no_items))) = no_text (same_text tag (codes "uuid")) (array ds) refl
by_tag (array (item (string tag) (item (object ms) no_items))) = no_text (same_text tag (codes "uuid")) (object ms) refl
by_tag d = refl

gives : (o : Option code.Uuid) → Gives uuid_of (option.ok_or o BadType) (ok_or (option_map uuid_of o) bad_type)
gives None = refl
gives (Some u) = refl

pub returns-in_default : goal.returns-in_default
returns-in_default c = by_tag (view c.args.value.now) ∙ ap behind (sym c.in_default.ensures)

pub returns-in_default-as_str : goal.returns-in_default-as_str
returns-in_default-as_str c =
    by_tag (view c.args.value.now) ∙ ap behind (sym c.in-Some.ensures) ∙ ap of_text (sym c.in_default-as_str.ensures)

pub returns : goal.returns
returns c =
    let all = by_tag (view c.args.value.now) ∙ ap behind (sym c.in-Some.ensures) ∙ ap of_text (sym c.in-Some-as_str.ensures) ∙ ap (λ o. ok_or o bad_type) (sym c.parse_uuid.ensures) in
    rw c.ok_or.ensures.value (subst (λ r. Gives uuid_of (option.ok_or c.parse_uuid.result BadType) r) (sym all) (gives c.parse_uuid.result))
