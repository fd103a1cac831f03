-- The test of equal JSON data: data that pass it are equal, and what is written of values passes it.
use Rattle.std.specs.Prelude.{◌≡◌, ℕ, pos, negsuc, Bool, true, false, ◌&&◌, List, [], ◌∷◌, map as map_list}
use mathlib.Core.Bool.{true≢false}
use mathlib.Core.Path.{refl, sym, ap, ◌∙◌}
use Rattle.std.specs.Ordering.{bool_cmp, is_eq}
use Rattle.std.specs.Cmp.{unsigned_Decides, signed_Decides}
use Rattle.std.proofs.lemmas.Slice.Eq.{bytes_eq-Decides}
use Rattle.serde_json.specs.Data.{Num, unsigned, negative, float}
use Rattle.odb_atoms.proofs.Lists.{both}
use Rattle.odb_atoms.specs.FinSet as set
use Rattle.odb_atoms.specs.Atom.{Atom, integer, text, uuid}
use Rattle.odb_atoms.specs.Atom as atom
use Rattle.odb_atoms.specs.Text.{same_text}
use Rattle.odb_atoms.specs.Uuid.{uuid_text}
use Rattle.odb_atoms.specs.Value.{Value, set_of, map_of}
use Rattle.odb_schema.specs.Json.{Data, null, boolean, number, string, array, object, Items, no_items, item, Members, no_members, member, items_of, same_number, same_data, same_items, same_members}
use Rattle.odb_schema.specs.Notation.{write_atom, write_atoms, write_pair, write_value}

no : {A : Type 0} → false ≡ true → A
no e = absurd (true≢false (sym e))

same_boolean : (b c : Bool) → is_eq (bool_cmp b c) ≡ true → b ≡ c
same_boolean false false e = refl
same_boolean false true e = no e
same_boolean true false e = no e
same_boolean true true e = refl

same_number-equal : (m n : Num) → same_number m n ≡ true → m ≡ n
same_number-equal (unsigned m) (unsigned n) e = ap unsigned ((unsigned_Decides m n).0 e)
same_number-equal (unsigned m) (negative z) e = no e
same_number-equal (unsigned m) (float x) e = no e
same_number-equal (negative y) (unsigned n) e = no e
same_number-equal (negative y) (negative z) e = ap negative ((signed_Decides y z).0 e)
same_number-equal (negative y) (float x) e = no e
same_number-equal (float x) (unsigned n) e = no e
same_number-equal (float x) (negative z) e = no e
same_number-equal (float x) (float y) e = no e

-- data that pass the test are equal
mutual
  pub same_data-equal : (d e : Data) → same_data d e ≡ true → d ≡ e
  same_data-equal null null h = refl
  same_data-equal null (boolean c) h = no h
  same_data-equal null (number n) h = no h
  same_data-equal null (string t) h = no h
  same_data-equal null (array es) h = no h
  same_data-equal null (object ns) h = no h
  same_data-equal (boolean b) null h = no h
  same_data-equal (boolean b) (boolean c) h = ap boolean (same_boolean b c h)
  same_data-equal (boolean b) (number n) h = no h
  same_data-equal (boolean b) (string t) h = no h
  same_data-equal (boolean b) (array es) h = no h
  same_data-equal (boolean b) (object ns) h = no h
  same_data-equal (number m) null h = no h
  same_data-equal (number m) (boolean c) h = no h
  same_data-equal (number m) (number n) h = ap number (same_number-equal m n h)
  same_data-equal (number m) (string t) h = no h
  same_data-equal (number m) (array es) h = no h
  same_data-equal (number m) (object ns) h = no h
  same_data-equal (string s) null h = no h
  same_data-equal (string s) (boolean c) h = no h
  same_data-equal (string s) (number n) h = no h
  same_data-equal (string s) (string t) h = ap string ((bytes_eq-Decides s t).0 h)
  same_data-equal (string s) (array es) h = no h
  same_data-equal (string s) (object ns) h = no h
  same_data-equal (array ds) null h = no h
  same_data-equal (array ds) (boolean c) h = no h
  same_data-equal (array ds) (number n) h = no h
  same_data-equal (array ds) (string t) h = no h
  same_data-equal (array ds) (array es) h = ap array (same_items-equal ds es h)
  same_data-equal (array ds) (object ns) h = no h
  same_data-equal (object ms) null h = no h
  same_data-equal (object ms) (boolean c) h = no h
  same_data-equal (object ms) (number n) h = no h
  same_data-equal (object ms) (string t) h = no h
  same_data-equal (object ms) (array es) h = no h
  same_data-equal (object ms) (object ns) h = ap object (same_members-equal ms ns h)

  same_items-equal : (ds es : Items) → same_items ds es ≡ true → ds ≡ es
  same_items-equal no_items no_items h = refl
  same_items-equal no_items (item e es) h = no h
  same_items-equal (item d ds) no_items h = no h
  same_items-equal (item d ds) (item e es) h =
      let p : (same_data d e ≡ true) × (same_items ds es ≡ true) = both (same_data d e) (same_items ds es) h in
      λ i. item (same_data-equal d e p.0 i) (same_items-equal ds es p.1 i)

  same_members-equal : (ms ns : Members) → same_members ms ns ≡ true → ms ≡ ns
  same_members-equal no_members no_members h = refl
  same_members-equal no_members (member l e ns) h = no h
  same_members-equal (member k d ms) no_members h = no h
  same_members-equal (member k d ms) (member l e ns) h =
      let p : ((same_text k l && same_data d e) ≡ true) × (same_members ms ns ≡ true) = both (same_text k l && same_data d e) (same_members ms ns) h in
      let q : (same_text k l ≡ true) × (same_data d e ≡ true) = both (same_text k l) (same_data d e) p.0 in
      λ i. member ((bytes_eq-Decides k l).0 q.0 i) (same_data-equal d e q.1 i) (same_members-equal ms ns p.1 i)

-- ---- what is written

text-itself : (s : List ℕ) → same_text s s ≡ true
text-itself s = (bytes_eq-Decides s s).1 refl

pub atom-itself : (a : Atom) → same_data (write_atom a) (write_atom a) ≡ true
atom-itself (integer (pos n)) = (unsigned_Decides n n).1 refl
atom-itself (integer (negsuc n)) = (signed_Decides (negsuc n) (negsuc n)).1 refl
atom-itself (atom.boolean true) = refl
atom-itself (atom.boolean false) = refl
atom-itself (text s) = text-itself s
atom-itself (uuid u) = ap (λ b. b && true) (text-itself (uuid_text u))

items-itself : {A : Type 0} (f : A → Data) → ((x : A) → same_data (f x) (f x) ≡ true) → (xs : List A) → same_items (items_of (map_list f xs)) (items_of (map_list f xs)) ≡ true
items-itself f is [] = refl
items-itself f is (x ∷ xs) = ap (λ b. b && same_items (items_of (map_list f xs)) (items_of (map_list f xs))) (is x) ∙ items-itself f is xs

pair-itself : (e : Atom × Atom) → same_data (write_pair e) (write_pair e) ≡ true
pair-itself e = ap (λ b. b && (same_data (write_atom e.1) (write_atom e.1) && true)) (atom-itself e.0) ∙ ap (λ b. b && true) (atom-itself e.1)

atoms-itself : (xs : List Atom) → same_data (write_atoms xs) (write_atoms xs) ≡ true
atoms-itself [] = refl
atoms-itself (a ∷ []) = atom-itself a
atoms-itself (a ∷ b ∷ xs) = ap (λ b. b && true) (items-itself write_atom atom-itself (a ∷ b ∷ xs))

-- what is written of a value passes the test with itself
pub written-itself : (v : Value) → same_data (write_value v) (write_value v) ≡ true
written-itself (set_of s) = atoms-itself (set.items s)
written-itself (map_of m) = ap (λ b. b && true) (items-itself write_pair pair-itself m.entries)
