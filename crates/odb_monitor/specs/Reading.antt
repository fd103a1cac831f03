-- The client's reading of values and UUIDs, by their notation alone. It is strict: it takes a text only as the server writes it. [P 9.7]
use Rattle.std.specs.Prelude.{ℕ, pos, List, [], ◌∷◌, if◌then◌else◌, Option, Some, None, option_map, option_and_then, codes, bytes_eq}
use Rattle.serde_json.specs.Data.{Num, unsigned, negative, float}
use Rattle.odb_atoms.specs.FinMap as map
use Rattle.odb_atoms.specs.Text.{same_text}
use Rattle.odb_atoms.specs.Uuid.{Uuid, uuid_text, uuid_of_text}
use Rattle.odb_atoms.specs.Atom.{Atom, integer, text, uuid}
use Rattle.odb_atoms.specs.Atom as atom
use Rattle.odb_atoms.specs.Value.{Value, set_of, map_of, atoms}
use Rattle.odb_schema.specs.Json.{Data, null, boolean, number, string, array, object, no_items, item, items_list, same_data}
use Rattle.odb_schema.specs.Notation.{write_value}

-- the UUID of a text, in the letters in which it is printed
abbrev pub uuid_read : List ℕ → Option Uuid
uuid_read s = option_and_then (λ u. if bytes_eq (uuid_text u) s then Some u else None) (uuid_of_text s)

abbrev pub integer_of : Num → Option Atom
integer_of (unsigned n) = Some (integer (pos n))
integer_of (negative z) = Some (integer z)
integer_of (float x) = None

abbrev pub uuid_in : List Data → Option Atom
uuid_in (string t ∷ string s ∷ []) = if same_text t (codes "uuid") then option_map uuid (uuid_read s) else None
uuid_in ds = None

abbrev pub atom_of : Data → Option Atom
atom_of null = None
atom_of (boolean b) = Some (atom.boolean b)
atom_of (number n) = integer_of n
atom_of (string s) = Some (text s)
atom_of (array ds) = uuid_in (items_list ds)
atom_of (object ms) = None

abbrev pub all_of : {A : Type 0} → (Data → Option A) → List Data → Option (List A)
all_of f [] = Some []
all_of f (d ∷ ds) = option_and_then (λ x. option_map (λ xs. x ∷ xs) (all_of f ds)) (f d)

abbrev pub pair_of : Data → Option (Atom × Atom)
pair_of (array (item k (item v no_items))) = option_and_then (λ a. option_map (λ b. (a, b)) (atom_of v)) (atom_of k)
pair_of d = None

-- the tag and the members of `["set", [..]]` and `["map", [..]]`
abbrev pub tagged : Data → Option (List ℕ × List Data)
tagged (array (item (string t) (item (array ds) no_items))) = Some (t, items_list ds)
tagged d = None

abbrev pub collection : List ℕ → List Data → Option Value
collection t ds =
    if same_text t (codes "set") then option_map (λ xs. set_of (atoms xs)) (all_of atom_of ds)
    else (if same_text t (codes "map") then option_map (λ es. map_of (map.from_entries es)) (all_of pair_of ds) else None)

abbrev pub value_of : Data → Option Value
value_of d = elim (tagged d) [ None ↦ option_map (λ a. set_of (atoms (a ∷ []))) (atom_of d) | Some t ↦ collection t.0 t.1 ]

-- the value of which this is the notation, as the server writes it
abbrev pub value_read : Data → Option Value
value_read d = option_and_then (λ v. if same_data (write_value v) d then Some v else None) (value_of d)
