-- What the client reads is what was written, and it reads nothing else.
use Rattle.std.proofs.Common.{◌≡◌, ℕ, pos, negsuc, Bool, true, false, cond, List, [], ◌∷◌, map, Option, Some, None, refl, sym, ◌∙◌, ap}
use Rattle.std.specs.Prelude.{option_map, option_and_then, bytes_eq}
use Rattle.std.specs.Ordering.{eq_by_cmp}
use Rattle.std.specs.FinMap.Entries.{find}
use Rattle.std.proofs.lemmas.Option.{none-some, same_Some}
use Rattle.std.proofs.lemmas.Slice.Eq.{bytes_eq-Decides}
use Rattle.odb_atoms.proofs.Atoms.{atom_cmp-IsAntisymmetric}
use Rattle.odb_atoms.specs.Represented.AtomOrder.{atom_cmp_total}
use Rattle.odb_atoms.proofs.FinMaps.{get-empty, contains_key-keys, get-insert, same_map, get-entries}
use Rattle.odb_atoms.proofs.FinSets.{contains-from_list, same_set}
use Rattle.odb_atoms.proofs.Uuids.{uuid_of_text-uuid_text}
use Rattle.odb_atoms.specs.FinMap as finmap
use Rattle.odb_atoms.specs.FinSet as set
use Rattle.odb_atoms.specs.Atom.{Atom, integer, boolean, text, uuid, atom_cmp}
use Rattle.odb_atoms.specs.Uuid.{Uuid, uuid_text, uuid_of_text}
use Rattle.odb_atoms.specs.Value.{Value, set_of, map_of, Atoms, Pairs, atoms}
use Rattle.odb_schema.proofs.SameData.{same_data-equal, written-itself}
use Rattle.odb_schema.specs.Json.{Data, items_list, items_of, same_data}
use Rattle.odb_schema.specs.Notation.{write_atom, write_atoms, write_pair, write_value}
use Rattle.odb_monitor.specs.Reading.{uuid_read, atom_of, all_of, pair_of, value_of, value_read}

same_again : (s : List ℕ) → bytes_eq s s ≡ true
same_again s = (bytes_eq-Decides s s).1 refl

pub uuid_read-uuid_text : (u : Uuid) → uuid_read (uuid_text u) ≡ Some u
uuid_read-uuid_text u =
    ap (option_and_then (λ v. cond (bytes_eq (uuid_text v) (uuid_text u)) (Some v) None)) (uuid_of_text-uuid_text u)
    ∙ ap (λ b. cond b (Some u) None) (same_again (uuid_text u))

-- where a test lets a value through, it passes the test
let_through : {A : Type 0} (b : Bool) (x y : A) → cond b (Some x) None ≡ Some y → (b ≡ true) × (x ≡ y)
let_through true x y e = (refl, same_Some x y e)
let_through false x y e = absurd (none-some y e)

-- a UUID is read of its own text alone
pub uuid_text-uuid_read : (s : List ℕ) (u : Uuid) → uuid_read s ≡ Some u → s ≡ uuid_text u
uuid_text-uuid_read s u e = by (uuid_of_text s) e
  where
    by : (o : Option Uuid) → option_and_then (λ v. cond (bytes_eq (uuid_text v) s) (Some v) None) o ≡ Some u → s ≡ uuid_text u
    by None e = absurd (none-some u e)
    by (Some v) e = let h = let_through (bytes_eq (uuid_text v) s) v u e in sym ((bytes_eq-Decides (uuid_text v) s).0 h.0) ∙ ap uuid_text h.1

atom_of-written : (a : Atom) → atom_of (write_atom a) ≡ Some a
atom_of-written (integer (pos n)) = refl
atom_of-written (integer (negsuc n)) = refl
atom_of-written (boolean b) = refl
atom_of-written (text s) = refl
atom_of-written (uuid u) = ap (option_map uuid) (uuid_read-uuid_text u)

items-list : (ds : List Data) → items_list (items_of ds) ≡ ds
items-list [] = refl
items-list (d ∷ ds) = ap (λ xs. d ∷ xs) (items-list ds)

all_of-map : {A : Type 0} (f : Data → Option A) (g : A → Data) → ((x : A) → f (g x) ≡ Some x) → (xs : List A) → all_of f (map g xs) ≡ Some xs
all_of-map f g e [] = refl
all_of-map f g e (x ∷ xs) = ap (option_and_then (λ y. option_map (λ ys. y ∷ ys) (all_of f (map g xs)))) (e x) ∙ ap (option_map (λ ys. x ∷ ys)) (all_of-map f g e xs)

pair_of-written : (e : Atom × Atom) → pair_of (write_pair e) ≡ Some e
pair_of-written e =
    ap (option_and_then (λ a. option_map (λ b. (a, b)) (atom_of (write_atom e.1)))) (atom_of-written e.0)
    ∙ ap (option_map (λ b. let p : Atom × Atom = (e.0, b) in p)) (atom_of-written e.1)

set-items : (s : Atoms) → atoms (set.items s) ≡ s
set-items s = same_set atom_cmp_total atom_cmp-IsAntisymmetric (atoms (set.items s)) s (λ q. contains-from_list atom_cmp_total (set.items s) q ∙ sym (contains_key-keys s q))

get-from_entries : (es : List (Atom × Atom)) (q : Atom) → finmap.get (finmap.from_entries {R = atom_cmp} es) q ≡ find atom_cmp q es
get-from_entries [] q = get-empty atom_cmp q
get-from_entries (e ∷ es) q = get-insert atom_cmp_total (finmap.from_entries es) e.0 e.1 q ∙ ap (cond (eq_by_cmp atom_cmp q e.0) (Some e.1)) (get-from_entries es q)

map-entries : (m : Pairs) → finmap.from_entries m.entries ≡ m
map-entries m = same_map atom_cmp_total atom_cmp-IsAntisymmetric (finmap.from_entries m.entries) m (λ q. get-from_entries m.entries q ∙ sym (get-entries m q))

set_written : (xs : List Atom) → value_of (write_atoms xs) ≡ Some (set_of (atoms xs))
set_written [] = refl
set_written (a ∷ b ∷ xs) =
    ap (λ ds. option_map (λ ys. set_of (atoms ys)) (all_of atom_of ds)) (items-list (map write_atom (a ∷ b ∷ xs)))
    ∙ ap (option_map (λ ys. set_of (atoms ys))) (all_of-map atom_of write_atom atom_of-written (a ∷ b ∷ xs))
set_written (integer (pos n) ∷ []) = refl
set_written (integer (negsuc n) ∷ []) = refl
set_written (boolean b ∷ []) = refl
set_written (text s ∷ []) = refl
set_written (uuid u ∷ []) = ap (option_map (λ a. set_of (atoms (a ∷ [])))) (atom_of-written (uuid u))

value_of-written : (v : Value) → value_of (write_value v) ≡ Some v
value_of-written (set_of s) = set_written (set.items s) ∙ ap (λ t. Some (set_of t)) (set-items s)
value_of-written (map_of m) =
    ap (λ ds. option_map (λ es. map_of (finmap.from_entries es)) (all_of pair_of ds)) (items-list (map write_pair m.entries))
    ∙ ap (option_map (λ es. map_of (finmap.from_entries es))) (all_of-map pair_of write_pair pair_of-written m.entries)
    ∙ ap (λ t. Some (map_of t)) (map-entries m)

pub value_read-write_value : (v : Value) → value_read (write_value v) ≡ Some v
value_read-write_value v =
    ap (option_and_then (λ w. cond (same_data (write_value w) (write_value v)) (Some w) None)) (value_of-written v)
    ∙ ap (λ b. cond b (Some v) None) (written-itself v)

-- a value is read of its own notation alone
pub write_value-value_read : (d : Data) (v : Value) → value_read d ≡ Some v → d ≡ write_value v
write_value-value_read d v e = by (value_of d) e
  where
    by : (o : Option Value) → option_and_then (λ w. cond (same_data (write_value w) d) (Some w) None) o ≡ Some v → d ≡ write_value v
    by None e = absurd (none-some v e)
    by (Some w) e = let h = let_through (same_data (write_value w) d) w v e in sym (same_data-equal (write_value w) d h.0) ∙ ap write_value h.1
