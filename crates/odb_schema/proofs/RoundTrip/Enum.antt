-- An enumeration that was read is read back.
use Rattle.std.specs.Prelude.{◌≡◌, ℕ, ◌^◌, ◌&&◌, cond, pos, negsuc, neg_ℤ, int_le, int_lt, nat_lt, Bool, true, false, not, ◌==◌, if◌then◌else◌, List, [], ◌∷◌, codes, ok_or, option_map, Option, Some, None, Result, Ok, Err}
use Rattle.std.specs.List.{list_all, list_any}
use mathlib.Core.Path.{refl, sym, ap, subst}
use Rattle.std.proofs.Common.{arith}
use Rattle.std.proofs.lemmas.Bool.Decides.{nat_tests}
use Rattle.std.proofs.lemmas.Int.{ints}
use Rattle.std.specs.FinMap.Entries.{by_order, put}
use Rattle.std.specs.declared.cmp.Ordering.{Ordering}
use Rattle.std.specs.declared.cmp.Ordering.TheVariants.{Less, Equal, Greater}
use Rattle.serde_json.specs.Data.{Num, unsigned, negative, float}
use Rattle.serde_json.specs.Find.{as_i64}
use Rattle.odb_atoms.specs.FinMap.{empty, keys}
use Rattle.odb_atoms.specs.FinSet as set
use Rattle.odb_atoms.specs.Atom.{Atom, Kind, atom_cmp, booleans, integer, integers, strings, text, uuid, uuids}
use Rattle.odb_atoms.specs.Atom as atom
use Rattle.odb_atoms.specs.ColType.{is_a}
use Rattle.odb_atoms.specs.Error.{Error, syntax_error}
use Rattle.odb_atoms.specs.First.{demand}
use Rattle.odb_atoms.specs.Text.{same_text}
use Rattle.odb_atoms.specs.Value.{Atoms, set_of}
use Rattle.odb_atoms.proofs.FinMaps.{entries-insert}
use Rattle.odb_atoms.proofs.Lists.{both}
use Rattle.odb_atoms.specs.Represented.AtomOrder.{atom_cmp_total}
use Rattle.odb_schema.specs.Json.{Data, boolean, number, string, array, as_array, Items, no_items, item}
use Rattle.odb_schema.specs.Notation.{has_notation, read_atom, read_elements, read_set, read_uuid, set_content, write_atom, write_atoms, write_value}
use Rattle.odb_schema.specs.SchemaText.{bad_as, bad_type, is_value_json, read_enum, syntax}
use Rattle.odb_schema.specs.Represented.Sound.{AreSound, IsSound, is_in_range}
use Rattle.odb_schema.proofs.Holds.{Holds, behind, next, none_read, once_more, passed_holds, read_in, read_so, test_passed, tested_holds, then_holds, with_holds}
use Rattle.odb_schema.proofs.Keys.{keys_of}
use Rattle.odb_schema.proofs.Written.{read_set-write_value}
use Rattle.odb_schema.proofs.RoundTrip.Sound.{OnSome}

-- an atom of the kind that the notation has
abbrev Noted : Kind → Atom → Type 0
Noted k a = (is_a k a ≡ true) × (has_notation a ≡ true)

integer_noted : (n : Num) → is_in_range n ≡ true → Holds (Noted integers) (ok_or (option_map integer (as_i64 n)) syntax_error)
integer_noted (unsigned n) h = by (nat_lt n (2 ^ 63)) refl
  where
    by : (b : Bool) → nat_lt n (2 ^ 63) ≡ b → Holds (Noted integers) (ok_or (option_map integer (if b then Some (pos n) else None)) syntax_error)
    by true e = read_in Error (Noted integers) (integer (pos n)) (refl, e)
    by false e = none_read (Noted integers) syntax_error
integer_noted (negative (pos n)) h = absurd (let wrong : (int_le (neg_ℤ (pos (2 ^ 63))) (pos n) && int_lt (pos n) (pos 0)) ≡ true = h in grind (arith, nat_tests, ints))
integer_noted (negative (negsuc n)) h = read_in Error (Noted integers) (integer (negsuc n)) (refl, h)
integer_noted (float x) h = none_read (Noted integers) syntax_error

text_noted : (s : List ℕ) → Holds (Noted strings) (next (behind (demand (not (list_any (λ c. c == 0) s)) syntax_error) (Ok s)) (λ s. Ok (text s)))
text_noted s = by (not (list_any (λ c. c == 0) s)) refl
  where
    by : (b : Bool) → not (list_any (λ c. c == 0) s) ≡ b → Holds (Noted strings) (next (behind (demand b syntax_error) (Ok s)) (λ s. Ok (text s)))
    by true e = read_in Error (Noted strings) (text s) (refl, e)
    by false e = none_read (Noted strings) syntax_error

atom_noted : (k : Kind) (d : Data) → IsSound d → Holds (Noted k) (read_atom None k d)
atom_noted integers (number n) h = integer_noted n h
atom_noted integers d h = none_read (Noted integers) syntax_error
atom_noted booleans (boolean b) h = read_in Error (Noted booleans) (atom.boolean b) (refl, refl)
atom_noted booleans d h = none_read (Noted booleans) syntax_error
atom_noted strings (string s) h = text_noted s
atom_noted strings d h = none_read (Noted strings) syntax_error
atom_noted uuids d h = then_holds (Noted uuids) (read_uuid None d) _ (λ u. read_in Error (Noted uuids) (uuid u) (refl, refl))

-- ---- sets

abbrev Entries : Type 0
Entries = List (Atom × Unit {0})

abbrev AreNoted : Kind → Entries → Type 0
AreNoted k es = (list_all (is_a k) (keys_of es) ≡ true) × (list_all has_notation (keys_of es) ≡ true)

all_put : (p : Atom → Bool) (a : Atom) (es : Entries) → p a ≡ true → list_all p (keys_of es) ≡ true → list_all p (keys_of (put atom_cmp a tt es)) ≡ true
all_put p a [] h g = λ i. h i && true
all_put p a (e ∷ es) h g = by (atom_cmp a e.0) (all_put p a es h (both (p e.0) (list_all p (keys_of es)) g).1)
  where
    by : (o : Ordering) → list_all p (keys_of (put atom_cmp a tt es)) ≡ true → list_all p (keys_of (by_order o ((a, tt) ∷ e ∷ es) ((e.0, tt) ∷ es) (e ∷ put atom_cmp a tt es))) ≡ true
    by Less f = λ i. h i && g i
    by Equal f = g
    by Greater f = λ i. (both (p e.0) (list_all p (keys_of es)) g).0 i && f i

abbrev IsNoted : Kind → Atoms → Type 0
IsNoted k s = AreNoted k s.entries

insert_noted : (k : Kind) (s : Atoms) (a : Atom) → IsNoted k s → Noted k a → IsNoted k (set.insert s a)
insert_noted k s a h n = subst (AreNoted k) (sym (entries-insert atom_cmp_total s a tt)) (all_put (is_a k) a s.entries n.0 h.0, all_put has_notation a s.entries n.1 h.1)

empty_noted : (k : Kind) → IsNoted k set.empty
unfolding empty
empty_noted k = (refl, refl)

elements_noted : (k : Kind) (seen : Atoms) (ds : Items) → AreSound ds → IsNoted k seen → Holds (IsNoted k) (read_elements None k seen ds)
elements_noted k seen no_items s h = read_in Error (IsNoted k) seen h
elements_noted k seen (item d ds) s h = with_holds (Noted k) (IsNoted k) (read_atom None k d) _ (atom_noted k d s.0) (λ a n. tested_holds (IsNoted k) (demand (not (set.contains seen a)) syntax_error) _ (elements_noted k (set.insert seen a) ds s.1 (insert_noted k seen a h n)))

content_sound : (d : Data) → IsSound d → OnSome IsSound (set_content d)
unfolding OnSome
content_sound (array (item (string s) (item c no_items))) h = by (same_text s (codes "set"))
  where
    by : (b : Bool) → OnSome IsSound (cond b (Some c) None)
    by true = h.1.0
    by false = tt
content_sound d h = tt

-- what is read of the content of a set, or of an atom alone
abbrev by_content : Kind → Data → Option Data → Result Atoms Error
by_content k d None = next (read_atom None k d) (λ a. Ok (set.insert set.empty a))
by_content k d (Some c) = next (ok_or (as_array c) syntax_error) (λ items. read_elements None k set.empty items)

array_noted : (k : Kind) (c : Data) → IsSound c → Holds (IsNoted k) (next (ok_or (as_array c) syntax_error) (λ items. read_elements None k set.empty items))
array_noted k (array ds) h = elements_noted k set.empty ds h (empty_noted k)
array_noted k c h = none_read (IsNoted k) syntax_error

content_noted : (k : Kind) (d : Data) → IsSound d → (o : Option Data) → OnSome IsSound o → Holds (IsNoted k) (by_content k d o)
unfolding OnSome
content_noted k d h None g = with_holds (Noted k) (IsNoted k) (read_atom None k d) _ (atom_noted k d h) (λ a n. read_in Error (IsNoted k) (set.insert set.empty a) (insert_noted k set.empty a (empty_noted k) n))
content_noted k d h (Some c) g = array_noted k c g

set_noted : (k : Kind) (d : Data) → IsSound d → Holds (IsNoted k) (read_set None k d)
set_noted k d h = content_noted k d h (set_content d) (content_sound d h)

-- ---- enumerations

bad_holds : {A : Type 0} (P : A → Type 0) (r : Result A Error) → Holds P r → Holds P (bad_as r)
unfolding Holds
bad_holds P (Ok x) h = h
bad_holds P (Err e) h = tt

atom_json : (a : Atom) → has_notation a ≡ true → is_value_json (write_atom a) ≡ true
atom_json (integer (pos n)) h = rw h refl
atom_json (integer (negsuc n)) h = refl
atom_json (atom.boolean b) h = refl
atom_json (text s) h = refl
atom_json (uuid u) h = refl

atoms_json : (xs : List Atom) → list_all has_notation xs ≡ true → is_value_json (write_atoms xs) ≡ true
atoms_json [] h = refl
atoms_json (a ∷ []) h = atom_json a (both (has_notation a) true h).0
atoms_json (a ∷ b ∷ xs) h = refl

set_json : (s : Atoms) → list_all has_notation (keys_of s.entries) ≡ true → is_value_json (write_value (set_of s)) ≡ true
unfolding keys
set_json s h = atoms_json (keys_of s.entries) h

abbrev EnumBack : Kind → Atoms → Type 0
EnumBack k s = read_enum k (write_value (set_of s)) ≡ Ok s

enum_again : (k : Kind) (s : Atoms) → IsNoted k s → nat_lt 0 (set.len s) ≡ true → EnumBack k s
enum_again k s n some =
    test_passed (is_value_json (write_value (set_of s))) syntax _ _ (set_json s n.1)
    (once_more (bad_as (read_set None k (write_value (set_of s)))) s _ _ (ap bad_as (read_set-write_value None k s n))
    (test_passed (nat_lt 0 (set.len s)) bad_type _ _ some refl))

pub enum_back : (k : Kind) (d : Data) → IsSound d → Holds (EnumBack k) (read_enum k d)
enum_back k d h =
    tested_holds (EnumBack k) (demand (is_value_json d) syntax) _
    (with_holds (IsNoted k) (EnumBack k) (bad_as (read_set None k d)) _ (bad_holds (IsNoted k) (read_set None k d) (set_noted k d h))
    (λ s n. passed_holds (EnumBack k) (nat_lt 0 (set.len s)) bad_type _ (λ some. read_so (EnumBack k) s (enum_again k s n some))))
