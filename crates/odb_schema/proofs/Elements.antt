-- Reading a set's elements from the front, none of them twice, and all at once.
use Rattle.std.specs.Prelude.{◌≡◌, ℕ, suc, ◌+◌, ◌≤◌, Bool, true, false, cond, not, ◌&&◌, ◌||◌, nat_lt, List, [], ◌∷◌, length, Option, Some, None, ok_or, option_map, Result, Ok, Err}
use Rattle.std.specs.List.{list_any, list_all}
use mathlib.Core.Path.{refl, sym, ap, subst, ◌∙◌}
use mathlib.Core.Bool.{true≢false}
use Rattle.std.proofs.Common.{arith, zero-add}
use Rattle.std.proofs.lemmas.Bool.Decides.{nat_tests}
use Rattle.std.specs.Cmp.{unsigned_Decides}
use Rattle.std.specs.Ordering.{eq_by_cmp}
use Rattle.odb_atoms.proofs.Lists.{both}
use Rattle.std.specs.FinMap.Entries.{length-put}
use Rattle.odb_atoms.specs.FinSet as set
use Rattle.odb_atoms.specs.FinMap as finite
use Rattle.odb_atoms.specs.Atom.{Atom, Kind, atom_cmp, boolean, booleans, integer, integers, kind_of, rank, same_kind, strings, text, uuid, uuids}
use Rattle.odb_atoms.specs.Error.{Error, syntax_error}
use Rattle.odb_atoms.specs.First.{demand, ◌>>=◌, ◌>>◌}
use Rattle.odb_atoms.specs.Members.{ListFault, are_of_one_kind, mixed_kinds, repeated, repeats, set_fault}
use Rattle.odb_atoms.specs.Value.{Atoms, atoms}
use Rattle.odb_atoms.proofs.Atoms.{atom_cmp-IsAntisymmetric}
use Rattle.odb_atoms.specs.Represented.AtomOrder.{atom_cmp_total}
use Rattle.odb_atoms.proofs.FinMaps.{entries-insert}
use Rattle.odb_atoms.proofs.FinSets.{contains-from_list, contains-insert, same_set}
use Rattle.odb_schema.specs.Json.{Data, Items, as_bool, as_integer, no_items, item}
use Rattle.odb_schema.specs.Notation.{Names, read_atom, read_elements, read_string, read_uuid}
use Rattle.odb_schema.specs.SchemaText.{SchemaFault, bad_as, bad_type}
use Rattle.odb_schema.specs.Represented.Parts.{atom_in, atoms_in, elements_in}

-- none is in s, nor twice among them
abbrev pub fresh : Atoms → List Atom → Bool
fresh s [] = true
fresh s (a ∷ list) = not (set.contains s a) && fresh (set.insert s a) list

abbrev pub put_all : Atoms → List Atom → Atoms
put_all s [] = s
put_all s (a ∷ list) = put_all (set.insert s a) list

-- the set, if none was twice
abbrev unless_twice : Atoms → List Atom → Result Atoms SchemaFault
unless_twice s list = cond (fresh s list) (Ok (put_all s list)) (Err bad_type)

-- ---- the set is the one of the list

contains-put_all : (s : Atoms) (list : List Atom) (q : Atom) → set.contains (put_all s list) q ≡ (set.contains s q || list_any (eq_by_cmp atom_cmp q) list)
contains-put_all s [] q = or_false (set.contains s q)
  where
    or_false : (b : Bool) → b ≡ (b || false)
    or_false true = refl
    or_false false = refl
contains-put_all s (a ∷ list) q =
    contains-put_all (set.insert s a) list q
    ∙ ap (λ b. b || list_any (eq_by_cmp atom_cmp q) list) (contains-insert atom_cmp_total s a q)
    ∙ turned (eq_by_cmp atom_cmp q a) (set.contains s q) (list_any (eq_by_cmp atom_cmp q) list)
  where
    turned : (b c d : Bool) → ((b || c) || d) ≡ (c || (b || d))
    turned true true d = refl
    turned true false d = refl
    turned false true d = refl
    turned false false d = refl

pub put_all-empty : (list : List Atom) → put_all set.empty list ≡ atoms list
unfolding finite.get finite.empty
put_all-empty list = same_set atom_cmp_total atom_cmp-IsAntisymmetric (put_all set.empty list) (atoms list) (λ q. contains-put_all set.empty list q ∙ sym (contains-from_list atom_cmp_total list q))

-- ---- whether one stands twice

len-insert : (s : Atoms) (k : Atom) → set.len (set.insert s k) ≡ cond (set.contains s k) (set.len s) (set.len s + 1)
unfolding finite.len finite.get
len-insert s k = ap length (entries-insert atom_cmp_total s k tt) ∙ length-put atom_cmp atom_cmp_total k tt s.entries s.sorted

counted : (c : Bool) (l m n k : ℕ) (f : Bool) → l ≡ cond c m (m + 1) → (k ≤ l + n) × (f ≡ not (nat_lt k (l + n))) → (k ≤ m + suc n) × ((not c && f) ≡ not (nat_lt k (m + suc n)))
counted true l m n k f e h = grind (arith, nat_tests)
counted false l m n k f e h = grind (arith, nat_tests)

fresh-counted : (s : Atoms) (list : List Atom) → (set.len (put_all s list) ≤ set.len s + length list) × (fresh s list ≡ not (nat_lt (set.len (put_all s list)) (set.len s + length list)))
fresh-counted s [] = (omega arith, grind (arith, nat_tests))
fresh-counted s (a ∷ list) = counted (set.contains s a) (set.len (set.insert s a)) (set.len s) (length list) (set.len (put_all (set.insert s a) list)) (fresh (set.insert s a) list) (len-insert s a) (fresh-counted (set.insert s a) list)

pub fresh-repeats : (list : List Atom) → fresh set.empty list ≡ not (repeats list)
unfolding finite.len finite.empty
fresh-repeats list =
    (fresh-counted set.empty list).1
    ∙ ap (λ n. not (nat_lt (set.len (put_all set.empty list)) n)) (zero-add (length list))
    ∙ ap (λ s. not (nat_lt (set.len s) (length list))) (put_all-empty list)

-- ---- reading

-- each fault is one of the type
abbrev OnlyBad : {A : Type 0} → Result A SchemaFault → Type 0
OnlyBad (Ok x) = Unit {0}
OnlyBad (Err f) = f ≡ bad_type

abbrev next : {A B : Type 0} → Result A SchemaFault → (A → Result B SchemaFault) → Result B SchemaFault
next = ◌>>=◌

only_bad_after : (r : Result Atom Error) (q : Result (List Atom) SchemaFault) → OnlyBad q → OnlyBad (next (bad_as r) (λ a. next q (λ list. Ok (a ∷ list))))
only_bad_after (Err e) q h = refl
only_bad_after (Ok a) (Err f) h = h
only_bad_after (Ok a) (Ok list) h = tt

only_bad : (k : Kind) (ds : Items) → OnlyBad (atoms_in k ds)
only_bad k no_items = tt
only_bad k (item d ds) = only_bad_after (read_atom None k d) (atoms_in k ds) (only_bad k ds)

-- what follows an element that was read
abbrev later : Kind → Atoms → Atom → Items → Bool → Result Atoms Error
later k s a ds b = ◌>>◌ (demand (not b) syntax_error) (read_elements None k (set.insert s a) ds)

with_seen : (k : Kind) (s : Atoms) (a : Atom) (ds : Items) (r : Result (List Atom) SchemaFault) (b : Bool) → set.contains s a ≡ b → OnlyBad r → bad_as (read_elements None k (set.insert s a) ds) ≡ next r (unless_twice (set.insert s a)) → bad_as (later k s a ds b) ≡ next (next r (λ list. Ok (a ∷ list))) (unless_twice s)
with_seen k s a ds (Err f) true e bad h = ap Err (sym bad)
with_seen k s a ds (Ok list) true e bad h = ap (λ c. cond (not c && fresh (set.insert s a) list) (Ok (put_all (set.insert s a) list)) (Err bad_type)) (sym e)
with_seen k s a ds (Err f) false e bad h = h
with_seen k s a ds (Ok list) false e bad h = h ∙ ap (λ c. cond (not c && fresh (set.insert s a) list) (Ok (put_all (set.insert s a) list)) (Err bad_type)) (sym e)

read_one : (k : Kind) (s : Atoms) (ds : Items) (r : Result Atom Error) → ((a : Atom) → bad_as (read_elements None k (set.insert s a) ds) ≡ next (atoms_in k ds) (unless_twice (set.insert s a))) → bad_as (◌>>=◌ r (λ a. later k s a ds (set.contains s a))) ≡ next (next (bad_as r) (λ a. next (atoms_in k ds) (λ list. Ok (a ∷ list)))) (unless_twice s)
read_one k s ds (Err e) h = refl
read_one k s ds (Ok a) h = with_seen k s a ds (atoms_in k ds) (set.contains s a) refl (only_bad k ds) (h a)

read_elements-each : (k : Kind) (s : Atoms) (ds : Items) → bad_as (read_elements None k s ds) ≡ next (atoms_in k ds) (unless_twice s)
read_elements-each k s no_items = refl
read_elements-each k s (item d ds) = read_one k s ds (read_atom None k d) (λ a. read_elements-each k (set.insert s a) ds)

-- the set of the atoms, if none stands twice
pub elements_found : (k : Kind) (ds : Items) (list : List Atom) → atoms_in k ds ≡ Ok list → repeats list ≡ false → elements_in k ds ≡ Ok (atoms list)
elements_found k ds list is once =
    read_elements-each k set.empty ds ∙ ap (λ r. next r (unless_twice set.empty)) is
    ∙ ap (λ b. cond b (Ok (put_all set.empty list)) (Err bad_type)) (fresh-repeats list ∙ ap not once)
    ∙ ap Ok (put_all-empty list)

pub elements_twice : (k : Kind) (ds : Items) (list : List Atom) → atoms_in k ds ≡ Ok list → repeats list ≡ true → elements_in k ds ≡ Err bad_type
elements_twice k ds list is twice =
    read_elements-each k set.empty ds ∙ ap (λ r. next r (unless_twice set.empty)) is
    ∙ ap (λ b. cond b (Ok (put_all set.empty list)) (Err bad_type)) (fresh-repeats list ∙ ap not twice)

pub elements_fault : (k : Kind) (ds : Items) (f : SchemaFault) → atoms_in k ds ≡ Err f → elements_in k ds ≡ Err f
elements_fault k ds f is = read_elements-each k set.empty ds ∙ ap (λ r. next r (unless_twice set.empty)) is

-- ---- atoms that are read are of their kind

abbrev pub OfKind : {E : Type 0} → Kind → Result Atom E → Type 0
OfKind k (Ok a) = same_kind (kind_of a) k ≡ true
OfKind k (Err e) = Unit {0}

from_option : {A : Type 0} (k : Kind) (f : A → Atom) (o : Option A) → ((x : A) → same_kind (kind_of (f x)) k ≡ true) → OfKind k (ok_or (option_map f o) syntax_error)
from_option k f None h = tt
from_option k f (Some x) h = h x

from_result : {A : Type 0} (k : Kind) (f : A → Atom) (r : Result A Error) → ((x : A) → same_kind (kind_of (f x)) k ≡ true) → OfKind k (◌>>=◌ r (λ x. Ok (f x)))
from_result k f (Err e) h = tt
from_result k f (Ok x) h = h x

pub read_of_kind : (names : Option Names) (k : Kind) (d : Data) → OfKind k (read_atom names k d)
read_of_kind names integers d = from_option integers integer (as_integer d) (λ x. refl)
read_of_kind names booleans d = from_option booleans boolean (as_bool d) (λ x. refl)
read_of_kind names strings d = from_result strings text (read_string d) (λ x. refl)
read_of_kind names uuids d = from_result uuids uuid (read_uuid names d) (λ x. refl)

in_schema : (k : Kind) (r : Result Atom Error) → OfKind k r → OfKind k (bad_as r)
in_schema k (Ok a) h = h
in_schema k (Err e) h = tt

abbrev AllOfKind : Kind → Result (List Atom) SchemaFault → Type 0
AllOfKind k (Ok list) = list_all (λ a. same_kind (kind_of a) k) list ≡ true
AllOfKind k (Err e) = Unit {0}

one_of_kind : (k : Kind) (r : Result Atom SchemaFault) (q : Result (List Atom) SchemaFault) → OfKind k r → AllOfKind k q → AllOfKind k (next r (λ a. next q (λ list. Ok (a ∷ list))))
one_of_kind k (Err e) q h g = tt
one_of_kind k (Ok a) (Err e) h g = tt
one_of_kind k (Ok a) (Ok list) h g = λ j. h j && g j

all_of_kind : (k : Kind) (ds : Items) → AllOfKind k (atoms_in k ds)
all_of_kind k no_items = refl
all_of_kind k (item d ds) = one_of_kind k (atom_in k d) (atoms_in k ds) (in_schema k (read_atom None k d) (read_of_kind None k d)) (all_of_kind k ds)

same_kinds : (k l m : Kind) → same_kind k m ≡ true → same_kind l m ≡ true → same_kind l k ≡ true
same_kinds k l m h g = (unsigned_Decides (rank l) (rank k)).1 ((unsigned_Decides (rank l) (rank m)).0 g ∙ sym ((unsigned_Decides (rank k) (rank m)).0 h))

with_first : (k : Kind) (a : Atom) (list : List Atom) → same_kind (kind_of a) k ≡ true → list_all (λ b. same_kind (kind_of b) k) list ≡ true → list_all (λ b. same_kind (kind_of b) (kind_of a)) list ≡ true
with_first k a [] h g = refl
with_first k a (b ∷ list) h g = let p = both _ _ g in λ j. same_kinds (kind_of a) (kind_of b) k h p.0 j && with_first k a list h p.1 j

pub of_one_kind : (k : Kind) (list : List Atom) → list_all (λ b. same_kind (kind_of b) k) list ≡ true → are_of_one_kind list ≡ true
of_one_kind k [] h = refl
of_one_kind k (a ∷ list) h = let p = both _ _ h in with_first k a list p.0 p.1

-- ---- the elements, by the answer of `Value::set`

pub once_of : (one twice : Bool) → None ≡ cond (not one) (Some mixed_kinds) (cond twice (Some repeated) None) → twice ≡ false
once_of true true e = cc
once_of true false e = refl
once_of false twice e = cc

pub twice_of : (one twice : Bool) (f : ListFault) → Some f ≡ cond (not one) (Some mixed_kinds) (cond twice (Some repeated) None) → one ≡ true → twice ≡ true
twice_of true true f e h = refl
twice_of true false f e h = cc
twice_of false twice f e h = absurd (true≢false (sym h))

pub elements_made : (k : Kind) (ds : Items) (list : List Atom) → atoms_in k ds ≡ Ok list → None ≡ set_fault list → elements_in k ds ≡ Ok (atoms list)
elements_made k ds list is e = elements_found k ds list is (once_of (are_of_one_kind list) (repeats list) e)

pub elements_refused : (k : Kind) (ds : Items) (list : List Atom) (f : ListFault) → atoms_in k ds ≡ Ok list → Some f ≡ set_fault list → elements_in k ds ≡ Err bad_type
elements_refused k ds list f is e = elements_twice k ds list is (twice_of (are_of_one_kind list) (repeats list) f e (of_one_kind k list (subst (AllOfKind k) is (all_of_kind k ds))))
