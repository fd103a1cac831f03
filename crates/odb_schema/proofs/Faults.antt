-- Faults that are passed on.
use Rattle.std.specs.Prelude.{◌≡◌, ◌<◌, ℕ, zero, suc, List, [], ◌∷◌, ◌++◌, get_or, length, take, Result, Ok, Err}
use mathlib.Core.Path.{refl, sym, ap, ◌∙◌}
use Rattle.std.proofs.Common.{arith}
use Rattle.serde_json.specs.declared.value.Value.{Value}
use Rattle.serde_json.specs.View.{view, items_view}
use Rattle.odb_atoms.specs.Atom.{Atom, Kind}
use Rattle.odb_atoms.specs.First.{◌>>=◌}
use Rattle.odb_schema.specs.SchemaText as model
use Rattle.odb_schema.specs.Represented.Fault.{IsFault, IsFaultOf}
use Rattle.odb_schema.specs.Represented.Parts.{atom_in, atoms_in}
use Rattle.odb_schema.specs.declared.fault.SchemaFault.{SchemaFault}
use Rattle.odb_schema.specs.declared.fault.SchemaFault.TheVariants.{Memory, Syntax, BadId, BadType, UnknownRefTable, BadIndex, TooLarge}

-- a fault of a part is the fault of the whole, where the whole has the part's fault
pub passed_on : {A B : Type 0} (e : SchemaFault) (r : Result A model.SchemaFault) (q : Result B model.SchemaFault) → ((f : model.SchemaFault) → r ≡ Err f → q ≡ Err f) → IsFaultOf e r → IsFaultOf e q
passed_on Memory r q h is = tt
passed_on Syntax r q h is = h model.syntax is
passed_on BadId r q h is = h model.bad_id is
passed_on BadType r q h is = h model.bad_type is
passed_on UnknownRefTable r q h is = h model.unknown_ref_table is
passed_on BadIndex r q h is = h model.bad_index is
passed_on TooLarge r q h is = h model.too_large is

-- the same where no memory is taken
pub given_on : {A B : Type 0} (e : SchemaFault) (r : Result A model.SchemaFault) (q : Result B model.SchemaFault) → ((f : model.SchemaFault) → r ≡ Err f → q ≡ Err f) → IsFault e r → IsFaultOf e q
given_on Memory r q h is = tt
given_on Syntax r q h is = h model.syntax is
given_on BadId r q h is = h model.bad_id is
given_on BadType r q h is = h model.bad_type is
given_on UnknownRefTable r q h is = h model.unknown_ref_table is
given_on BadIndex r q h is = h model.bad_index is
given_on TooLarge r q h is = h model.too_large is

abbrev next : {A B : Type 0} → Result A model.SchemaFault → (A → Result B model.SchemaFault) → Result B model.SchemaFault
next = ◌>>=◌

-- ---- the atoms of an array, one after another

abbrev step : Result Atom model.SchemaFault → Result (List Atom) model.SchemaFault → Result (List Atom) model.SchemaFault
step r q = next r (λ x. next q (λ xs. Ok (x ∷ xs)))

record Front (r : Result Atom model.SchemaFault) (q : Result (List Atom) model.SchemaFault) (list : List Atom) : Type 0 where
  x : Atom
  xs : List Atom
  first : r ≡ Ok x
  rest : q ≡ Ok xs
  all : x ∷ xs ≡ list

split : (r : Result Atom model.SchemaFault) (q : Result (List Atom) model.SchemaFault) (list : List Atom) → step r q ≡ Ok list → Front r q list
split (Ok x) (Ok xs) list e = record { x = x; xs = xs; first = refl; rest = refl; all = cc }
split (Ok x) (Err f) list e = absurd cc
split (Err f) q list e = absurd cc

of_nothing : (list : List Atom) → ◌≡◌ {A = Result (List Atom) model.SchemaFault} (Ok []) (Ok list) → [] ≡ list
of_nothing list e = cc

-- one more atom
pub one_more : (k : Kind) (vs : List Value) (i : ℕ) (v : Value) (list : List Atom) (a : Atom) → i < length vs → v ≡ get_or vs i v → atoms_in k (items_view (take i vs)) ≡ Ok list → atom_in k (view v) ≡ Ok a → atoms_in k (items_view (take (suc i) vs)) ≡ Ok (list ++ a ∷ [])
one_more k [] i v list a low at front is = absurd (omega arith)
one_more k (w ∷ vs) zero v list a low at front is =
    ap (λ r. step r (Ok [])) (ap (λ u. atom_in k (view u)) (sym at) ∙ is)
    ∙ ap (λ l. Ok (l ++ a ∷ [])) (of_nothing list front)
one_more k (w ∷ vs) (suc i) v list a low at front is =
    let s = split (atom_in k (view w)) (atoms_in k (items_view (take i vs))) list front in
    let later = one_more k vs i v s.xs a (omega arith) at s.rest is in
    (λ j. step (s.first j) (later j)) ∙ ap (λ l. Ok (l ++ a ∷ [])) s.all

-- an element with a fault after elements without one
pub first_fault : (k : Kind) (vs : List Value) (i : ℕ) (v : Value) (list : List Atom) (f : model.SchemaFault) → i < length vs → v ≡ get_or vs i v → atoms_in k (items_view (take i vs)) ≡ Ok list → atom_in k (view v) ≡ Err f → atoms_in k (items_view vs) ≡ Err f
first_fault k [] i v list f low at front is = absurd (omega arith)
first_fault k (w ∷ vs) zero v list f low at front is = ap (λ r. step r (atoms_in k (items_view vs))) (ap (λ u. atom_in k (view u)) (sym at) ∙ is)
first_fault k (w ∷ vs) (suc i) v list f low at front is =
    let s = split (atom_in k (view w)) (atoms_in k (items_view (take i vs))) list front in
    λ j. step (s.first j) (first_fault k vs i v s.xs f (omega arith) at s.rest is j)
