-- Examples of what a type admits.
use Rattle.std.specs.Prelude.{◌≡◌, ℕ, pos, List, [], ◌∷◌, ◌++◌, codes, refl, Some, None}
use Rattle.odb_atoms.specs.Atom.{Atom, integer, integers, strings, text}
use Rattle.odb_atoms.specs.ColType.{ColType, admit_fault, broken_constraint, plain, scalar, too_few, too_many, wrong_kind}
use Rattle.odb_atoms.specs.Value.{Value, atoms, set_of}
use Rattle.odb_atoms.proofs.Examples.{values_compute}

-- at most two integers up to 5
abbrev few_small : ColType
few_small = record { key = record (plain integers) { max_integer = Some (pos 5) }; value = None; min = 1; max = Some 2 }

-- a string of at most two characters
abbrev short : ColType
short = record (scalar strings) { key = record (plain strings) { max_length = Some (pos 2) } }

abbrev numbers : List ℕ → Value
numbers ns = set_of (atoms (each ns))
  where
    each : List ℕ → List Atom
    each [] = []
    each (n ∷ ns) = integer (pos n) ∷ each ns

pub too_many_before_constraints : admit_fault few_small (numbers (7 ∷ 8 ∷ 9 ∷ [])) ≡ Some too_many
unfolding values_compute
too_many_before_constraints = refl

pub not_even_one : admit_fault few_small (numbers []) ≡ Some too_few
unfolding values_compute
not_even_one = refl

pub past_its_bound : admit_fault few_small (numbers (5 ∷ 6 ∷ [])) ≡ Some broken_constraint
unfolding values_compute
past_its_bound = refl

pub the_kind_first : admit_fault few_small (set_of (atoms (text (codes "a") ∷ text (codes "b") ∷ text (codes "c") ∷ []))) ≡ Some wrong_kind
unfolding values_compute
the_kind_first = refl

-- two characters of two and of three bytes
abbrev two_characters : List ℕ
two_characters = 195 ∷ 169 ∷ 226 ∷ 130 ∷ 172 ∷ []

pub lengths_count_characters : admit_fault short (set_of (atoms (text two_characters ∷ []))) ≡ None
unfolding values_compute
lengths_count_characters = refl

pub three_characters_are_too_long : admit_fault short (set_of (atoms (text (two_characters ++ 120 ∷ []) ∷ []))) ≡ Some broken_constraint
unfolding values_compute
three_characters_are_too_long = refl
