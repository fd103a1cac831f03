-- Of which rows conditions hold that ask for one atom, by `==` or `includes`.
use Rattle.std.specs.Prelude.{Bool, true, false, not, ◌&&◌, ◌||◌, ◌==◌, List, [], ◌∷◌, length}
use Rattle.std.specs.List.{list_any}
use Rattle.odb_atoms.specs.Atom.{Atom, same_atom}
use Rattle.odb_atoms.specs.Represented.Atom.{atom_of}
use Rattle.odb_atoms.specs.declared.atom.Atom as code
use Rattle.odb_atoms.specs.Row.{Row, cell}
use Rattle.odb_atoms.specs.Uuid.{Uuid}
use Rattle.odb_atoms.specs.Value.{Value, atoms, set_of}
use Rattle.odb_cond.specs.Condition.{Function, equal, includes, relates}
use Rattle.odb_cond.specs.Represented.Clause.{selector_of}
use Rattle.odb_cond.specs.declared.gathered.Listed.{Listed}
use Rattle.odb_cond.specs.declared.keyed.Keyed.{Keyed}

abbrev pub one : Atom → Value
one a = set_of (atoms (a ∷ []))

-- the function by which it is asked for: `==`, or else `includes`
abbrev pub asked_by : Bool → Function
asked_by true = equal
asked_by false = includes

-- the condition holds of a row that has the value there
abbrev pub asks : Bool → Value → Atom → Bool
asks is_equality v a = relates (asked_by is_equality) v (one a)

-- the condition with some atom of these holds
abbrev pub asks_some : Bool → List (code.Atom) → Value → Bool
asks_some is_equality atoms v = list_any (λ a. asks is_equality v (atom_of a)) atoms

abbrev pub keyed_holds : Uuid → Row → Keyed → Bool
keyed_holds u r k = asks_some k.is_equality k.atoms (cell u r (selector_of k.column))

abbrev pub listed_holds : Uuid → Row → Listed → Bool
listed_holds u r l = asks_some l.is_equality l.atoms.items (cell u r (selector_of l.column))

-- a is among the atoms
abbrev pub is_among : List (code.Atom) → Atom → Bool
is_among atoms a = list_any (λ b. same_atom a (atom_of b)) atoms

-- what a search asks of the elements of a set
abbrev pub found_in : Bool → List (code.Atom) → List (code.Atom) → Bool
found_in is_equality atoms elements = (not is_equality || (length elements == 1)) && list_any (λ e. is_among atoms (atom_of e)) elements
