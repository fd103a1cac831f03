-- What a column, a function and a condition of the code stand for.
use Rattle.std.specs.Prelude.{Bool, false, List}
use Rattle.std.specs.declared.cmp.Ordering.{Ordering}
use Rattle.std.specs.Ordering.{is_ge, is_gt, is_le, is_lt}
use Rattle.std.specs.List.{list_any}
use Rattle.odb_atoms.specs.Atom.{Atom, atom_cmp}
use Rattle.odb_atoms.specs.Represented.Atom.{atom_of}
use Rattle.odb_atoms.specs.declared.atom.Atom as code
use Rattle.odb_atoms.specs.Row as row
use Rattle.odb_cond.specs.Condition as model
use Rattle.odb_cond.specs.declared.clause.Clause.TheInside.{Inside}
use Rattle.odb_cond.specs.declared.clause.Selector.{Selector}
use Rattle.odb_cond.specs.declared.clause.Selector.TheVariants as selector
use Rattle.odb_cond.specs.declared.clause.Function.{Function}
use Rattle.odb_cond.specs.declared.clause.Function.TheVariants as function

abbrev pub selector_of : Selector → row.Selector
selector_of selector.Uuid = row.own_uuid
selector_of selector.Version = row.own_version
selector_of (selector.Declared place) = row.declared place

abbrev pub function_of : Function → model.Function
function_of function.Less = model.less
function_of function.LessOrEqual = model.less_or_equal
function_of function.Equal = model.equal
function_of function.NotEqual = model.not_equal
function_of function.GreaterOrEqual = model.greater_or_equal
function_of function.Greater = model.greater
function_of function.Includes = model.includes
function_of function.Excludes = model.excludes

-- what an ordered function asks of the order of two atoms
abbrev pub test_of : Function → Ordering → Bool
test_of function.Less = is_lt
test_of function.LessOrEqual = is_le
test_of function.Equal = λ _. false
test_of function.NotEqual = λ _. false
test_of function.GreaterOrEqual = is_ge
test_of function.Greater = is_gt
test_of function.Includes = λ _. false
test_of function.Excludes = λ _. false

abbrev pub clause_of : Inside → model.Clause
clause_of a = record { column = selector_of a.column; function = function_of a.function; value = a.value }

-- the test holds of how the atom stands to some of the others
abbrev pub some_stands : (Ordering → Bool) → Atom → List (code.Atom) → Bool
some_stands test a others = list_any (λ b. test (atom_cmp a (atom_of b))) others
