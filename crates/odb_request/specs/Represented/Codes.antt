-- Codes of requests and of their parts, so that they can be what contracts see of a type. Not for reading aloud: that each code has its inverse is all that it says.
use Rattle.std.specs.Prelude.{◌≡◌, ◌⊎◌, ℕ, zero, suc, Bool, true, false, cond, ◌==◌, List, refl}
use mathlib.Core.Logic.{inl, inr}
use Rattle.std.specs.Coded.{Coded, code_by, coded×, coded⊎, coded_ℕ, coded_bool, coded_list}
use Rattle.odb_atoms.specs.ColType.{ColType}
use Rattle.odb_atoms.specs.Row.{Selector, own_uuid, own_version, declared}
use Rattle.odb_atoms.specs.Value.{Value, value_code}
use Rattle.odb_cond.specs.Condition.{Function, less, less_or_equal, equal, not_equal, greater_or_equal, greater, includes, excludes, Clause}
use Rattle.odb_cond.specs.Filter.{Filter, Member, always, when}
use Rattle.odb_request.specs.Request.{Column, Shape, Select, Request, Notation, is_conditional, update, update2}
use Rattle.odb_schema.specs.Represented.Codes.{text_code, type_code}

abbrev Text : Type 0
Text = List ℕ

-- ---- filters

abbrev selector_number : Selector → ℕ
selector_number own_uuid = 0
selector_number own_version = 1
selector_number (declared i) = suc (suc i)

abbrev selector_at : ℕ → Selector
selector_at zero = own_uuid
selector_at (suc zero) = own_version
selector_at (suc (suc i)) = declared i

pub selector_at-selector_number : (s : Selector) → selector_at (selector_number s) ≡ s
selector_at-selector_number own_uuid = refl
selector_at-selector_number own_version = refl
selector_at-selector_number (declared i) = refl

abbrev pub selector_code : Coded Selector
selector_code = code_by ℕ coded_ℕ selector_number selector_at selector_at-selector_number

abbrev function_number : Function → ℕ
function_number less = 0
function_number less_or_equal = 1
function_number equal = 2
function_number not_equal = 3
function_number greater_or_equal = 4
function_number greater = 5
function_number includes = 6
function_number excludes = 7

abbrev function_at : ℕ → Function
function_at n = cond (n == 0) less (cond (n == 1) less_or_equal (cond (n == 2) equal (cond (n == 3) not_equal (cond (n == 4) greater_or_equal (cond (n == 5) greater (cond (n == 6) includes excludes))))))

pub function_at-function_number : (f : Function) → function_at (function_number f) ≡ f
function_at-function_number less = refl
function_at-function_number less_or_equal = refl
function_at-function_number equal = refl
function_at-function_number not_equal = refl
function_at-function_number greater_or_equal = refl
function_at-function_number greater = refl
function_at-function_number includes = refl
function_at-function_number excludes = refl

abbrev pub clause_code : Coded Clause
clause_code =
    code_by (Selector × (ℕ × Value)) (coded× selector_code (coded× coded_ℕ value_code))
    (λ c. (c.column, (function_number c.function, c.value))) (λ p. record { column = p.0; function = function_at p.1.0; value = p.1.1 }) (λ c i. record { column = c.column; function = function_at-function_number c.function i; value = c.value })

abbrev member_part : Member → Bool ⊎ Clause
member_part (always b) = inl b
member_part (when c) = inr c

abbrev member_of : Bool ⊎ Clause → Member
member_of (inl b) = always b
member_of (inr c) = when c

pub member_of-member_part : (m : Member) → member_of (member_part m) ≡ m
member_of-member_part (always b) = refl
member_of-member_part (when c) = refl

abbrev pub filter_code : Coded Filter
filter_code = coded_list (code_by (Bool ⊎ Clause) (coded⊎ coded_bool clause_code) member_part member_of member_of-member_part)

-- ---- requests

abbrev pub column_code : Coded Column
column_code = code_by (Text × (Selector × ColType)) (coded× text_code (coded× selector_code type_code)) (λ c. (c.name, (c.source, c.type))) (λ p. record { name = p.0; source = p.1.0; type = p.1.1 }) (λ c. refl)

abbrev pub shape_code : Coded Shape
shape_code = code_by (Text × List Column) (coded× text_code (coded_list column_code)) (λ s. (s.name, s.columns)) (λ p. record { name = p.0; columns = p.1 }) (λ s. refl)

abbrev pub select_code : Coded Select
select_code =
    code_by (Bool × (Bool × (Bool × Bool))) (coded× coded_bool (coded× coded_bool (coded× coded_bool coded_bool)))
    (λ s. (s.initial, (s.insert, (s.delete, s.modify)))) (λ p. record { initial = p.0; insert = p.1.0; delete = p.1.1.0; modify = p.1.1.1 }) (λ s. refl)

abbrev pub request_code : Coded Request
request_code =
    code_by (Shape × (ℕ × (Select × Filter))) (coded× shape_code (coded× coded_ℕ (coded× select_code filter_code)))
    (λ q. (q.shape, (q.place, (q.select, q.filter)))) (λ p. record { shape = p.0; place = p.1.0; select = p.1.1.0; filter = p.1.1.1 }) (λ q. refl)

abbrev notation_of : Bool → Notation
notation_of b = cond b update2 update

pub notation_of-is_conditional : (n : Notation) → notation_of (is_conditional n) ≡ n
notation_of-is_conditional update = refl
notation_of-is_conditional update2 = refl

abbrev pub notation_code : Coded Notation
notation_code = code_by Bool coded_bool is_conditional notation_of notation_of-is_conditional
