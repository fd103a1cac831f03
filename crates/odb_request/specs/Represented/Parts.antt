-- The parts of the reading of requests that the code reads in functions of their own.
use Rattle.std.specs.Prelude.{ℕ, Bool, true, not, ◌&&◌, List, [], ◌∷◌, codes, length, map, Option, None, Some}
use Rattle.std.specs.List.{list_all, range_with_len}
use Rattle.odb_atoms.specs.Error.{Error, syntax_error}
use Rattle.odb_atoms.specs.First.{Err, Ok, Result, ok_or, ◌>>=◌, ◌>>◌}
use Rattle.odb_atoms.specs.Row as row
use Rattle.odb_atoms.specs.Row.{declared, own_version}
use Rattle.odb_atoms.specs.Text.{same_text}
use Rattle.odb_cond.specs.Filter.{Member, when}
use Rattle.odb_cond.specs.Represented.Clause.{selector_of}
use Rattle.odb_cond.specs.declared.clause.Selector.{Selector}
use Rattle.odb_json.specs.ConditionNotation.{read_clause}
use Rattle.odb_json.specs.Operation.{read_columns}
use Rattle.odb_request.specs.Request.{Column, Notation, Request}
use Rattle.odb_request.specs.Requests.{known_members, monitored, no_other, read_monitored, read_select, read_where_of}
use Rattle.odb_schema.specs.Json.{Data, Items, Members, as_object, get_member, item, no_items}
use Rattle.odb_schema.specs.Schema as schema
use Rattle.odb_schema.specs.Schema.{columns_at, selector_name}

-- the object that is an array's one member
abbrev pub lone_object : Items → Result Members Error
lone_object (item d no_items) = ok_or (as_object d) syntax_error
lone_object ds = Err syntax_error

-- a member of a filter that is no boolean
abbrev pub read_condition : List schema.Column → Data → Result Member Error
read_condition cs d = do
  clause ← read_clause None cs d
  Ok (when clause)

-- ---- columns

-- what a column of the code stands for
abbrev pub monitored_as : List schema.Column → Selector → Column
monitored_as cs s = monitored cs (selector_of s)

abbrev pub but_uuid : List schema.Column → List row.Selector
but_uuid cs = own_version ∷ map declared (range_with_len 0 (length cs))

-- in the order in which they are named
abbrev pub asked_columns : List schema.Column → Option Data → Result (List row.Selector) Error
asked_columns cs None = Ok (but_uuid cs)
asked_columns cs (Some d) = read_columns cs (Some d)

-- none of the columns has the name
abbrev pub is_apart : List ℕ → List schema.Column → List Selector → Bool
is_apart name cs xs = list_all (λ x. not (same_text name (selector_name cs (selector_of x)))) xs

-- no two columns have one name
abbrev pub are_apart : List schema.Column → List Selector → Bool
are_apart cs [] = true
are_apart cs (x ∷ xs) = is_apart (selector_name cs (selector_of x)) cs xs && are_apart cs xs

-- no request is of the table with the name
abbrev pub is_free : List ℕ → List Request → Bool
is_free name qs = list_all (λ q. not (same_text name q.shape.name)) qs

-- no two requests are of one table
abbrev pub are_tables_apart : List Request → Bool
are_tables_apart [] = true
are_tables_apart (q ∷ qs) = is_free q.shape.name qs && are_tables_apart qs

-- ---- requests

-- what is asked of a table that was found
abbrev pub read_asked : schema.Schema → Notation → List ℕ → ℕ → Members → Result Request Error
read_asked s n name place ms = do
  columns ← read_monitored (columns_at s place) (get_member (codes "columns") ms)
  filter ← read_where_of n (columns_at s place) ms
  select ← read_select (get_member (codes "select") ms)
  no_other (known_members n) ms
  Ok (record { shape = record { name = name; columns = columns }; place = place; select = select; filter = filter })
