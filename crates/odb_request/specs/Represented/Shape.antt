-- What a shape of the code stands for: names and types are the schema's.
use Rattle.std.specs.Prelude.{ℕ, ◌<◌, List, [], length, map, option_map, refl, slice_get, unwrap_or}
use Rattle.std.specs.Arc.{arc_value}
use Rattle.std.specs.Coded.{Coded, code_by, coded×, coded_ℕ}
use Rattle.odb_cond.specs.Filter.{Filter}
use Rattle.odb_request.specs.Request as model
use Rattle.odb_request.specs.Represented.Codes.{select_code, shape_code}
use Rattle.odb_request.specs.Represented.Parts.{monitored_as}
use Rattle.odb_request.specs.Represented.Select.{select_of}
use Rattle.odb_request.specs.declared.shape.Shape.TheInside.{Inside}
use Rattle.odb_schema.specs.Schema.{Schema, columns_at}

-- what is asked of one table, but for its filter
pub record Asked : Type 0 where
  pub shape : model.Shape
  pub place : ℕ
  pub select : model.Select

abbrev pub asked_code : Coded Asked
asked_code =
    code_by (model.Shape × (ℕ × model.Select)) (coded× shape_code (coded× coded_ℕ select_code))
    (λ a. (a.shape, (a.place, a.select))) (λ p. record { shape = p.0; place = p.1.0; select = p.1.1 }) (λ a. refl)

-- with this filter
abbrev pub filtered : Asked → Filter → model.Request
filtered a f = record { shape = a.shape; place = a.place; select = a.select; filter = f }

-- without its filter
abbrev pub asked_by : model.Request → Asked
asked_by q = record { shape = q.shape; place = q.place; select = q.select }

abbrev pub table_name : Schema → ℕ → List ℕ
table_name s t = unwrap_or (option_map (λ t. t.name) (slice_get s.tables t)) []

abbrev pub shape_in : Inside → Asked
shape_in a = record {
  shape = record {
    name = table_name (arc_value a.schema) a.table;
    columns = map (monitored_as (columns_at (arc_value a.schema) a.table)) a.columns.items;
  };
  place = a.table;
  select = select_of a.select;
}

-- the table is one of the schema's
abbrev pub HasTable : Inside → Type 0
HasTable a = a.table < length (arc_value a.schema).tables
