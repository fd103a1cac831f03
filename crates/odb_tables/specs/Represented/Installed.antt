-- How a change is made without a moment in which it can't be taken back: first the rows that are new are put in, which
-- alone can want memory, and then the rest is made.
use Rattle.std.specs.Prelude.{List, [], ◌∷◌, Option, Some, None, option_map}
use Rattle.odb_atoms.specs.FinMap as map
use Rattle.odb_atoms.specs.Row.{Row}
use Rattle.odb_atoms.specs.Uuid.{Uuid}
use Rattle.odb_tables.specs.Change.{Changes}
use Rattle.odb_tables.specs.Database.{Db, Table}

-- the row, where there was none
abbrev pub new_row : Option Row × Option Row → Option Row
new_row (None, q) = q
new_row (Some p, q) = None

-- a row that is new is put in
abbrev pub put_in : Option Row → Option Row × Option Row → Option Row
put_in r (None, Some q) = Some q
put_in r (None, None) = r
put_in r (Some p, q) = r

-- a row that is new is taken out again
abbrev pub taken_back : Option Row → Option Row × Option Row → Option Row
taken_back r (None, Some q) = None
taken_back r (None, None) = r
taken_back r (Some p, q) = r

-- a row that was there is replaced or removed
abbrev pub replaced : Option Row → Option Row × Option Row → Option Row
replaced r (None, q) = r
replaced r (Some p, None) = None
replaced r (Some p, Some q) = option_map (λ _. q) r

-- the identifier has the row, or none
abbrev pub with_row_at : Table → Uuid → Option Row → Table
with_row_at t u None = map.remove t u
with_row_at t u (Some r) = map.insert t u r

-- f, at the row of a change
abbrev pub one_row : (Option Row → Option Row × Option Row → Option Row) → Table → Uuid × (Option Row × Option Row) → Table
one_row f t e = with_row_at t e.0 (f (map.get t e.0) e.1)

abbrev pub where_changed : (Option Row → Option Row × Option Row → Option Row) → Option Row → Option (Option Row × Option Row) → Option Row
where_changed f r None = r
where_changed f r (Some c) = f r c

-- f, at each row that is changed
abbrev pub each_row : (Option Row → Option Row × Option Row → Option Row) → Table → Changes → Table
each_row f = map.combine (where_changed f)

-- the same in each table that has a change
abbrev pub each_table : (Option Row → Option Row × Option Row → Option Row) → Db → List Changes → Db
each_table f [] cs = []
each_table f (t ∷ ts) [] = t ∷ ts
each_table f (t ∷ ts) (c ∷ cs) = each_row f t c ∷ each_table f ts cs
