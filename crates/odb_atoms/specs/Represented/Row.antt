-- What a row of the code stands for.
use Rattle.odb_atoms.specs.Row.{Row}
use Rattle.odb_atoms.specs.Represented.Atom.{uuid_of}
use Rattle.odb_atoms.specs.declared.row.Row.TheInside.{Inside}

abbrev pub row_of : Inside → Row
row_of a = record { version = uuid_of a.version; columns = a.columns.items }
