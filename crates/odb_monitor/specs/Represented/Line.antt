-- What a line of the code stands for: a row's identifier, and what becomes of the row in the monitored columns.
use Rattle.std.specs.Prelude.{List}
use Rattle.odb_atoms.specs.Represented.Atom.{uuid_of}
use Rattle.odb_atoms.specs.Uuid.{Uuid}
use Rattle.odb_monitor.specs.View as model
use Rattle.odb_monitor.specs.View.{comes_in, cut, differs, goes_out}
use Rattle.odb_monitor.specs.declared.line.Change.{Change}
use Rattle.odb_monitor.specs.declared.line.Change.TheVariants.{ComesIn, Differs, GoesOut}
use Rattle.odb_monitor.specs.declared.line.Line.{Line}
use Rattle.odb_request.specs.Request.{Column}

abbrev pub change_in : List Column → Uuid → Change → model.Change
change_in cs u (ComesIn new) = comes_in (cut cs u new.now)
change_in cs u (GoesOut old) = goes_out (cut cs u old.now)
change_in cs u (Differs old new) = differs (cut cs u old.now) (cut cs u new.now)

abbrev pub line_in : List Column → Line → Uuid × model.Change
line_in cs line = (uuid_of line.uuid, change_in cs (uuid_of line.uuid) line.change)
