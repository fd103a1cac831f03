-- What a part without what was found in it stands for.
use Rattle.std.specs.Prelude.{option_map}
use Rattle.std.specs.Arc.{arc_value}
use Rattle.odb_monitor.specs.Job.{Part}
use Rattle.odb_monitor.specs.Represented.Part.{part_of}
use Rattle.odb_monitor.specs.declared.bare.Bare.{Bare}

abbrev pub part_bare : Bare → Part
part_bare b = part_of b.request.now b.told b.rows (option_map arc_value b.changes)
