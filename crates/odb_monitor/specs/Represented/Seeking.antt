-- The part in which rows were looked for.
use Rattle.odb_monitor.specs.Job.{Part}
use Rattle.odb_monitor.specs.declared.sought.Sought.{Sought}
use Rattle.odb_monitor.specs.declared.sought.Sought.TheVariants.{Known, Walked}

abbrev pub part_sought : Sought → Part
part_sought (Known p) = p
part_sought (Walked w) = w.part
