-- What the names of a transaction stand for in the code.
use Rattle.std.specs.BTreeMap.{BTreeMap}
use Rattle.std.specs.declared.string.String.{String}
use Rattle.std.specs.declared.alloc.Global.{Global}
use Rattle.uuid.specs.declared.Uuid.{Uuid}
use Rattle.odb_atoms.specs.Represented.Atom.{uuid_of}
use Rattle.odb_atoms.specs.Represented.TextMap.{text_map}
use Rattle.odb_schema.specs.Notation.{Names}

abbrev pub names_in : BTreeMap (String Global) Uuid → Names
names_in = text_map uuid_of
