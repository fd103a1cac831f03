use Rattle.std.proofs.Common.{◌≡◌, take, map}
use Rattle.odb_schema.specs.Represented.Names.{names_of}
use Rattle.odb_schema.proofs.schema.copies_of_indexes.Given as goal

abbrev pub invariant-loop-index : goal.invariant-loop-index
invariant-loop-index l = map names_of l.copies.items ≡ map names_of (take l.index-index l.indexes)
