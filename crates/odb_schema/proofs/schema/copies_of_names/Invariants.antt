use Rattle.std.proofs.Common.{◌≡◌, take, map, string_bytes}
use Rattle.odb_schema.proofs.schema.copies_of_names.Given as goal

abbrev pub invariant-loop-name : goal.invariant-loop-name
invariant-loop-name l = map string_bytes l.copies.items ≡ map string_bytes (take l.name-index l.names)
