-- The JSON that a `Printable` stands for.
use Rattle.std.specs.Prelude.{option_map, unwrap_or}
use Rattle.serde_json.specs.Data.{Data, null}
use Rattle.serde_json.specs.View.{view}
use Rattle.odb_rpc.specs.declared.printable.Printable.{Printable}

abbrev pub printable_data : Printable → Data
printable_data p = unwrap_or (option_map (λ v. view v.now) p.value) null
