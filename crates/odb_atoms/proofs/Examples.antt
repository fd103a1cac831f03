-- What an example of values unfolds to compute the definitions.
use Rattle.std.specs.Prelude.{⊤}
use Rattle.std.specs.Str.{chars}
use Rattle.uuid.proofs.OnLiterals.{uuid_on_literals}
use Rattle.odb_atoms.specs.FinMap as map
use Rattle.odb_atoms.specs.Uuid.{uuid_from}

unfoldable pub values_compute : ⊤
unfolding map.empty map.get map.checked map.insert map.from_sorted map.keys map.len map.retain_keys uuid_from uuid_on_literals chars
values_compute = tt
