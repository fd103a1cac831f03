-- What a hub's rings were sent are the texts of what the machine's run gave.
use Rattle.std.proofs.Common.{◌≡◌, ℕ, length, Some, refl, sym}
use Rattle.odb_atoms.specs.FinMap.{get}
use Rattle.odb_hub.specs.Guarded.{IsGuarded, Guarded}
use Rattle.odb_hub.specs.Rings.{Ring}
use Rattle.odb_law.specs.Headline.{HoldsAlways}
use Rattle.odb_law.specs.Rings.{HoldsOfRings, IsRunTo}
use Rattle.odb_schema.specs.Schema.{Schema}
use Rattle.odb_service.specs.Run.{State}
use Rattle.odb_service.specs.Server.{served_by}
use Rattle.odb_service.specs.Session.{Session}

-- what holds of every run of the machine holds of what the rings were sent
pub holds_of_rings : (P : Schema → State → ℕ → Session → Type 0) → ((s : Schema) → HoldsAlways (served_by s) (P s)) → HoldsOfRings P
holds_of_rings P always k kept s x r there ring =
    let whole = kept.2 in
    let st : State = record { world = k.server.world; given = whole.3; requests = whole.4.0 } in
    let is : IsRunTo k s r st = record { word = whole.0; most = whole.1; events = whole.2; is_run = whole.4.1; world = refl; texts = sym (whole.5 s r ring) } in
    (st, is, always k.server.schema st (whole.0, whole.1, length k.server.schema.tables, whole.2, whole.4.1) s x there)
