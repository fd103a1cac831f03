-- Sound databases: what is known of one, and how one is made.
use Rattle.std.specs.Prelude.{◌≡◌, ℕ, length, replicate, Ok}
use mathlib.Core.Path.{sym, ◌∙◌}
use Rattle.odb_atoms.specs.FinMap as map
use Rattle.odb_atoms.specs.Uuid.{Uuid}
use Rattle.odb_commit.specs.Sound.{IsSound}
use Rattle.odb_commit.proofs.Typed.{stamped_typed}
use Rattle.odb_commit.proofs.Versions.{stamped_settled}
use Rattle.odb_integrity.proofs.KeepsTyped.{empty_typed, settled_typed}
use Rattle.odb_integrity.proofs.Settles.{empty_settled, settles}
use Rattle.odb_integrity.specs.Settled.{IsSettled}
use Rattle.odb_integrity.specs.Settlement.{settle}
use Rattle.odb_schema.specs.Schema.{Schema}
use Rattle.odb_tables.specs.Database.{Db}
use Rattle.odb_tables.specs.Stamped.{stamped}
use Rattle.odb_tables.specs.Typed.{IsTyped}

pub sound_typed : (s : Schema) (db : Db) → IsSound s db → IsTyped s db
sound_typed s db h = h.0

pub sound_settled : (s : Schema) (db : Db) → IsSound s db → IsSettled s db
sound_settled s db h = h.1

-- empty tables
pub empty_sound : (s : Schema) → IsSound s (replicate (length s.tables) map.empty)
empty_sound s = (empty_typed s, empty_settled s)

-- what settlement leaves, with its versions
pub settled_sound : (s : Schema) (max_rows : ℕ) (number : Uuid) (old now new : Db) → IsSound s old → IsTyped s now → settle s max_rows now ≡ Ok new → IsSound s (stamped number old new)
settled_sound s max_rows number old now new h g e =
    let before : IsTyped s old = sound_typed s old h in
    let after : IsTyped s new = settled_typed s max_rows now new e g in
    (stamped_typed s number old new before after, stamped_settled s number old new (before.0 ∙ sym after.0) (settles s max_rows now new e))
