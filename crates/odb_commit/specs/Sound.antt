-- Databases as this server makes them.
use Rattle.odb_integrity.specs.Settled.{IsSettled}
use Rattle.odb_schema.specs.Schema.{Schema}
use Rattle.odb_tables.specs.Database.{Db}
use Rattle.odb_tables.specs.Typed.{IsTyped}

-- What holds of every database that began with empty tables and that transactions changed since: its rows are of the
-- schema, and it is settled.
abbrev pub IsSound : Schema → Db → Type 0
IsSound s db = IsTyped s db × IsSettled s db
