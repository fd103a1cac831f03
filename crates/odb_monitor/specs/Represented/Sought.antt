-- The rows on which it rests what is shown of a table, beside those that were changed.
use Rattle.std.specs.Prelude.{◌≡◌, ⊤, List, Option, Some, None}
use Rattle.odb_atoms.specs.Row.{Row}
use Rattle.odb_atoms.specs.Uuid.{Uuid}
use Rattle.odb_cond.specs.Filter.{Filter, TellsApart}
use Rattle.odb_monitor.specs.Represented.Candidates.{ListsSelected}
use Rattle.odb_monitor.specs.declared.told.Told.{Told}
use Rattle.odb_monitor.specs.declared.told.Told.TheVariants.{Asked, Nothing, Under}
use Rattle.odb_tables.specs.Database.{Table}

-- by which filter they are looked for, where f is asked: by f, where the client was told nothing, and by what tells f apart from what it was told
abbrev pub IsSoughtBy : Told → Filter → Option Filter → Type 0
IsSoughtBy Nothing f None = ⊥
IsSoughtBy Nothing f (Some d) = d ≡ f
IsSoughtBy Asked f o = ⊤
IsSoughtBy (Under g) f None = ⊥
IsSoughtBy (Under g) f (Some d) = TellsApart d g.now f

abbrev pub ListsBy : Option Filter → List (Uuid × Row) → Table → Type 0
ListsBy None rows t = ⊤
ListsBy (Some d) rows t = ListsSelected d rows t

-- these are they, each once
abbrev pub AreSought : Told → Filter → List (Uuid × Row) → Table → Type 0
AreSought w f rows t = (o : Option Filter) × IsSoughtBy w f o × ListsBy o rows t
