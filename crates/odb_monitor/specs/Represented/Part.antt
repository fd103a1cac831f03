-- What a part of a job stands for, and how its rows are printed.
use Rattle.std.specs.Prelude.{◌∷◌, ℕ, Bool, flat_map, if◌then◌else◌, List, Option, Some, None, refl}
use Rattle.std.specs.Coded.{Coded, code_by, coded×, coded_list}
use Rattle.json.specs.Print.{print}
use Rattle.json.specs.Token.{Token, begin_object}
use Rattle.odb_atoms.specs.FinMap as finite
use Rattle.odb_atoms.specs.FinMap.{FinMap, combine, map_entries}
use Rattle.odb_atoms.specs.Row.{Row, row_code}
use Rattle.odb_atoms.specs.Uuid.{Uuid, uuid_cmp, uuid_code}
use Rattle.odb_atoms.specs.Value.{value_code}
use Rattle.odb_cond.specs.Filter.{Filter}
use Rattle.odb_monitor.specs.Job.{Job, Part}
use Rattle.odb_monitor.specs.Represented.Sides.{table_then, told_in}
use Rattle.odb_print.specs.Tokens.{member_tokens}
use Rattle.odb_monitor.specs.Update.{table_update}
use Rattle.odb_monitor.specs.View.{Change, Contents, change, is_empty, is_shown, selected}
use Rattle.odb_monitor.specs.Walk.{Walk}
use Rattle.odb_monitor.specs.declared.told.Told.{Told}
use Rattle.odb_request.specs.Represented.Codes.{filter_code, notation_code, request_code}
use Rattle.odb_request.specs.Request.{Notation, Request}
use Rattle.odb_tables.specs.Change.{Changes}
use Rattle.odb_tables.specs.Database.{Table}
use Rattle.std.specs.Coded.{coded_bool}

abbrev pub contents_code : Coded Contents
contents_code = finite.code uuid_code (coded_list value_code)

abbrev pub part_code : Coded Part
part_code =
    code_by (Request × (Contents × Contents)) (coded× request_code (coded× contents_code contents_code))
    (λ p. (p.request, (p.told, p.asked))) (λ p. record { request = p.0; told = p.1.0; asked = p.1.1 }) (λ p. refl)

abbrev pub job_code : Coded Job
job_code =
    code_by (Notation × (Bool × (Bool × List Part))) (coded× notation_code (coded× coded_bool (coded× coded_bool (coded_list part_code))))
    (λ j. (j.notation, (j.first, (j.reply, j.parts)))) (λ p. record { notation = p.0; first = p.1.0; reply = p.1.1.0; parts = p.1.1.1 }) (λ j. refl)

abbrev pub walk_code : Coded Walk
walk_code =
    code_by (Part × (Filter × List (Uuid × Row))) (coded× part_code (coded× filter_code (coded_list (coded× uuid_code row_code))))
    (λ w. (w.part, (w.filter, w.rows))) (λ p. record { part = p.0; filter = p.1.0; rows = p.1.1 }) (λ w. refl)

-- of a table with these rows, which changed so since the client was told
abbrev pub part_of : Request → Told → Table → Option Changes → Part
part_of q w t c = record { request = q; told = told_in w q (table_then c t); asked = selected q t }

-- what is shown of the table
abbrev pub changes_shown : Bool → Part → FinMap uuid_cmp Change
changes_shown first p = map_entries (λ u c. if is_shown first p.request.select c then Some c else None) (combine change p.told p.asked)

abbrev pub is_silent : Bool → Part → Bool
is_silent first p = is_empty (changes_shown first p).entries

-- the table's name and its rows, where there are some
abbrev pub part_tokens : Notation → Bool → Part → List Token
part_tokens n first p = member_tokens p.request.shape.name (table_update n first p.request.shape.columns (changes_shown first p).entries)

-- the object of updates with these tables, as far as its closing bracket
abbrev pub tables_text : Notation → Bool → List Part → List ℕ
tables_text n first ps = print (begin_object ∷ flat_map (part_tokens n first) ps)
