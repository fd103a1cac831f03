use Rattle.std.proofs.Common.{rules, ◌≡◌, map as map_list, ap, ◌∙◌}
use Rattle.odb_atoms.specs.FinMap as map
use Rattle.odb_atoms.specs.Represented.Atom.{uuid_of}
use Rattle.odb_ops.specs.Represented.Parts.{without_rows}
use Rattle.odb_ops.proofs.Deletes.{without_all}
use Rattle.odb_tables.specs.Database.{Table, table_at}
use Rattle.odb_tables.specs.Matching.{matching}
use Rattle.odb_ops.proofs.delete.delete.Goals as goal

pub returns-clause-draft : goal.returns-clause-draft
returns-clause-draft c =
    let d = c.args.draft.now in
    let found : Table = matching c.args.asked.now.conditions (table_at d.now c.args.asked.now.table) in
    let keys : map_list uuid_of c.in_ok-found.found.items ≡ map.keys found = search rules in
    let all : c.remove_all.new.draft ≡ without_rows c.args.asked.now.table (map_list uuid_of c.in_ok-found.found.items) d = search rules in
    let same = all ∙ ap (λ us. without_rows c.args.asked.now.table us d) keys ∙ without_all c.args.asked.now.table found d in
    search (rules, same)
