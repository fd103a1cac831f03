use Rattle.std.proofs.Common.{rules, ◌≡◌, Some, map as map_list, ap, ◌∙◌}
use Rattle.odb_atoms.specs.FinMap as map
use Rattle.odb_atoms.specs.Represented.Atom.{uuid_of}
use Rattle.odb_atoms.specs.Row.{Row}
use Rattle.odb_ops.specs.Execution.{replaced}
use Rattle.odb_ops.specs.Represented.Parts.{all_rewritten}
use Rattle.odb_ops.proofs.Rewrites.{rewritten_at_once}
use Rattle.odb_tables.specs.Database.{Table, table_at}
use Rattle.odb_tables.specs.Matching.{matching}
use Rattle.odb_ops.proofs.update.update.Goals as goal

pub returns-clause-draft : goal.returns-clause-draft
returns-clause-draft c =
    let d = c.args.draft.now in
    let f = λ (r : Row). Some (replaced c.args.asked.now.row.items r) in
    let found : Table = matching c.args.asked.now.conditions (table_at d.now c.args.asked.now.table) in
    let keys : map_list uuid_of c.in_ok-found.found.items ≡ map.keys found = search rules in
    let all : c.rewrite_all.new.draft ≡ all_rewritten f c.args.asked.now.table (map_list uuid_of c.in_ok-found.found.items) d = search rules in
    let same = all ∙ ap (λ us. all_rewritten f c.args.asked.now.table us d) keys ∙ rewritten_at_once f c.args.asked.now.table c.args.asked.now.conditions d in
    search (rules, same)
