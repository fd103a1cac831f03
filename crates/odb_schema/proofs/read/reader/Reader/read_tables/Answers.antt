use Rattle.std.proofs.Common.{◌∙◌, ◌∷◌, ap, sym}
use Rattle.serde_json.specs.View.{members_view, view}
use Rattle.odb_atoms.specs.First.{each}
use Rattle.odb_schema.specs.Json.{members_list}
use Rattle.odb_schema.specs.SchemaText.{read_table}
use Rattle.odb_schema.specs.Represented.Parts.{tables_in}
use Rattle.odb_schema.specs.Represented.Reader.{known_to}
use Rattle.odb_schema.proofs.Ascending.{tables_ascend}
use Rattle.odb_schema.proofs.Eachs.{after, at_end, each_more}
use Rattle.odb_schema.proofs.read.reader.Reader.read_tables.Goals as goal

pub loop-name-preserved : goal.loop-name-preserved
loop-name-preserved c =
    let t = known_to c.args.self.now in
    let done = c.loop-name.read.items in
    rw c.in_ok-push.ensures.items
    (each_more (read_table t) (tables_in (members_view c.args.self.now.tables.now.entries)) done (c.as_str.result.now, view c.in-Some.value.now) (members_list (members_view c.next.new.self)) c.in_ok-read_table.field-0
    (c.loop-name.invariant ∙ ap (λ es. after done (each (read_table t) (members_list (members_view es)))) c.in-Some.ensures.steps ∙ ap (λ n. after done (each (read_table t) ((n, view c.in-Some.value.now) ∷ members_list (members_view c.next.new.self)))) (sym c.as_str.ensures.value))
    c.in_ok-read_table.ensures)

pub returns-clause-ascending : goal.returns-clause-ascending
returns-clause-ascending c =
    let t = known_to c.args.self.now in
    tables_ascend t c.args.self.now.tables.now.entries c.loop-name.read.items c.len.ensures.ordered
    (at_end (tables_in (members_view c.args.self.now.tables.now.entries)) c.loop-name.read.items (c.loop-name.invariant ∙ ap (λ es. after c.loop-name.read.items (each (read_table t) (members_list (members_view es)))) c.in-None.ensures.steps.0))
