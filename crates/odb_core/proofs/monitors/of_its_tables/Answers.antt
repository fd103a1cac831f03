use Rattle.std.proofs.Common.{rules, ◌≡◌, true, false, map, bytes_eq, ◌∙◌}
use Rattle.std.specs.Arc.{arc_value}
use Rattle.std.specs.List.{list_all, list_any}
use Rattle.odb_request.specs.Represented.Change.{change_of}
use Rattle.odb_request.specs.Represented.Shape.{table_name}
use Rattle.odb_core.specs.Represented.Monitors.{are_among}
use Rattle.odb_core.proofs.AskedMonitors.{all_among, changes_among, not_among}
use Rattle.odb_core.proofs.monitors.of_its_tables.Goals as goal

pub returns-then-not-are_among : goal.returns-then-not-are_among
returns-then-not-are_among c =
    let s = arc_value c.args.schema in
    let tables = c.args.monitor.now.shapes in
    let cs = c.args.changes.items in
    let lent : c.deref.result.now ≡ s = search rules in
    let listed : c.as_slice.result.now ≡ cs = search rules in
    let among : c.are_among.result ≡ are_among tables (map (change_of s) cs) =
    c.are_among.ensures
    ∙ (λ i. list_all (λ x. list_any (λ t. bytes_eq (table_name (lent i) x.table) t.name) tables) (listed i))
    ∙ changes_among s tables cs in
    let isnt : c.are_among.result ≡ false = search rules in
    not_among tables (map (change_of s) cs) c.are_among.result among isnt

pub returns : goal.returns
returns c =
    let s = arc_value c.args.schema in
    let tables = c.args.monitor.now.shapes in
    let cs = c.args.changes.items in
    let lent : c.deref.result.now ≡ s = search rules in
    let listed : c.as_slice.result.now ≡ cs = search rules in
    let among : c.are_among.result ≡ are_among tables (map (change_of s) cs) =
    c.are_among.ensures
    ∙ (λ i. list_all (λ x. list_any (λ t. bytes_eq (table_name (lent i) x.table) t.name) tables) (listed i))
    ∙ changes_among s tables cs in
    let is : c.are_among.result ≡ true = search rules in
    all_among tables (map (change_of s) cs) c.are_among.result among is
