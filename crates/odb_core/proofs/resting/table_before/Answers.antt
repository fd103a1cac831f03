use Rattle.std.proofs.Common.{rules, ◌≡◌, true, false, cond, not, ◌&&◌, map, None, sym, ap, ◌∙◌}
use Rattle.std.specs.List.{list_any}
use Rattle.std.specs.Prelude.{codes}
use Rattle.serde_json.specs.View.{view}
use Rattle.odb_schema.specs.Json.{string_member}
use Rattle.odb_core.specs.Stuck.{is_wait}
use Rattle.odb_core.proofs.MarkedTables.{any_mapped}
use Rattle.odb_core.proofs.resting.table_before.Goals as goal

pub returns-then-not-is_wait : goal.returns-then-not-is_wait
returns-then-not-is_wait c =
    let d = view c.args.first.now in
    let isnt : is_wait d ≡ false = search rules in
    sym (ap (λ b. cond (b && not (list_any is_wait (map view c.args.later.now))) (string_member (codes "table") d) None) isnt)

pub returns-then-has_wait : goal.returns-then-has_wait
returns-then-has_wait c =
    let d = view c.args.first.now in
    let is : is_wait d ≡ true = search rules in
    let more : list_any is_wait (map view c.args.later.now) ≡ true = sym (any_mapped is_wait view c.args.later.now) ∙ search rules in
    sym (λ i. cond (is i && not (more i)) (string_member (codes "table") d) None)

pub returns : goal.returns
returns c =
    let d = view c.args.first.now in
    let is : is_wait d ≡ true = search rules in
    let none : list_any is_wait (map view c.args.later.now) ≡ false = sym (any_mapped is_wait view c.args.later.now) ∙ search rules in
    c.string_member.ensures ∙ sym (λ i. cond (is i && not (none i)) (string_member (codes "table") d) None)
