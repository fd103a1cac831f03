use Rattle.std.proofs.Common.{rules, ◌≡◌, ap, ◌∙◌}
use Rattle.std.proofs.lemmas.Result.{on_ok_weaker}
use Rattle.odb_atoms.specs.ColType.{value_base}
use Rattle.odb_atoms.specs.Represented.ColType.{type_of}
use Rattle.odb_integrity.specs.Settlement.{strong_target}
use Rattle.odb_integrity.proofs.Named.{map_named}
use Rattle.odb_integrity.proofs.references.append_value.Goals as goal

pub returns-in_ok-append_side-in-Map : goal.returns-in_ok-append_side-in-Map
returns-in_ok-append_side-in-Map c =
    let t = type_of c.args.column.now in
    let keys : c.strong_target-keys.result ≡ strong_target c.args.schema.now t.key = search rules in
    let values : c.strong_target-values.result ≡ strong_target c.args.schema.now (value_base t) = c.strong_target-values.ensures ∙ ap (strong_target c.args.schema.now) c.value_base.ensures in
    on_ok_weaker c.append_side-in-Map.result (λ e. map_named c.args.schema.now t c.in-Map.pairs c.args.value.now c.in-Map.ensures.listed c.strong_target-keys.result c.strong_target-values.result keys values c.args.rows.now.items c.append_side.new.rows.items c.append_side-in-Map.new.rows.items c.in_ok-append_side-in-Map.ensures e) c.append_side-in-Map.ensures
