use Rattle.std.proofs.Common.{rules, ◌≡◌, ap, ◌∙◌}
use Rattle.odb_atoms.specs.ColType.{value_base}
use Rattle.odb_atoms.specs.Represented.ColType.{type_of}
use Rattle.odb_integrity.specs.Settlement.{strong_target}
use Rattle.odb_integrity.proofs.Referring.{map_refers, set_refers}
use Rattle.odb_integrity.proofs.references.value_refers.Goals as goal

pub returns-in-Set : goal.returns-in-Set
returns-in-Set c =
    let s = c.args.schema.now in
    let t = type_of c.args.column.now in
    let keys : c.strong_target-keys.result ≡ strong_target s t.key = search rules in
    c.set_refers.ensures ∙ set_refers s t c.in-Set.field-0 c.args.value.now c.in-Set.ensures.listed c.strong_target-keys.result keys c.args.referent

pub returns-in-Map : goal.returns-in-Map
returns-in-Map c =
    let s = c.args.schema.now in
    let t = type_of c.args.column.now in
    let keys : c.strong_target-keys.result ≡ strong_target s t.key = search rules in
    let values : c.strong_target.result ≡ strong_target s (value_base t) = c.strong_target.ensures ∙ ap (strong_target s) c.value_base.ensures in
    c.has_pair_for.ensures ∙ map_refers s t c.in-Map.pairs c.args.value.now c.in-Map.ensures.listed c.strong_target-keys.result c.strong_target.result keys values c.args.referent
