use Rattle.std.proofs.Common.{rules, ◌≡◌, ap, ◌∙◌}
use Rattle.odb_atoms.specs.ColType.{value_base}
use Rattle.odb_atoms.specs.Represented.ColType.{type_of}
use Rattle.odb_integrity.specs.Settlement.{weak_target}
use Rattle.odb_integrity.proofs.Concerned.{map_change, set_change}
use Rattle.odb_integrity.proofs.suspects.has_stale_change.Goals as goal

pub returns-in-Set : goal.returns-in-Set
returns-in-Set c =
    let s = c.args.schema.now in
    let t = type_of c.args.column.now in
    let keys : c.weak_target-keys.result ≡ weak_target s t.key = search rules in
    c.has_stale_element_of.ensures ∙ set_change s c.args.draft.now.now t c.in-Set.elements c.args.change.now c.args.now.now c.in-Set.ensures.listed c.weak_target-keys.result keys

pub returns-in-Map : goal.returns-in-Map
returns-in-Map c =
    let s = c.args.schema.now in
    let t = type_of c.args.column.now in
    let keys : c.weak_target-keys.result ≡ weak_target s t.key = search rules in
    let values : c.weak_target.result ≡ weak_target s (value_base t) = c.weak_target.ensures ∙ ap (weak_target s) c.value_base.ensures in
    c.has_stale_pair_of.ensures ∙ map_change s c.args.draft.now.now t c.in-Map.pairs c.args.change.now c.args.now.now c.in-Map.ensures.listed c.weak_target-keys.result c.weak_target.result keys values
