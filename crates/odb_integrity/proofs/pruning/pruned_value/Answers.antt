use Rattle.std.proofs.Common.{rules, ◌≡◌, true, ap, ◌∙◌}
use Rattle.odb_atoms.specs.ColType.{has_kind, value_base}
use Rattle.odb_atoms.specs.Represented.ColType.{type_of}
use Rattle.odb_integrity.specs.Settlement.{weak_target}
use Rattle.odb_integrity.proofs.Prunings.{map_left, map_left_fault, set_left, set_left_fault}
use Rattle.odb_integrity.proofs.pruning.pruned_value.Goals as goal

pub set_of-requires : goal.set_of-requires
set_of-requires c =
    let kind : has_kind (type_of c.args.column.now) c.args.value.now ≡ true = search rules in
    set_left_fault c.args.schema.now c.args.draft.now.now (type_of c.args.column.now) c.in-Set.elements c.args.value.now c.in-Set.ensures.listed kind c.weak_target-keys.result c.in_ok-pruned_elements-in-Set.field-0.items c.in_ok-pruned_elements-in-Set.ensures

pub map_of-requires : goal.map_of-requires
map_of-requires c =
    let kind : has_kind (type_of c.args.column.now) c.args.value.now ≡ true = search rules in
    map_left_fault c.args.schema.now c.args.draft.now.now (type_of c.args.column.now) c.in-Map.pairs c.args.value.now c.in-Map.ensures.listed kind c.weak_target-keys.result c.weak_target-values.result c.in_ok-pruned_pairs-in-Map.field-0.items c.in_ok-pruned_pairs-in-Map.ensures

pub returns-in_ok-pruned_elements-in-Set : goal.returns-in_ok-pruned_elements-in-Set
returns-in_ok-pruned_elements-in-Set c =
    let s = c.args.schema.now in
    let t = type_of c.args.column.now in
    let keys : c.weak_target-keys.result ≡ weak_target s t.key = search rules in
    c.set_of.ensures ∙ set_left s c.args.draft.now.now t c.in-Set.elements c.args.value.now c.in-Set.ensures.listed c.weak_target-keys.result keys c.in_ok-pruned_elements-in-Set.field-0.items c.in_ok-pruned_elements-in-Set.ensures

pub returns-in_ok-pruned_pairs-in-Map : goal.returns-in_ok-pruned_pairs-in-Map
returns-in_ok-pruned_pairs-in-Map c =
    let s = c.args.schema.now in
    let t = type_of c.args.column.now in
    let keys : c.weak_target-keys.result ≡ weak_target s t.key = search rules in
    let values : c.weak_target-values.result ≡ weak_target s (value_base t) = c.weak_target-values.ensures ∙ ap (weak_target s) c.value_base.ensures in
    c.map_of.ensures ∙ map_left s c.args.draft.now.now t c.in-Map.pairs c.args.value.now c.in-Map.ensures.listed c.weak_target-keys.result c.weak_target-values.result keys values c.in_ok-pruned_pairs-in-Map.field-0.items c.in_ok-pruned_pairs-in-Map.ensures
