use Rattle.std.proofs.Common.{rules, ◌≡◌, ◌+◌, ◌<◌, ◌≤◌, List, [], ◌∷◌, cond, codes, drop, get_or, length, map, sym, ap, ◌∙◌}
use Rattle.std.proofs.lemmas.List.{drop_all, drop_more}
use Rattle.serde_json.specs.View.{view}
use Rattle.serde_json.specs.declared.value.Value.{Value}
use Rattle.odb_atoms.specs.Represented.Atom.{uuid_of}
use Rattle.odb_atoms.specs.Uuid.{Uuid}
use Rattle.odb_json.specs.Operation.{is_insert}
use Rattle.odb_ops.specs.Execution as model
use Rattle.odb_ops.specs.Represented.Parts.{bound}
use Rattle.odb_ops.proofs.Bindings.{all_bound, none_bound, one_more, stands}
use Rattle.odb_schema.specs.Json.{Data, string_member}
use Rattle.odb_schema.specs.Notation.{Names}
use Rattle.odb_ops.proofs.names.names_of.Goals as goal

pub loop-operation-init : goal.loop-operation-init
loop-operation-init c = none_bound c.new-names.result (map view c.args.operations.now) (map uuid_of c.args.fresh.now) c.new-names.ensures

pub loop-operation-preserved : goal.loop-operation-preserved
loop-operation-preserved c =
    let ops : List Value = c.args.operations.now in
    let i = c.loop-operation.operation-index in
    let op : Value = c.operation-item.result in
    let names : Names = c.loop-operation.names in
    let new : Names = c.bind_insert.new.names in
    let left : List Uuid = map uuid_of c.loop-operation.left.now in
    let rest : List Data = map view (drop (i + 1) ops) in
    let inside : i < length ops = search rules in
    let here : op ≡ get_or ops i op = search rules in
    let split : map view (drop i ops) ≡ view op ∷ rest = ap (map view) (drop_more ops i op inside ∙ ap (λ x. x ∷ drop (i + 1) ops) (sym here)) in
    let own : uuid_of c.identifier_of.result ≡ model.identifier_of (view op) left = search rules in
    let after : map uuid_of c.remaining_uuids-left.result.now ≡ model.fresh_after (view op) left = search rules in
    let made : new ≡ cond (is_insert (view op)) (bound (string_member (codes "uuid-name") (view op)) (uuid_of c.identifier_of.result) names) names = search rules in
    let bound_own : new ≡ cond (is_insert (view op)) (bound (string_member (codes "uuid-name") (view op)) (model.identifier_of (view op) left) names) names = made ∙ ap (λ u. cond (is_insert (view op)) (bound (string_member (codes "uuid-name") (view op)) u names) names) own in
    λ q. ap (λ us. stands new rest us q) after ∙ one_more names new (view op) rest left bound_own q ∙ ap (λ ds. stands names ds left q) (sym split) ∙ c.loop-operation.invariant q

pub returns : goal.returns
returns c =
    let ops : List Value = c.args.operations.now in
    let left : List Uuid = map uuid_of c.loop-operation.left.now in
    let past : length ops ≤ c.loop-operation.operation-index = search rules in
    let done : map view (drop c.loop-operation.operation-index ops) ≡ [] = ap (map view) (drop_all c.loop-operation.operation-index ops past) in
    all_bound c.loop-operation.names (model.names_of (map view ops) (map uuid_of c.args.fresh.now)) left
    (λ q. ap (λ ds. stands c.loop-operation.names ds left q) (sym done) ∙ c.loop-operation.invariant q)
