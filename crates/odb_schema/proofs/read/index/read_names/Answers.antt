use Rattle.std.proofs.Common.{◌∙◌, ◌&&◌, [], add-one, ap, drop, map, not, string_bytes, suc, sym}
use Rattle.std.proofs.lemmas.List.{map-append}
use Rattle.serde_json.specs.View.{items_view, view}
use Rattle.odb_schema.specs.Json.{items_list}
use Rattle.odb_schema.specs.SchemaText.{distinct_names, is_indexable}
use Rattle.odb_schema.specs.Represented.Parts.{index_names}
use Rattle.odb_schema.proofs.Eachs.{IsAmong, after, names_more, names_refused, next_item, turned}
use Rattle.odb_schema.proofs.read.index.read_names.Goals as goal

pub returns-then-not-may_follow : goal.returns-then-not-may_follow
returns-then-not-may_follow c =
    let cs = c.args.columns.now in
    let front = c.loop-item.names.items in
    let name = c.in_ok-name.name.now in
    names_refused cs (index_names cs (items_view c.args.items.now)) front (view c.item-item.result) (items_list (items_view (drop (suc c.loop-item.item-index) c.args.items.now))) name
    (c.loop-item.invariant ∙ ap (λ l. after (map string_bytes front) (distinct_names cs (turned [] (map string_bytes front)) l)) (next_item c.args.items.now c.loop-item.item-index c.item-item.result c.loop-item-test.true c.item-item.is))
    c.in_ok-name.ensures
    (ap (λ l. is_indexable cs name && not (IsAmong name l)) (sym c.deref.ensures.value) ∙ sym c.if-not-may_follow.ensures)

pub loop-item-preserved : goal.loop-item-preserved
loop-item-preserved c =
    let cs = c.args.columns.now in
    let front = c.loop-item.names.items in
    let name = c.in_ok-name.name.now in
    let more = names_more cs (index_names cs (items_view c.args.items.now)) front (view c.item-item.result) (items_list (items_view (drop (suc c.loop-item.item-index) c.args.items.now))) name
    (c.loop-item.invariant ∙ ap (λ l. after (map string_bytes front) (distinct_names cs (turned [] (map string_bytes front)) l)) (next_item c.args.items.now c.loop-item.item-index c.item-item.result c.loop-item-test.true c.item-item.is))
    c.in_ok-name.ensures
    (ap (λ l. is_indexable cs name && not (IsAmong name l)) (sym c.deref.ensures.value) ∙ sym c.if-not-may_follow.ensures) in
    rw (add-one, c.in_ok-push.ensures.items, map-append, c.in_ok-from_str.ensures.ok) more
