use mathlib.Core.Path.{sym, ap, subst, ◌∙◌}
use Rattle.std.proofs.Common.{rules, ◌≡◌, ◌++◌, ◌∷◌, [], length, OnOk}
use Rattle.std.proofs.lemmas.List.{append-nil, nil_from_length}
use Rattle.odb_chunks.proofs.Chunked.{moved_on}
use Rattle.odb_chunks.proofs.chunked_list.ChunkedList.push_items.Goals as goal

pub loop-item-preserved : goal.loop-item-preserved
loop-item-preserved g c =
    let before = c.loop-item in
    let step : before.item-iterator.rest.items ≡ c.in-Some.item ∷ c.next.new.self.rest.items = search rules in
    moved_on before.self before.chunk.items _ _ _ before.item-iterator.rest.items _ _ c.in-Some.item c.in_ok-chunk-2.ensures step c.in_ok-push.ensures.items before.invariant

pub returns : goal.returns
returns g c =
    let at = c.loop-item in
    let rest = at.item-iterator.rest in
    let long : length rest.items ≡ rest.len = search rules in
    let done : rest.items ≡ [] = nil_from_length rest.items (long ∙ c.in-None.ensures.steps.0) in
    let whole : at.self ++ at.chunk.items ≡ c.args.self.now ++ c.args.items.items = ap (λ ys. at.self ++ ys) (sym (append-nil at.chunk.items) ∙ ap (λ ys. at.chunk.items ++ ys) (sym done)) ∙ at.invariant in
    subst (λ xs. OnOk c.push_chunk-2.result (c.push_chunk-2.new.self ≡ xs)) whole c.push_chunk-2.ensures
