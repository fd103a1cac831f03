use mathlib.Core.Path.{sym, ap, subst, ◌∙◌}
use Rattle.std.proofs.Common.{rules, ◌≡◌, ◌+◌, ◌++◌, ◌∷◌, [], length}
use Rattle.std.specs.Arc.{arc_value}
use Rattle.std.proofs.lemmas.List.{length-append}
use Rattle.odb_chunks.specs.Represented.Chunks.{AreFilled, items_in}
use Rattle.odb_chunks.proofs.Chunked.{AreFilled-push, items_in-push}
use Rattle.odb_chunks.proofs.chunked_list.ChunkedList.push_filled.Goals as goal

pub invariant_of-self-2 : goal.invariant_of-self-2
invariant_of-self-2 g c =
    let chunk = c.args.chunk in
    let chunks = c.self.inside.chunks.items in
    let pushed : c.push.new.self.items ≡ chunks ++ chunk ∷ [] = c.in_ok-push.ensures.items in
    let sum : c.in-Some.len ≡ c.self.inside.len + length (arc_value chunk).items = search rules in
    let count = sum ∙ ap (λ n. n + length (arc_value chunk).items) c.self.invariant.0 ∙ sym (length-append (items_in chunks) (arc_value chunk).items) in (
      count ∙ ap length (sym (items_in-push chunks chunk)) ∙ ap (λ cs. length (items_in cs)) (sym pushed),
      subst AreFilled (sym pushed) (AreFilled-push chunks chunk c.self.invariant.1 c.requires),
    )

pub returns : goal.returns
returns g c =
    let chunk = c.args.chunk in
    let chunks = c.self.inside.chunks.items in
    ap items_in c.in_ok-push.ensures.items ∙ items_in-push chunks chunk ∙ ap (λ xs. xs ++ (arc_value chunk).items) c.self.view_is
