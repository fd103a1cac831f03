use mathlib.Core.Path.{sym, ap, ◌∙◌}
use Rattle.std.proofs.Common.{◌≡◌, ◌++◌, [], arith, length}
use Rattle.std.proofs.lemmas.List.{append-nil, nil_from_length}
use Rattle.odb_chunks.specs.Represented.Chunks.{items_in, last_of}
use Rattle.odb_chunks.proofs.Lasts.{last_in_chunks}
use Rattle.odb_chunks.proofs.items.Items.last.Goals as goal

pub returns-in-empty : goal.returns-in-empty
returns-in-empty g c =
    let front = c.self.inside.front.now in
    let later = c.self.inside.later.now in
    let short : length later ≡ 0 = omega (arith, c.in-empty.len_below) in
    let none : later ≡ [] = nil_from_length later short in
    c.last_in.ensures ∙ ap last_of (sym (append-nil front) ∙ ap (λ cs. front ++ items_in cs) (sym none) ∙ c.self.view_is)

pub returns-in-len1-up : goal.returns-in-len1-up
returns-in-len1-up g c =
    let lies = c.as_slice.ensures.value ∙ ap (λ v. v.items) c.deref.ensures in
    c.last_in-in-len1-up.ensures ∙ ap last_of lies
    ∙ sym (last_in_chunks c.self.inside.front.now c.self.inside.later.now c.chunk-item.result c.self.invariant.1 c.in-len1-up.len_at_least c.chunk-item.is)
    ∙ ap last_of c.self.view_is
