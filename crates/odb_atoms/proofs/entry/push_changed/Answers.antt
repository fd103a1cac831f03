use mathlib.Core.Path.{sym, ap, ◌∙◌}
use Rattle.std.proofs.Common.{rules, ◌≡◌, ◌++◌, [], length, map}
use Rattle.std.proofs.lemmas.List.{nil_from_length}
use Rattle.std.proofs.lemmas.Result.{on_ok_weaker}
use Rattle.std.specs.Arc.{arc_value}
use Rattle.odb_atoms.specs.Represented.Entry.{merged}
use Rattle.odb_atoms.proofs.Chunks.{map-append}
use Rattle.odb_atoms.proofs.Merges.{merged-nothing}
use Rattle.odb_atoms.proofs.entry.push_changed.Goals as goal

pub returns-then-is_empty : goal.returns-then-is_empty
returns-then-is_empty g c =
    let entry = g.E.Entry.entry in
    let chunk = (arc_value c.args.chunk.now).items in
    let short : length c.args.run.now ≡ 0 = search rules in
    let none : c.args.run.now ≡ [] = nil_from_length c.args.run.now short in
    let alone = sym (ap (λ ys. merged (map entry chunk) (map entry ys)) none ∙ merged-nothing (map entry chunk)) in
    on_ok_weaker c.push_shared.result (λ e. ap (map entry) e ∙ map-append entry c.args.list.now chunk ∙ ap (λ ys. map entry c.args.list.now ++ ys) alone) c.push_shared.ensures
