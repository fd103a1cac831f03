use Rattle.std.proofs.Common.{rules, ◌≡◌, Some, None, position, slice_index_or, slice_set, sym, ap, ◌∙◌}
use Rattle.std.specs.Arc.{arc_value}
use Rattle.odb_sessions.specs.Asked.{is_same}
use Rattle.odb_sessions.specs.Named.{Named, under_id}
use Rattle.odb_sessions.proofs.NamedReplays.{made_found, made_nowhere, nameless}
use Rattle.odb_sessions.proofs.named.rename.Goals as goal

pub returns-in_default : goal.returns-in_default
returns-in_default c =
    let none : position (λ (n : Named). is_same c.args.old.now n.id) c.args.named.now.items ≡ None = search rules in
    sym (made_nowhere (λ (n : Named). is_same c.args.old.now n.id) (under_id (arc_value c.args.new)) nameless c.args.named.now.items none)

pub returns : goal.returns
returns c =
    let some : position (λ (n : Named). is_same c.args.old.now n.id) c.args.named.now.items ≡ Some c.in-Some.place = search rules in
    let one : c.index.result.now ≡ slice_index_or c.args.named.now.items c.in-Some.place c.index.result.now = search rules in
    ap (slice_set c.args.named.now.items c.in-Some.place) (c.under.ensures ∙ ap (under_id (arc_value c.args.new)) one)
    ∙ sym (made_found (λ (n : Named). is_same c.args.old.now n.id) (under_id (arc_value c.args.new)) c.index.result.now c.args.named.now.items c.in-Some.place some)
