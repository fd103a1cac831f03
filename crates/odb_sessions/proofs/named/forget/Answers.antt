use Rattle.std.proofs.Common.{rules, ◌≡◌, Some, None, position, sym, ◌∙◌}
use Rattle.std.specs.List.{remove}
use Rattle.odb_sessions.specs.Asked.{is_same}
use Rattle.odb_sessions.specs.Named.{Named}
use Rattle.odb_sessions.proofs.NamedReplays.{gone_found, gone_nowhere}
use Rattle.odb_sessions.proofs.named.forget.Goals as goal

pub returns-in_default : goal.returns-in_default
returns-in_default c =
    let none : position (λ (n : Named). is_same c.args.id.now n.id) c.args.named.now.items ≡ None = search rules in
    sym (gone_nowhere (λ (n : Named). is_same c.args.id.now n.id) c.args.named.now.items none)

pub returns : goal.returns
returns c =
    let taken : c.remove.new.self.items ≡ remove c.args.named.now.items c.in-Some.place = search rules in
    let some : position (λ (n : Named). is_same c.args.id.now n.id) c.args.named.now.items ≡ Some c.in-Some.place = search rules in
    taken ∙ sym (gone_found (λ (n : Named). is_same c.args.id.now n.id) c.args.named.now.items c.in-Some.place some)
