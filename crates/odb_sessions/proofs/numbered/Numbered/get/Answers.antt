use Rattle.std.proofs.Common.{rules, ◌≡◌, Some, None, sym, ap, ◌∙◌}
use Rattle.std.specs.Option.{option_copied}
use Rattle.odb_atoms.specs.FinMap as finite
use Rattle.odb_sessions.specs.Marked.{Sessions}
use Rattle.odb_sessions.specs.Represented.Keyed.{key_of}
use Rattle.odb_sessions.proofs.Keyed.{get-at, get-nowhere}
use Rattle.odb_sessions.proofs.numbered.Numbered.get.Goals as goal

pub returns-in_err-key : goal.returns-in_err-key
returns-in_err-key c =
    let none : key_of c.self.inside.keys.entries c.args.number ≡ None = search rules in
    ap option_copied c.from_residual.ensures ∙ sym (get-nowhere c.self.inside.keys.entries c.self.inside.sessions.slots c.args.number none)
    ∙ ap (λ (m : Sessions). finite.get m c.args.number) c.self.view_is

pub returns : goal.returns
returns c =
    let at : key_of c.self.inside.keys.entries c.args.number ≡ Some c.in_ok-key.key.now = search rules in
    c.get-2.ensures ∙ sym (get-at c.self.inside.keys.entries c.self.inside.sessions.slots c.args.number c.in_ok-key.key.now at)
    ∙ ap (λ (m : Sessions). finite.get m c.args.number) c.self.view_is
