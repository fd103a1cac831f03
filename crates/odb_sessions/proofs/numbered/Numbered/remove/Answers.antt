use Rattle.std.proofs.Common.{rules, ◌≡◌, Some, None, sym, ap, ◌∙◌}
use Rattle.odb_atoms.specs.FinMap as finite
use Rattle.odb_sessions.specs.Marked.{Sessions}
use Rattle.odb_sessions.specs.Represented.Keyed.{key_of, sessions_under}
use Rattle.odb_sessions.proofs.Keyed.{get-at, get-nowhere, keyed_removed, nothing_removed, view_removed}
use Rattle.odb_sessions.proofs.numbered.Numbered.remove.Goals as goal

pub returns-in_err-key-clause-session : goal.returns-in_err-key-clause-session
returns-in_err-key-clause-session c =
    let none : key_of c.self.inside.keys.entries c.args.number ≡ None = search rules in
    c.from_residual.ensures ∙ sym (get-nowhere c.self.inside.keys.entries c.self.inside.sessions.slots c.args.number none) ∙ ap (λ (m : Sessions). finite.get m c.args.number) c.self.view_is

pub returns-in_err-key-clause-sessions : goal.returns-in_err-key-clause-sessions
returns-in_err-key-clause-sessions c =
    let none : key_of c.self.inside.keys.entries c.args.number ≡ None = search rules in
    let same : c.remove.new.self.entries ≡ c.self.inside.keys.entries = search rules in
    ap (λ es. sessions_under es c.self.inside.sessions.slots) same ∙ c.self.view_is
    ∙ nothing_removed c.args.self.now c.args.number (ap (λ (m : Sessions). finite.get m c.args.number) (sym c.self.view_is) ∙ get-nowhere c.self.inside.keys.entries c.self.inside.sessions.slots c.args.number none)

pub invariant_of-self-2 : goal.invariant_of-self-2
invariant_of-self-2 c =
    let there : key_of c.self.inside.keys.entries c.args.number ≡ Some c.in_ok-key.key = search rules in
    keyed_removed c.self.inside.keys c.remove.new.self c.self.inside.sessions c.try_remove.new.self c.args.number c.in_ok-key.key there c.in_ok-key.ensures.updates c.try_remove.ensures.updates c.self.invariant

pub returns-clause-session : goal.returns-clause-session
returns-clause-session c =
    let there : key_of c.self.inside.keys.entries c.args.number ≡ Some c.in_ok-key.key = search rules in
    c.try_remove.ensures.value ∙ sym (get-at c.self.inside.keys.entries c.self.inside.sessions.slots c.args.number c.in_ok-key.key there) ∙ ap (λ (m : Sessions). finite.get m c.args.number) c.self.view_is

pub returns-clause-sessions : goal.returns-clause-sessions
returns-clause-sessions c =
    let there : key_of c.self.inside.keys.entries c.args.number ≡ Some c.in_ok-key.key = search rules in
    view_removed c.self.inside.keys c.remove.new.self c.self.inside.sessions c.try_remove.new.self c.args.number c.in_ok-key.key there c.in_ok-key.ensures.updates c.try_remove.ensures.updates c.self.invariant
    ∙ ap (λ (m : Sessions). finite.remove m c.args.number) c.self.view_is
