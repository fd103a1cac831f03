use borrow.Follows.Closed.{read_of}
use Rattle.std.proofs.Common.{rules, ◌≡◌, ℕ, List, Some, None, inr, sym, ap, ◌∙◌}
use Rattle.std.specs.Option.{ghost_name_of}
use Rattle.slab.specs.Slab.{with_value}
use Rattle.odb_atoms.specs.FinMap as finite
use Rattle.odb_sessions.specs.Marked.{MarkedSession, Sessions}
use Rattle.odb_sessions.specs.Represented.Keyed.{key_of, sessions_under}
use Rattle.odb_sessions.proofs.Keyed.{get-at, get-nowhere, view_written}
use Rattle.odb_sessions.proofs.numbered.Numbered.get_mut.Goals as goal

pub returns-in-Some : goal.returns-in-Some
returns-in-Some c =
    let index : List (ℕ × ℕ) = c.self.inside.keys.entries in
    let slab = c.self.inside.sessions in
    let s = c.args.number in
    let there : key_of index s ≡ Some c.in-Some.key = search rules in
    let written : (w : MarkedSession) → sessions_under index (with_value slab c.in-Some.key w).slots ≡ finite.insert c.args.self.now s w = λ w. view_written index slab s c.in-Some.key w there c.self.invariant ∙ ap (λ (m : Sessions). finite.insert m s w) c.self.view_is in (
      λ i. read_of (ghost_name_of c.get_mut.result) (λ w. written w i) (c.self.view_is i),
      record { writes_back = tt; value = c.get_mut.ensures.value ∙ sym (get-at index slab.slots s c.in-Some.key there) ∙ ap (λ (m : Sessions). finite.get m s) c.self.view_is },
    )

pub returns-in-None : goal.returns-in-None
returns-in-None c =
    let none : key_of c.self.inside.keys.entries c.args.number ≡ None = search rules in (
      λ i. inr (c.self.view_is i),
      record { writes_back = tt; value = sym (get-nowhere c.self.inside.keys.entries c.self.inside.sessions.slots c.args.number none) ∙ ap (λ (m : Sessions). finite.get m c.args.number) c.self.view_is },
    )
