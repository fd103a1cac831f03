use Rattle.std.proofs.Common.{rules, ◌≡◌, ℕ, List, Option, Some, is_some, sym, ap, ◌∙◌}
use Rattle.odb_atoms.specs.FinMap as finite
use Rattle.odb_sessions.specs.Marked.{MarkedSession, Sessions}
use Rattle.odb_sessions.specs.Represented.Keyed.{session_under}
use Rattle.odb_sessions.proofs.Keyed.{get-at}
use Rattle.odb_sessions.proofs.Options.{if_some_weaker}
use Rattle.odb_sessions.proofs.WatchNumbers.{joins_like}
use Rattle.odb_sessions.proofs.numbered.Numbered.watch_if_like.Goals as goal

pub returns : goal.returns
returns c =
    let other : MarkedSession = c.in-Some.other.now in
    let index : List (ℕ × ℕ) = c.self.inside.keys.entries in
    let slots : List (Option MarkedSession) = c.self.inside.sessions.slots in
    let lies : session_under slots c.args.key ≡ Some other = search rules in
    let number = c.self.invariant.2 c.args.key (ap is_some lies) in
    let there : finite.get c.args.self.now number.0 ≡ Some other = ap (λ (m : Sessions). finite.get m number.0) (sym c.self.view_is) ∙ get-at index slots number.0 c.args.key number.1 ∙ lies in
    if_some_weaker c.watch_if_like.result _ _ (λ n like. joins_like c.args.self.now number.0 n other c.args.of.now c.requires there like.0 like.1) c.watch_if_like.ensures
