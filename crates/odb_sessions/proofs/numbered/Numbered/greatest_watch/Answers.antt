use Rattle.std.proofs.Common.{rules, ◌≡◌, ℕ, ◌≤◌, arith, List, [], ◌∷◌, Option, Some, None, subst, sym, ap, ◌∙◌}
use Rattle.std.proofs.lemmas.Option.{none-some, same_Some}
use Rattle.odb_atoms.specs.FinMap as finite
use Rattle.odb_sessions.specs.Marked.{MarkedSession, Sessions}
use Rattle.odb_sessions.specs.Represented.Keyed.{session_under}
use Rattle.odb_sessions.proofs.WatchBounds.{Bounds, bounds_all, bounds_on, keys_in, within_all}
use Rattle.odb_sessions.proofs.numbered.Numbered.greatest_watch.Goals as goal

pub loop-key-init : goal.loop-key-init
loop-key-init c = λ b low h. h

pub loop-key-preserved-in-Some-get : goal.loop-key-preserved-in-Some-get
loop-key-preserved-in-Some-get c =
    let old = c.loop-key in
    let slots : List (Option MarkedSession) = c.self.inside.sessions.slots in
    let all : List (ℕ × ℕ) = c.into_iter-key-iterator.result in
    let rest : List (ℕ × ℕ) = c.next.new.self in
    let k : ℕ = c.in-Some.key.now in
    let step : keys_in old.key-iterator ≡ k ∷ keys_in rest = ap keys_in c.in-Some.ensures.steps in
    let y : MarkedSession = c.in-Some-get.session.now in
    let there : session_under slots k ≡ Some y = search rules in
    let up : old.greatest ≤ c.greater-greatest.result = search rules in
    let low : c.watch_number.result ≤ c.greater-greatest.result = search rules in
    bounds_on slots all old.key-iterator rest k old.greatest c.greater-greatest.result step old.invariant up
    (λ n x at is. let own : c.watch_number.result ≡ n = c.watch_number.ensures n (ap (λ (z : MarkedSession). z.watch) (same_Some y x (sym there ∙ at)) ∙ is) in omega (arith, own, low))

pub loop-key-preserved : goal.loop-key-preserved
loop-key-preserved c =
    let old = c.loop-key in
    let slots : List (Option MarkedSession) = c.self.inside.sessions.slots in
    let all : List (ℕ × ℕ) = c.into_iter-key-iterator.result in
    let rest : List (ℕ × ℕ) = c.next.new.self in
    let k : ℕ = c.in-Some.key.now in
    let step : keys_in old.key-iterator ≡ k ∷ keys_in rest = ap keys_in c.in-Some.ensures.steps in
    let none : session_under slots k ≡ None = search rules in
    bounds_on slots all old.key-iterator rest k old.greatest old.greatest step old.invariant (omega arith)
    (λ n x at is. absurd (none-some x (sym none ∙ at)))

pub returns : goal.returns
returns c = λ s n x there is.
    let old = c.loop-key in
    let index : List (ℕ × ℕ) = c.self.inside.keys.entries in
    let slots : List (Option MarkedSession) = c.self.inside.sessions.slots in
    let all : c.into_iter-key-iterator.result ≡ index = search rules in
    let none : old.key-iterator ≡ [] = c.in-None.ensures.steps.0 in
    let bounds : Bounds slots index old.greatest old.key-iterator = subst (λ (es : List (ℕ × ℕ)). Bounds slots es old.greatest old.key-iterator) all old.invariant in
    within_all index slots old.greatest (bounds_all slots index old.key-iterator old.greatest none bounds) s n x (ap (λ (m : Sessions). finite.get m s) c.self.view_is ∙ there) is
