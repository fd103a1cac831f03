use Rattle.std.proofs.Common.{rules, arith, ◌≡◌, ◌≤◌, List, [], ◌∷◌, ◌++◌, drop, length, length-append, subst, sym, ap, ◌∙◌}
use Rattle.std.proofs.lemmas.List.{drop-append-le}
use Rattle.odb_chain.specs.Represented.Log.{AllUpTo, AreInOrder, Recorded, is_recorded}
use Rattle.odb_chain.proofs.Recorded.{noted_here, noted_pushed, order_pushed, up_to_later, up_to_pushed}
use Rattle.odb_chain.proofs.log.Log.record.Goals as goal

pub invariant_of-self : goal.invariant_of-self
invariant_of-self c =
    let old : List Recorded = c.self.inside.recorded.items in
    let as_it_was : c.push.new.self.items ≡ old = search rules in (
      subst AreInOrder (sym as_it_was) c.self.invariant.0,
      subst (AllUpTo c.later-version.result) (sym as_it_was) (up_to_later c.self.inside.latest c.later-version.result old c.later-version.ensures.first c.self.invariant.1),
      subst (λ xs. c.self.inside.done ≤ length xs) (sym as_it_was) c.self.invariant.2,
    )

pub invariant_of-self-2 : goal.invariant_of-self-2
invariant_of-self-2 c =
    let old : List Recorded = c.self.inside.recorded.items in
    let x : Recorded = (c.later-version.result, c.args.key) in
    let grown : c.push.new.self.items ≡ old ++ x ∷ [] = search rules in
    let up : AllUpTo c.later-version.result old = up_to_later c.self.inside.latest c.later-version.result old c.later-version.ensures.first c.self.invariant.1 in
    let low : c.self.inside.done ≤ length old = c.self.invariant.2 in
    let longer : c.self.inside.done ≤ length (old ++ x ∷ []) = omega (arith, low, length-append old (x ∷ [])) in (
      subst AreInOrder (sym grown) (order_pushed old x c.self.invariant.0 up),
      subst (AllUpTo c.later-version.result) (sym grown) (up_to_pushed c.later-version.result old x up (search rules)),
      subst (λ xs. c.self.inside.done ≤ length xs) (sym grown) longer,
    )

pub returns-in_err-push-clause-still : goal.returns-in_err-push-clause-still
returns-in_err-push-clause-still c = λ p u there.
    let as_it_was : c.push.new.self.items ≡ c.self.inside.recorded.items = search rules in
    ap (is_recorded p u) (ap (drop c.self.inside.done) as_it_was ∙ c.self.view_is) ∙ there

pub returns-clause-ok : goal.returns-clause-ok
returns-clause-ok c =
    let old : List Recorded = c.self.inside.recorded.items in
    let d = c.self.inside.done in
    let x : Recorded = (c.later-version.result, c.args.key) in
    let grown : c.push.new.self.items ≡ old ++ x ∷ [] = search rules in
    ap (is_recorded c.args.version c.args.key) (ap (drop d) grown ∙ drop-append-le d old (x ∷ []) c.self.invariant.2)
    ∙ noted_here c.args.version c.later-version.result c.args.key (drop d old) c.later-version.ensures.second

pub returns-clause-still : goal.returns-clause-still
returns-clause-still c = λ p u there.
    let old : List Recorded = c.self.inside.recorded.items in
    let d = c.self.inside.done in
    let x : Recorded = (c.later-version.result, c.args.key) in
    let grown : c.push.new.self.items ≡ old ++ x ∷ [] = search rules in
    ap (is_recorded p u) (ap (drop d) grown ∙ drop-append-le d old (x ∷ []) c.self.invariant.2)
    ∙ noted_pushed p u (drop d old) x (ap (is_recorded p u) c.self.view_is ∙ there)
