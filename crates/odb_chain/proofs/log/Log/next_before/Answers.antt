use Rattle.std.proofs.Common.{rules, arith, ◌≡◌, ◌+◌, ◌<◌, ◌≤◌, List, ◌∷◌, drop, get_or, length, nat_lt, true, subst, sym, ap, ◌∙◌}
use Rattle.std.proofs.lemmas.Bool.Decides.{nat_tests}
use Rattle.std.proofs.lemmas.List.{drop_more}
use Rattle.odb_chain.specs.Represented.Log.{AllFrom, AreInOrder, Recorded}
use Rattle.odb_chain.proofs.Recorded.{first_from, order_dropped}
use Rattle.odb_chain.proofs.log.Log.next_before.Goals as goal

pub returns-clause-some : goal.returns-clause-some
returns-clause-some c =
    let ns : List Recorded = c.self.inside.recorded.items in
    let d = c.self.inside.done in
    let n : Recorded = (c.entry.inside.version, c.entry.inside.key) in
    let low : d < length ns = search rules in
    let late : nat_lt n.0 c.args.version ≡ true = grind (arith, nat_tests) in
    let at : get_or ns d n ≡ n = search rules in
    (n.0, late, sym c.self.view_is ∙ drop_more ns d n low ∙ ap (λ x. x ∷ drop (d + 1) ns) at)

pub returns-then-version-entry-clause-from : goal.returns-then-version-entry-clause-from
returns-then-version-entry-clause-from c =
    let ns : List Recorded = c.self.inside.recorded.items in
    let d = c.self.inside.done in
    let n : Recorded = (c.entry.inside.version, c.entry.inside.key) in
    let low : d < length ns = search rules in
    let from : c.args.version ≤ n.0 = search rules in
    let at : get_or ns d n ≡ n = search rules in
    let is : drop d ns ≡ n ∷ drop (d + 1) ns = drop_more ns d n low ∙ ap (λ x. x ∷ drop (d + 1) ns) at in
    subst (AllFrom c.args.version) (sym is ∙ c.self.view_is) (first_from c.args.version n (drop (d + 1) ns) from (subst AreInOrder is (order_dropped d ns c.self.invariant.0)))
