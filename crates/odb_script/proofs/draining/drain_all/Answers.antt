use Rattle.std.proofs.Common.{rules, ◌≡◌, ℕ, List, [], drop, ap, subst, sym, ◌∙◌}
use Rattle.std.proofs.lemmas.List.{drop_all}
use Rattle.std.specs.BTreeSet.{BTreeSet}
use Rattle.std.specs.List.Sorted.{IsStrictlySortedBy}
use Rattle.std.specs.Ordering.{nat_cmp}
use Rattle.odb_service.specs.Server.{Server}
use Rattle.odb_script.specs.Script.{ScriptSession}
use Rattle.odb_script.specs.Represented.Draining.{found_drained}
use Rattle.odb_script.proofs.OwedDrains.{drained_by_number}
use Rattle.odb_script.proofs.draining.drain_all.Goals as goal

pub returns-clause-done : goal.returns-clause-done
returns-clause-done c =
    let xs : List ScriptSession = c.args.sessions.now in
    let set : BTreeSet ℕ = c.owed.result.now in
    let p : Server × List ℕ = (c.args.core.now, c.args.text.now.items) in
    let q : Server × List ℕ = (c.loop-number.core, c.loop-number.text.items) in
    let numbers : c.in_ok-owed.owed.items ≡ set.keys = search rules in
    let rising : IsStrictlySortedBy nat_cmp c.in_ok-owed.owed.items = search rules in
    let listed : c.deref-number-items.result.now ≡ c.in_ok-owed.owed.items = search rules in
    let none : drop c.loop-number.number-index c.deref-number-items.result.now ≡ [] = drop_all c.loop-number.number-index c.deref-number-items.result.now c.loop-number-test.false in
    drained_by_number set xs p c.owed.ensures c.requires (subst (IsStrictlySortedBy nat_cmp) numbers rising)
    ∙ ap (λ ks. found_drained ks xs p) (sym (listed ∙ numbers))
    ∙ c.loop-number.invariant.0
    ∙ ap (λ ks. found_drained ks xs q) none
