use Rattle.std.proofs.Common.{rules, ◌≡◌, List, [], ◌∷◌, ◌++◌, IsSome, Some, None, cond, refl, sym, ap, subst, ◌∙◌}
use Rattle.std.specs.BTreeMap as tree
use Rattle.std.specs.Ordering.{nat_cmp}
use Rattle.std.specs.Prelude.{◌==◌}
use Rattle.odb_interest.specs.Keys.{Asked, Interests, asked_at}
use Rattle.odb_interest.proofs.Asking.{Listed, asked-kept, asked-lists, asked-now, items_of}
use Rattle.odb_interest.proofs.Booleans.{whatever}
use Rattle.odb_interest.proofs.lists.Lists.push.Goals as goal

pub returns-in_err-push-clause-err : goal.returns-in_err-push-clause-err
returns-in_err-push-clause-err c =
    let m = c.self.inside.lists in
    let x : Listed = c.in-Some.list.now in
    let y : Listed = c.push.new.self in
    let n = c.get_mut.follows.lender y in
    let found : Some x ≡ tree.get nat_cmp m c.args.session = search rules in
    let same : y.items ≡ x.items = search rules in
    whatever _ c.from_residual.result
    (λ s. asked-kept c.args.session m n x y found ((c.get_mut.follows.holds y).3 (subst IsSome found refl)) same s ∙ ap (λ (v : Interests). asked_at v s) c.self.view_is)

pub returns-in-Some-clause-ok : goal.returns-in-Some-clause-ok
returns-in-Some-clause-ok c =
    let m = c.self.inside.lists in
    let session = c.args.session in
    let x : Listed = c.in-Some.list.now in
    let y : Listed = c.push.new.self in
    let n = c.get_mut.follows.lender y in
    let found : Some x ≡ tree.get nat_cmp m session = search rules in
    let longer : y.items ≡ x.items ++ c.args.asked ∷ [] = search rules in
    let was : x.items ≡ asked_at c.args.self.now session = ap items_of found ∙ sym (asked-lists m session) ∙ ap (λ (v : Interests). asked_at v session) c.self.view_is in
    λ s.
    asked-now session m n (Some y) ((c.get_mut.follows.holds y).3 (subst IsSome found refl)) s
    ∙ (λ i. cond (session == s) ((longer ∙ ap (λ (fs : List Asked). fs ++ c.args.asked ∷ []) was) i) (asked_at (c.self.view_is i) s))

pub returns-clause-ok : goal.returns-clause-ok
returns-clause-ok c =
    let m = c.self.inside.lists in
    let m' = c.get_mut.follows.lender-at-none in
    let session = c.args.session in
    let y : Listed = c.push-2.new.self in
    let n = c.insert.new.self in
    let none : None ≡ tree.get nat_cmp m session = search rules in
    let one : y.items ≡ c.args.asked ∷ [] = search rules in
    let was : [] ≡ asked_at c.args.self.now session = ap items_of none ∙ sym (asked-lists m session) ∙ ap (λ (v : Interests). asked_at v session) c.self.view_is in
    let changed : tree.UpdatesBy nat_cmp (nat_cmp session) m' n (Some y) = search rules in
    let same : m' ≡ m = c.get_mut.follows.holds-at-none in
    λ s.
    asked-now session m n (Some y) (subst (λ z. tree.UpdatesBy nat_cmp (nat_cmp session) z n (Some y)) same changed) s
    ∙ (λ i. cond (session == s) ((one ∙ ap (λ (fs : List Asked). fs ++ c.args.asked ∷ []) was) i) (asked_at (c.self.view_is i) s))
