use Rattle.std.proofs.Common.{rules, ◌≡◌, ◌<◌, ℕ, List, length, take, slice_get, IsSome, Some, None, refl, sym, ap, subst, ◌∙◌}
use Rattle.std.specs.BTreeMap as tree
use Rattle.std.specs.List.{All, remove}
use Rattle.std.specs.Ordering.{nat_cmp}
use Rattle.std.specs.Prelude.{◌≢◌, ◌==◌, [], cond}
use Rattle.odb_interest.specs.Keys.{Asked, Interests, asked_at}
use Rattle.odb_interest.specs.Represented.Asked.{LosesFirst}
use Rattle.odb_interest.specs.Represented.Lists.{Asks, lists_in}
use Rattle.odb_interest.proofs.Asking.{Listed, asked-kept, asked-lists, asked-now, asks_itself, asks_other, asks_same, items_of, none_lost, nothing_lost, one_lost}
use Rattle.odb_interest.proofs.lists.Lists.take.Goals as goal

pub returns-in_default-clause-taken : goal.returns-in_default-clause-taken
returns-in_default-clause-taken c =
    let m = c.self.inside.lists in
    let n = c.get_mut.follows.lender-at-none in
    let session = c.args.session in
    let x : Asked = (c.args.table, c.args.filter.now) in
    let none : None ≡ tree.get nat_cmp m session = search rules in
    let empty : asked_at c.args.self.now session ≡ [] = ap (λ (v : Interests). asked_at v session) (sym c.self.view_is) ∙ asked-lists m session ∙ sym (ap items_of none) in
    nothing_lost x (asked_at c.args.self.now session) (asked_at (lists_in n) session) empty (ap (λ z. asked_at (lists_in z) session) c.get_mut.follows.holds-at-none ∙ ap (λ (v : Interests). asked_at v session) c.self.view_is)

pub returns-in_default-place_of-clause-taken : goal.returns-in_default-place_of-clause-taken
returns-in_default-place_of-clause-taken c =
    let m = c.self.inside.lists in
    let session = c.args.session in
    let a : Asked = (c.args.table, c.args.filter.now) in
    let x : Listed = c.in-Some.list.now in
    let n = c.get_mut.follows.lender x in
    let found : Some x ≡ tree.get nat_cmp m session = search rules in
    let was : x.items ≡ asked_at c.args.self.now session = ap items_of found ∙ sym (asked-lists m session) ∙ ap (λ (v : Interests). asked_at v session) c.self.view_is in
    let absent : All (λ y. y ≢ a) c.as_slice.result.now = search rules in
    let missing : All (λ y. y ≢ a) (asked_at c.args.self.now session) = subst (All (λ y. y ≢ a)) (c.as_slice.ensures.value ∙ was) absent in
    none_lost a (asked_at c.args.self.now session) (asked_at (lists_in n) session)
    (asked-kept session m n x x found ((c.get_mut.follows.holds x).3 (subst IsSome found refl)) refl session ∙ ap (λ (v : Interests). asked_at v session) c.self.view_is)
    missing

pub returns-in_default-place_of-clause-others : goal.returns-in_default-place_of-clause-others
returns-in_default-place_of-clause-others c =
    let m = c.self.inside.lists in
    let session = c.args.session in
    let x : Listed = c.in-Some.list.now in
    let n = c.get_mut.follows.lender x in
    let found : Some x ≡ tree.get nat_cmp m session = search rules in
    asks_same session c.args.self.now (lists_in n)
    (λ s. asked-kept session m n x x found ((c.get_mut.follows.holds x).3 (subst IsSome found refl)) refl s ∙ ap (λ (v : Interests). asked_at v s) c.self.view_is)

pub returns-in_default-place_of-clause-none : goal.returns-in_default-place_of-clause-none
returns-in_default-place_of-clause-none c =
    let m = c.self.inside.lists in
    let session = c.args.session in
    let x : Listed = c.in-Some.list.now in
    let n = c.get_mut.follows.lender x in
    let found : Some x ≡ tree.get nat_cmp m session = search rules in
    λ s. asked-kept session m n x x found ((c.get_mut.follows.holds x).3 (subst IsSome found refl)) refl s ∙ ap (λ (v : Interests). asked_at v s) c.self.view_is

pub returns-clause-taken : goal.returns-clause-taken
returns-clause-taken c =
    let m = c.self.inside.lists in
    let session = c.args.session in
    let a : Asked = (c.args.table, c.args.filter.now) in
    let x : Listed = c.in-Some.list.now in
    let y : Listed = c.remove.new.self in
    let n = c.get_mut.follows.lender y in
    let k : ℕ = c.in-Some-place_of.place in
    let found : Some x ≡ tree.get nat_cmp m session = search rules in
    let was : x.items ≡ asked_at c.args.self.now session = ap items_of found ∙ sym (asked-lists m session) ∙ ap (λ (v : Interests). asked_at v session) c.self.view_is in
    let first : (k < length c.as_slice.result.now) × (slice_get c.as_slice.result.now k ≡ Some a) × All (λ y. y ≢ a) (take k c.as_slice.result.now) = search rules in
    let shorter : y.items ≡ remove x.items k = search rules in
    let asks : Asks (lists_in m) (lists_in n) session y.items = asked-now session m n (Some y) ((c.get_mut.follows.holds y).3 (subst IsSome found refl)) in
    let now : asked_at (lists_in n) session ≡ remove (asked_at c.args.self.now session) k = asks_itself session (lists_in m) (lists_in n) y.items asks ∙ shorter ∙ ap (λ (fs : List Asked). remove fs k) was in
    let there : (k < length (asked_at c.args.self.now session)) × (slice_get (asked_at c.args.self.now session) k ≡ Some a) × All (λ y. y ≢ a) (take k (asked_at c.args.self.now session)) =
    subst (λ (fs : List Asked). (k < length fs) × (slice_get fs k ≡ Some a) × All (λ y. y ≢ a) (take k fs)) (c.as_slice.ensures.value ∙ was) first in
    subst (LosesFirst a (asked_at c.args.self.now session)) (sym now) (one_lost a (asked_at c.args.self.now session) k there.0 there.1 there.2)

pub returns-clause-others : goal.returns-clause-others
returns-clause-others c =
    let m = c.self.inside.lists in
    let session = c.args.session in
    let x : Listed = c.in-Some.list.now in
    let y : Listed = c.remove.new.self in
    let n = c.get_mut.follows.lender y in
    let found : Some x ≡ tree.get nat_cmp m session = search rules in
    asks_other session c.args.self.now (lists_in n) y.items
    (λ s. asked-now session m n (Some y) ((c.get_mut.follows.holds y).3 (subst IsSome found refl)) s ∙ ap (λ (v : Interests). cond (session == s) y.items (asked_at v s)) c.self.view_is)
