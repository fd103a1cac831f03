use Rattle.std.proofs.Common.{rules, ◌≡◌, ◌<◌, ◌≤◌, List, [], length, get_or, slice_get, slice_set, IsSome, Some, None, cond, refl, sym, ap, subst, ◌∙◌}
use Rattle.std.proofs.lemmas.Option.{slice_get_past, slice_get_read}
use Rattle.std.specs.BTreeMap as tree
use Rattle.std.specs.Option.{IfSome}
use Rattle.std.specs.Ordering.{nat_cmp}
use Rattle.std.specs.Prelude.{◌==◌}
use Rattle.std.specs.Vec.{with_item}
use Rattle.odb_interest.specs.Keys.{Asked, Interests, asked_at}
use Rattle.odb_interest.specs.Represented.Lists.{lists_in, with_filter}
use Rattle.odb_interest.proofs.Agreeing.{past_last, put_filter}
use Rattle.odb_interest.proofs.Asking.{Listed, asked-kept, asked-lists, asked-now, asks_kept, items_of}
use Rattle.odb_interest.proofs.lists.Lists.put.Goals as goal

pub returns-in_default : goal.returns-in_default
returns-in_default c =
    let m = c.self.inside.lists in
    let session = c.args.session in
    let v = c.args.self.now in
    let f = c.args.asked.1 in
    let none : None ≡ tree.get nat_cmp m session = search rules in
    let empty : asked_at v session ≡ [] = ap (λ (w : Interests). asked_at w session) (sym c.self.view_is) ∙ asked-lists m session ∙ sym (ap items_of none) in
    λ s.
    ap (λ z. asked_at (lists_in z) s) c.get_mut.follows.holds-at-none ∙ ap (λ (w : Interests). asked_at w s) c.self.view_is
    ∙ asks_kept session v (with_filter (asked_at v session) c.args.place f) (empty ∙ ap (λ fs. with_filter fs c.args.place f) (sym empty)) s

pub returns-in_default-get_mut : goal.returns-in_default-get_mut
returns-in_default-get_mut c =
    let m = c.self.inside.lists in
    let session = c.args.session in
    let v = c.args.self.now in
    let f = c.args.asked.1 in
    let x : Listed = c.in-Some.list.now in
    let n = c.get_mut.follows.lender x in
    let found : Some x ≡ tree.get nat_cmp m session = search rules in
    let was : x.items ≡ asked_at v session = ap items_of found ∙ sym (asked-lists m session) ∙ ap (λ (w : Interests). asked_at w session) c.self.view_is in
    let past : length x.items ≤ c.args.place = search rules in
    let gone : slice_get x.items c.args.place ≡ None = slice_get_past x.items c.args.place past in
    λ s.
    asked-kept session m n x x found ((c.get_mut.follows.holds x).3 (subst IsSome found refl)) refl s ∙ ap (λ (w : Interests). asked_at w s) c.self.view_is
    ∙ asks_kept session v (with_filter (asked_at v session) c.args.place f) (sym (past_last (asked_at v session) c.args.place f (ap (λ (fs : List Asked). slice_get fs c.args.place) (sym was) ∙ gone))) s

pub returns : goal.returns
returns c =
    let m = c.self.inside.lists in
    let session = c.args.session in
    let v = c.args.self.now in
    let a : Asked = c.args.asked in
    let x : Listed = c.in-Some.list.now in
    let there : Asked = c.in-Some-get_mut.there.now in
    let found : Some x ≡ tree.get nat_cmp m session = search rules in
    let was : x.items ≡ asked_at v session = ap items_of found ∙ sym (asked-lists m session) ∙ ap (λ (w : Interests). asked_at w session) c.self.view_is in
    let y : Listed = with_item x c.args.place a in
    let n = c.get_mut.follows.lender y in
    let low : c.args.place < length x.items = search rules in
    let is : there ≡ get_or x.items c.args.place there = search rules in
    let at : slice_get (asked_at v session) c.args.place ≡ Some there = ap (λ (fs : List Asked). slice_get fs c.args.place) (sym was) ∙ slice_get_read x.items (length x.items) c.args.place there refl low is in
    let table : there.0 ≡ a.0 = subst (λ o. IfSome o (λ (b : Asked). b.0 ≡ a.0)) at c.requires in
    let put : y.items ≡ with_filter (asked_at v session) c.args.place a.1 = ap (λ (fs : List Asked). slice_set fs c.args.place a) was ∙ put_filter (asked_at v session) c.args.place a there at table in
    λ s.
    asked-now session m n (Some y) ((c.get_mut.follows.holds y).3 (subst IsSome found refl)) s
    ∙ (λ i. cond (session == s) (put i) (asked_at (c.self.view_is i) s))
