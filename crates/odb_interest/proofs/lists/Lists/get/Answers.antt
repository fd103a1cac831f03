use Rattle.std.proofs.Common.{rules, ◌≡◌, Some, None, sym, ap, ◌∙◌}
use Rattle.std.specs.BTreeMap as tree
use Rattle.std.specs.Ordering.{nat_cmp}
use Rattle.odb_interest.specs.Keys.{Interests, asked_at}
use Rattle.odb_interest.proofs.Asking.{Listed, asked-lists, items_of}
use Rattle.odb_interest.proofs.lists.Lists.get.Goals as goal

pub returns-in-Some : goal.returns-in-Some
returns-in-Some c =
    let list : Listed = c.in-Some.list.now in
    let found : Some list ≡ tree.get nat_cmp c.self.inside.lists c.args.session = search rules in
    c.as_slice.ensures.value ∙ ap items_of found ∙ sym (asked-lists c.self.inside.lists c.args.session) ∙ ap (λ (v : Interests). asked_at v c.args.session) c.self.view_is

pub returns-in-None : goal.returns-in-None
returns-in-None c =
    let none : None ≡ tree.get nat_cmp c.self.inside.lists c.args.session = search rules in
    ap items_of none ∙ sym (asked-lists c.self.inside.lists c.args.session) ∙ ap (λ (v : Interests). asked_at v c.args.session) c.self.view_is
