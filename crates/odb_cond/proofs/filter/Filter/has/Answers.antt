use Rattle.std.proofs.Common.{◌≡◌, true, sym, subst, ◌∙◌}
use Rattle.std.specs.List.{list_any}
use Rattle.odb_atoms.proofs.Lists.{any-map}
use Rattle.odb_cond.specs.Filter.{member_holds}
use Rattle.odb_cond.specs.Represented.Filter.{member_of}
use Rattle.odb_cond.specs.Represented.Prepared.{finds}
use Rattle.odb_cond.proofs.filter.Filter.has.Goals as goal

pub returns : goal.returns
returns c = λ found u r holds.
    let a = c.self.inside in
    let there : finds u r a.members.items a.prepared ≡ true = subst (λ ms. finds u r ms a.prepared ≡ true) c.deref.ensures.value (c.has.ensures found u r holds) in
    subst (λ f. list_any (member_holds u r) f ≡ true) c.self.view_is
    (any-map (member_holds u r) member_of a.members.items ∙ sym (c.self.invariant u r) ∙ there)
