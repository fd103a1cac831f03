use Rattle.std.proofs.Common.{rules, ◌≡◌, true, subst, ◌∙◌}
use Rattle.std.specs.List.{list_any}
use Rattle.odb_atoms.proofs.Lists.{any-map}
use Rattle.odb_cond.specs.Filter.{member_holds}
use Rattle.odb_cond.specs.Represented.Filter.{member_of}
use Rattle.odb_cond.specs.Represented.Prepared.{holds_at}
use Rattle.odb_cond.proofs.Lacking.{held_at}
use Rattle.odb_cond.proofs.filter.Filter.find_near.Goals as goal

pub returns-then-is_at : goal.returns-then-is_at
returns-then-is_at c = λ u r holds.
    let members = c.self.inside.members.items in
    let there : holds_at u r members c.loop-place.place ≡ true = search rules in
    subst (λ f. list_any (member_holds u r) f ≡ true) c.self.view_is
    (any-map (member_holds u r) member_of members ∙ held_at members c.loop-place.place u r there)
