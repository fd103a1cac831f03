use Rattle.std.proofs.Common.{sym, ap, ◌∙◌}
use Rattle.std.proofs.lemmas.List.{take_all}
use Rattle.std.specs.List.{list_any}
use Rattle.odb_atoms.proofs.Lists.{any-map}
use Rattle.odb_cond.specs.Filter.{member_holds}
use Rattle.odb_cond.specs.Represented.Filter.{member_of}
use Rattle.odb_cond.specs.Represented.Prepared.{some_holds}
use Rattle.odb_cond.proofs.filter.Filter.append_lacking.Goals as goal

pub returns : goal.returns
returns c = λ u r none.
    let all = c.self.inside.members.items in
    let items = c.deref-member-items.result.now in
    let end = take_all c.loop-member.member-index items c.loop-member-test.false in
    let whole = end ∙ c.deref-member-items.ensures.value in
    let past = c.loop-member.invariant u r none in
    (past.0, λ some. past.1 (ap (some_holds u r) whole ∙ sym (any-map (member_holds u r) member_of all) ∙ ap (list_any (member_holds u r)) c.self.view_is ∙ some))
