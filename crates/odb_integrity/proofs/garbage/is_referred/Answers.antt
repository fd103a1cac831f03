use Rattle.std.proofs.Common.{rules, ◌≡◌, ◌<◌, length, slice_index_or, subst, sym, ◌∙◌}
use Rattle.std.proofs.lemmas.List.{take_all}
use Rattle.odb_atoms.proofs.Lists.{Member}
use Rattle.odb_integrity.proofs.Referring.{IsUnused, each_more, none_refers}
use Rattle.odb_integrity.proofs.garbage.is_referred.Goals as goal

pub loop-reference-init : goal.loop-reference-init
loop-reference-init c f m = absurd m

pub loop-reference-preserved : goal.loop-reference-preserved
loop-reference-preserved c =
    let fs = c.args.references.now in
    let i = c.loop-reference.reference-index in
    let f = c.reference-item.result in
    let inside : i < length fs = search rules in
    let is : f ≡ slice_index_or fs i f = search rules in
    each_more (IsUnused c.args.schema.now c.args.draft.now.now c.args.row) fs i f inside is c.loop-reference.invariant (c.in_ok-is_referred_by.ensures.none c.if-branch.false)

pub returns-then-branch : goal.returns-then-branch
returns-then-branch c = sym (c.in_ok-is_referred_by.ensures.found c.if-branch.true)

pub returns : goal.returns
returns c =
    let all = take_all c.loop-reference.reference-index c.args.references.now (search rules) in
    sym (none_refers c.args.schema.now c.args.draft.now.now c.args.row (λ f m. c.loop-reference.invariant f (subst (Member f) (sym (all ∙ c.requires)) m)))
