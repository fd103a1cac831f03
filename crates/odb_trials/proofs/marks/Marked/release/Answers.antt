use Rattle.std.proofs.Common.{rules, ◌≡◌, ◌<◌, length, slice_index_or, subst, sym}
use Rattle.odb_chain.specs.Chains.{Chains}
use Rattle.odb_trials.proofs.MarkLists.{each_live, one_fewer}
use Rattle.odb_trials.proofs.marks.Marked.release.Goals as goal

pub release-requires : goal.release-requires
release-requires c =
    let ms = c.self.inside.marks.items in
    let low : c.args.place < length ms = search rules in
    let at : c.remove-mark.result ≡ slice_index_or ms c.args.place c.remove-mark.result = c.remove-mark.ensures.value in
    each_live c.self.inside.chains ms c.args.place c.remove-mark.result low at c.self.invariant.2.0

pub invariant_of-self : goal.invariant_of-self
invariant_of-self c =
    let ms = c.self.inside.marks.items in
    let low : c.args.place < length ms = search rules in
    let is = c.release.ensures.chains in (
      subst (λ (x : Chains). 0 < length x.db) (sym is) c.self.invariant.0,
      c.release.ensures.now,
      one_fewer c.self.inside.chains c.release.new.self ms c.remove-mark.new.self.items c.args.place c.remove-mark.result low c.remove-mark.ensures.value c.remove-mark.ensures.by_index.2 is c.release.ensures.now c.self.invariant.2,
    )
