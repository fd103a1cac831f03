use Rattle.std.proofs.Common.{rules, ◌≡◌, List, [], ◌∷◌, ◌++◌, flat_map, subst, sym}
use Rattle.odb_chain.specs.Chains.{Mark}
use Rattle.odb_sessions.specs.Marked.{MarkedItem, marks_due}
use Rattle.odb_sessions.specs.Represented.Item.{marked_item_of}
use Rattle.odb_sessions.specs.Tied.{Frees, HasAll}
use Rattle.odb_sessions.proofs.Releases.{frees_none, frees_on, has-left, has-rest}
use Rattle.odb_sessions.proofs.queue.Queue.release.Goals as goal

pub loop-item-init : goal.loop-item-init
loop-item-init c = record {
  has = c.requires;
  frees = λ k f. f;
}

pub release-requires : goal.release-requires
release-requires c =
    let old = c.loop-item in
    let q : MarkedItem = marked_item_of c.in-Some.item in
    let step : old.queue ≡ q ∷ c.pop.new.self = search rules in
    has-left old.past (marks_due q) (flat_map marks_due c.pop.new.self) (subst (λ (qs : List MarkedItem). HasAll old.past (flat_map marks_due qs)) step old.invariant.has)

pub loop-item-preserved : goal.loop-item-preserved
loop-item-preserved c =
    let old = c.loop-item in
    let q : MarkedItem = marked_item_of c.in-Some.item in
    let rest : List Mark = flat_map marks_due c.pop.new.self in
    let step : old.queue ≡ q ∷ c.pop.new.self = search rules in
    let has : HasAll old.past (marks_due q ++ rest) = subst (λ (qs : List MarkedItem). HasAll old.past (flat_map marks_due qs)) step old.invariant.has in
    record {
      has = has-rest old.past c.release.new.past (marks_due q) rest has c.release.ensures;
      frees = λ k f. old.invariant.frees k (subst (λ (qs : List MarkedItem). Frees old.past k (flat_map marks_due qs)) (sym step) (frees_on old.past c.release.new.past k (marks_due q) rest c.release.ensures f));
    }

pub returns : goal.returns
returns c =
    let old = c.loop-item in
    let none : old.queue ≡ [] = search rules in
    old.invariant.frees old.past (subst (λ (qs : List MarkedItem). Frees old.past old.past (flat_map marks_due qs)) (sym none) (frees_none old.past))
