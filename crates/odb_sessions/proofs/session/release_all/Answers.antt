use Rattle.std.proofs.Common.{rules, ◌≡◌, List, [], ◌∷◌, ◌++◌, flat_map, length, subst, sym, ◌∙◌}
use Rattle.std.proofs.lemmas.List.{nil_from_length}
use Rattle.odb_chain.specs.Chains.{Mark}
use Rattle.odb_sessions.specs.Marked.{MarkedMonitor, marks_in}
use Rattle.odb_sessions.specs.Tied.{Frees, HasAll}
use Rattle.odb_sessions.proofs.Releases.{frees_none, frees_on, has-left, has-rest}
use Rattle.odb_sessions.proofs.session.release_all.Goals as goal

pub loop-monitor-init : goal.loop-monitor-init
loop-monitor-init c =
    let all : c.into_iter-monitor-iterator.result.rest.items ≡ c.args.monitors.items = search rules in
    record {
      has = subst (λ (hs : List MarkedMonitor). HasAll c.args.past.now (flat_map marks_in hs)) (sym all) c.requires;
      frees = λ k f. f;
    }

pub release-requires : goal.release-requires
release-requires c =
    let old = c.loop-monitor in
    let h : MarkedMonitor = c.in-Some.monitor in
    let step : old.monitor-iterator.rest.items ≡ h ∷ c.next.new.self.rest.items = search rules in
    has-left old.past (marks_in h) (flat_map marks_in c.next.new.self.rest.items) (subst (λ (hs : List MarkedMonitor). HasAll old.past (flat_map marks_in hs)) step old.invariant.has)

pub loop-monitor-preserved : goal.loop-monitor-preserved
loop-monitor-preserved c =
    let old = c.loop-monitor in
    let h : MarkedMonitor = c.in-Some.monitor in
    let rest : List Mark = flat_map marks_in c.next.new.self.rest.items in
    let step : old.monitor-iterator.rest.items ≡ h ∷ c.next.new.self.rest.items = search rules in
    let has : HasAll old.past (marks_in h ++ rest) = subst (λ (hs : List MarkedMonitor). HasAll old.past (flat_map marks_in hs)) step old.invariant.has in
    record {
      has = has-rest old.past c.release.new.past (marks_in h) rest has c.release.ensures;
      frees = λ k f. old.invariant.frees k (subst (λ (hs : List MarkedMonitor). Frees old.past k (flat_map marks_in hs)) (sym step) (frees_on old.past c.release.new.past k (marks_in h) rest c.release.ensures f));
    }

pub returns : goal.returns
returns c =
    let old = c.loop-monitor in
    let all : c.into_iter-monitor-iterator.result.rest.items ≡ c.args.monitors.items = search rules in
    let long : length old.monitor-iterator.rest.items ≡ old.monitor-iterator.rest.len = search rules in
    let none : old.monitor-iterator.rest.items ≡ [] = nil_from_length old.monitor-iterator.rest.items (long ∙ c.in-None.ensures.steps.0) in
    subst (λ (hs : List MarkedMonitor). Frees c.args.past.now old.past (flat_map marks_in hs)) all (old.invariant.frees old.past (subst (λ (hs : List MarkedMonitor). Frees old.past old.past (flat_map marks_in hs)) (sym none) (frees_none old.past)))
