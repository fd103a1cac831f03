use Rattle.std.proofs.Common.{rules, ◌≡◌, List, [], ◌∷◌, ◌++◌, length, subst, sym, ◌∙◌}
use Rattle.std.proofs.lemmas.List.{nil_from_length}
use Rattle.odb_chain.specs.Chains.{Mark}
use Rattle.odb_sessions.specs.Marked.{Watched, table_marks}
use Rattle.odb_sessions.specs.Tied.{Frees, HasAll}
use Rattle.odb_sessions.proofs.Releases.{frees_none, frees_on, has-left, has-rest}
use Rattle.odb_sessions.proofs.monitor.release_all.Goals as goal

pub loop-table-init : goal.loop-table-init
loop-table-init c =
    let all : c.into_iter-table-iterator.result.rest.items ≡ c.args.tables.items = search rules in
    record {
      has = subst (λ (ws : List Watched). HasAll c.args.past.now (table_marks ws)) (sym all) c.requires;
      frees = λ k f. f;
    }

pub release-requires : goal.release-requires
release-requires c =
    let old = c.loop-table in
    let w : Watched = c.in-Some.table in
    let step : old.table-iterator.rest.items ≡ w ∷ c.next.new.self.rest.items = search rules in
    let has : HasAll old.past ((w.mark ∷ []) ++ table_marks c.next.new.self.rest.items) = subst (λ (ws : List Watched). HasAll old.past (table_marks ws)) step old.invariant.has in
    has-left old.past (w.mark ∷ []) (table_marks c.next.new.self.rest.items) has

pub loop-table-preserved : goal.loop-table-preserved
loop-table-preserved c =
    let old = c.loop-table in
    let w : Watched = c.in-Some.table in
    let rest : List Mark = table_marks c.next.new.self.rest.items in
    let step : old.table-iterator.rest.items ≡ w ∷ c.next.new.self.rest.items = search rules in
    let has : HasAll old.past ((w.mark ∷ []) ++ rest) = subst (λ (ws : List Watched). HasAll old.past (table_marks ws)) step old.invariant.has in
    record {
      has = has-rest old.past c.release.new.past (w.mark ∷ []) rest has c.release.ensures;
      frees = λ k f. old.invariant.frees k (subst (λ (ws : List Watched). Frees old.past k (table_marks ws)) (sym step) (frees_on old.past c.release.new.past k (w.mark ∷ []) rest c.release.ensures f));
    }

pub returns : goal.returns
returns c =
    let old = c.loop-table in
    let all : c.into_iter-table-iterator.result.rest.items ≡ c.args.tables.items = search rules in
    let long : length old.table-iterator.rest.items ≡ old.table-iterator.rest.len = search rules in
    let none : old.table-iterator.rest.items ≡ [] = nil_from_length old.table-iterator.rest.items (long ∙ c.in-None.ensures.steps.0) in
    subst (λ (ws : List Watched). Frees c.args.past.now old.past (table_marks ws)) all (old.invariant.frees old.past (subst (λ (ws : List Watched). Frees old.past old.past (table_marks ws)) (sym none) (frees_none old.past)))
