use Rattle.std.proofs.Common.{rules, ◌≡◌, ◌+◌, ◌≤◌, ◌∷◌, List, ℕ, drop, length, refl, slice_index_or, sym, ap, ◌∙◌}
use Rattle.std.proofs.lemmas.List.{drop_all, drop_more}
use Rattle.odb_interest.specs.Keys.{asked_at}
use Rattle.odb_sessions.proofs.Interests.{forgets_one, forgotten, nobody}
use Rattle.std.specs.BTreeSet.{contains}
use Rattle.std.specs.Ordering.{nat_cmp}
use Rattle.odb_sessions.proofs.interest.forget_owed.Goals as goal

pub loop-session-init : goal.loop-session-init
loop-session-init c = record {
  resting = λ s out. refl;
  forgets = λ q. refl;
}

pub loop-session-preserved : goal.loop-session-preserved
loop-session-preserved c =
    let o = c.args.owed.now in
    let ss : List ℕ = c.args.listed.now in
    let i = c.loop-session.session-index in
    let s = slice_index_or ss i 0 in
    let old = c.loop-session.interest in
    let step : drop i ss ≡ s ∷ drop (i + 1) ss = drop_more ss i 0 c.loop-session-test.true in
    record {
      resting = λ q out. c.forget_if_owed.ensures.resting q out ∙ c.loop-session.invariant.resting q out;
      forgets = λ q. forgets_one o s (drop (i + 1) ss) old c.forget_if_owed.new.interest c.forget_if_owed.ensures.forgets q
          ∙ ap (λ xs. forgotten o xs q (asked_at old q)) (sym step)
          ∙ c.loop-session.invariant.forgets q;
    }

pub returns-clause-forgets : goal.returns-clause-forgets
returns-clause-forgets c = λ q.
    let o = c.args.owed.now in
    let ss : List ℕ = c.args.listed.now in
    let past : length ss ≤ c.loop-session.session-index = search rules in
    nobody (contains nat_cmp o q) (asked_at c.loop-session.interest q)
    ∙ ap (λ xs. forgotten o xs q (asked_at c.loop-session.interest q)) (sym (drop_all c.loop-session.session-index ss past))
    ∙ c.loop-session.invariant.forgets q
