use Rattle.std.proofs.Common.{rules, ◌≡◌, ◌<◌, ◌≤◌, [], ◌∷◌, List, length, map, slice_index_or, take, refl, sym, subst, ◌∙◌}
use Rattle.std.proofs.lemmas.List.{take_all}
use Rattle.odb_interest.specs.Keys.{Interests, asked_at}
use Rattle.odb_sessions.specs.Marked.{Watched}
use Rattle.odb_sessions.specs.Owed.{IsPut, KeepsOthers, filter_asked}
use Rattle.odb_sessions.proofs.Interests.{puts_both, puts_none}
use Rattle.odb_sessions.proofs.Loops.{mapped_more}
use Rattle.odb_sessions.proofs.interest.put_tables.Goals as goal

pub loop-table-init : goal.loop-table-init
loop-table-init c = record {
  others = λ s e. refl;
  asked = puts_none (asked_at c.args.interest.now c.args.session) c.args.from;
}

pub loop-table-preserved : goal.loop-table-preserved
loop-table-preserved c =
    let ws : List Watched = c.args.tables.now in
    let i = c.loop-table.table-index in
    let w : Watched = c.table-item.result in
    let s = c.args.session in
    let first : Interests = c.args.interest.now in
    let old : Interests = c.loop-table.interest in
    let new : Interests = c.put_table.new.interest in
    let inside : i < length ws = search rules in
    let is : w ≡ slice_index_or ws i w = search rules in
    let others : KeepsOthers old new s = search rules in
    let put : IsPut (asked_at old s) (asked_at new s) c.loop-table.place (filter_asked w ∷ []) c.in_ok-place.place = search rules in
    record {
      others = λ q e. others q e ∙ c.loop-table.invariant.others q e;
      asked = subst (λ fs. IsPut (asked_at first s) (asked_at new s) c.args.from fs c.in_ok-place.place) (sym (mapped_more filter_asked ws i w inside is))
          (puts_both (asked_at first s) (asked_at old s) (asked_at new s) c.args.from c.loop-table.place c.in_ok-place.place (map filter_asked (take i ws)) (filter_asked w ∷ []) c.loop-table.invariant.asked put);
    }

pub returns-clause-ok : goal.returns-clause-ok
returns-clause-ok c =
    let ws : List Watched = c.args.tables.now in
    let s = c.args.session in
    let past : length ws ≤ c.loop-table.table-index = search rules in
    subst (λ (xs : List Watched). IsPut (asked_at c.args.interest.now s) (asked_at c.loop-table.interest s) c.args.from (map filter_asked xs) c.loop-table.place) (take_all c.loop-table.table-index ws past) c.loop-table.invariant.asked
