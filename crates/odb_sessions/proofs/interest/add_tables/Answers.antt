use Rattle.std.proofs.Common.{rules, ◌≡◌, ◌<◌, ◌≤◌, ◌++◌, [], ◌∷◌, List, length, map, slice_index_or, take, append-nil, refl, sym, ap, ◌∙◌}
use Rattle.std.proofs.lemmas.List.{take_all}
use Rattle.odb_interest.specs.Keys.{Interests, asked_at}
use Rattle.odb_interest.specs.Represented.Lists.{Asks}
use Rattle.odb_sessions.specs.Marked.{Watched}
use Rattle.odb_sessions.specs.Owed.{filter_asked}
use Rattle.odb_sessions.proofs.Interests.{asked_more, asks_others}
use Rattle.odb_sessions.proofs.Loops.{mapped_more}
use Rattle.odb_sessions.proofs.interest.add_tables.Goals as goal

pub loop-table-init : goal.loop-table-init
loop-table-init c = record {
  others = λ s e. refl;
  asked = sym (append-nil (asked_at c.args.interest.now c.args.session));
}

pub loop-table-preserved : goal.loop-table-preserved
loop-table-preserved c =
    let ws : List Watched = c.args.tables.now in
    let i = c.loop-table.table-index in
    let w : Watched = c.table-item.result in
    let s = c.args.session in
    let old : Interests = c.loop-table.interest in
    let new : Interests = c.add.new.self in
    let inside : i < length ws = search rules in
    let is : w ≡ slice_index_or ws i w = search rules in
    let asks : Asks old new s (asked_at old s ++ filter_asked w ∷ []) = search rules in
    record {
      others = λ q e. asks_others old new s (asked_at old s ++ filter_asked w ∷ []) asks q e ∙ c.loop-table.invariant.others q e;
      asked = asked_more c.args.interest.now old new s (map filter_asked (take i ws)) (filter_asked w ∷ []) c.loop-table.invariant.asked asks
          ∙ ap (λ fs. asked_at c.args.interest.now s ++ fs) (sym (mapped_more filter_asked ws i w inside is));
    }

pub returns-clause-ok : goal.returns-clause-ok
returns-clause-ok c =
    let ws : List Watched = c.args.tables.now in
    let past : length ws ≤ c.loop-table.table-index = search rules in
    c.loop-table.invariant.asked ∙ ap (λ (xs : List Watched). asked_at c.args.interest.now c.args.session ++ map filter_asked xs) (take_all c.loop-table.table-index ws past)

pub returns-in_err-add-clause-others : goal.returns-in_err-add-clause-others
returns-in_err-add-clause-others c = λ q e. c.in_err-add.ensures.err q ∙ c.loop-table.invariant.others q e
