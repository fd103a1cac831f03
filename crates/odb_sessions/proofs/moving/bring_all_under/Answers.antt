use Rattle.std.proofs.Common.{rules, ◌≡◌, ◌+◌, ◌<◌, ◌≤◌, arith, List, [], ◌∷◌, ◌++◌, drop, length, slice_index_or, slice_set, refl, subst, sym, ap, ◌∙◌}
use Rattle.std.proofs.lemmas.List.{drop-set-lt, drop_all, drop_more}
use Rattle.odb_chain.specs.Chains.{Chains, Mark}
use Rattle.odb_cond.specs.Filter.{Filter}
use Rattle.odb_service.specs.Session.{filter_of}
use Rattle.odb_sessions.specs.Composed.{asked_of}
use Rattle.odb_sessions.specs.Marked.{Watched, table_marks}
use Rattle.odb_sessions.specs.Moved.{Moves, brought_under, told_now}
use Rattle.odb_sessions.specs.Represented.Item.{filters_of}
use Rattle.odb_sessions.specs.Started.{AreApart}
use Rattle.odb_sessions.specs.Tied.{HasAll}
use Rattle.odb_sessions.proofs.Brought.{all_done, one_more, told_same}
use Rattle.odb_sessions.proofs.Moves.{moved-rest, moves_none, moves_on}
use Rattle.odb_sessions.proofs.Releases.{has-left}
use Rattle.odb_sessions.proofs.TakenFilters.{Filters, SameFor, apart_rest, same_first, same_rest}
use Rattle.odb_sessions.proofs.moving.bring_all_under.Goals as goal

pub loop-place-init : goal.loop-place-init
loop-place-init c = record {
  has = c.requires.has;
  apart = c.requires.apart;
  named = same_first (filters_of c.args.changes) c.args.tables.now.items;
  now = c.requires.now;
  db = refl;
  versions = refl;
  made = refl;
  moves = λ k f. f;
}

pub bring_under-requires-clause-has : goal.bring_under-requires-clause-has
bring_under-requires-clause-has c =
    let ws : List Watched = c.loop-place.tables.items in
    let i = c.loop-place.place in
    let x : Watched = c.index_mut.result.now in
    let low : i < length ws = search rules in
    let at : x ≡ slice_index_or ws i x = search rules in
    let step : drop i ws ≡ x ∷ drop (i + 1) ws = drop_more ws i x low ∙ ap (λ (y : Watched). y ∷ drop (i + 1) ws) (sym at) in
    let has : HasAll c.loop-place.past ((x.mark ∷ []) ++ table_marks (drop (i + 1) ws)) = subst (λ (vs : List Watched). HasAll c.loop-place.past (table_marks vs)) step c.loop-place.invariant.has in
    has-left c.loop-place.past (x.mark ∷ []) (table_marks (drop (i + 1) ws)) has

pub loop-place-preserved : goal.loop-place-preserved
loop-place-preserved c =
    let k : Chains = c.loop-place.past in
    let new : Chains = c.bring_under.new.past in
    let ws : List Watched = c.loop-place.tables.items in
    let i = c.loop-place.place in
    let x : Watched = c.index_mut.result.now in
    let y : Watched = c.bring_under.new.self in
    let low : i < length ws = search rules in
    let at : x ≡ slice_index_or ws i x = search rules in
    let rest : List Mark = table_marks (drop (i + 1) ws) in
    let step : drop i ws ≡ x ∷ drop (i + 1) ws = drop_more ws i x low ∙ ap (λ (z : Watched). z ∷ drop (i + 1) ws) (sym at) in
    let left : drop (i + 1) (slice_set ws i y) ≡ drop (i + 1) ws = drop-set-lt (i + 1) ws i y (omega arith) in
    let has : HasAll k ((x.mark ∷ []) ++ rest) = subst (λ (vs : List Watched). HasAll k (table_marks vs)) step c.loop-place.invariant.has in
    let moved : Moves k new (x.mark ∷ []) = c.bring_under.ensures.moved in
    let first : Chains = c.args.past.now in
    let fs : Filters = filters_of c.args.changes in
    let gs : Filters = filters_of c.loop-place.changes in
    let hs : Filters = filters_of c.bring_under.new.changes in
    let apart : AreApart (asked_of (x ∷ drop (i + 1) ws)) = subst (λ (vs : List Watched). AreApart (asked_of vs)) step c.loop-place.invariant.apart in
    let named : SameFor fs gs (x ∷ drop (i + 1) ws) = subst (SameFor fs gs) step c.loop-place.invariant.named in
    let made : y ≡ brought_under first fs (slice_index_or ws i x) =
    c.bring_under.ensures.table ∙ ap (λ (f : Filter). told_now k f x) (named.0 x.request.filter)
    ∙ told_same first k (filter_of fs x.request.shape.name x.request.filter) x c.loop-place.invariant.db c.loop-place.invariant.versions ∙ ap (brought_under first fs) at in
    record {
      has = subst (λ (vs : List Watched). HasAll new (table_marks vs)) (sym left) (moved-rest k new (x.mark ∷ []) rest has moved);
      apart = subst (λ (vs : List Watched). AreApart (asked_of vs)) (sym left) (apart_rest x (drop (i + 1) ws) apart);
      named = subst (SameFor fs hs) (sym left) (same_rest fs gs hs x (drop (i + 1) ws) apart named c.bring_under.ensures.others);
      now = moved.4 c.loop-place.invariant.now;
      db = moved.0 ∙ c.loop-place.invariant.db;
      versions = moved.1 ∙ c.loop-place.invariant.versions;
      made = one_more (brought_under first fs) ws i x y low made ∙ c.loop-place.invariant.made;
      moves = λ z f. c.loop-place.invariant.moves z
          (subst (λ (vs : List Watched). Moves k z (table_marks vs)) (sym step)
          (moves_on k new z (x.mark ∷ []) rest c.loop-place.invariant.now moved (subst (λ (vs : List Watched). Moves new z (table_marks vs)) left f)));
    }

pub returns-clause-tables : goal.returns-clause-tables
returns-clause-tables c =
    let ws : List Watched = c.loop-place.tables.items in
    let past : length ws ≤ c.loop-place.place = search rules in
    sym (all_done (brought_under c.args.past.now (filters_of c.args.changes)) ws c.loop-place.place past) ∙ c.loop-place.invariant.made

pub returns-clause-moved : goal.returns-clause-moved
returns-clause-moved c =
    let ws : List Watched = c.loop-place.tables.items in
    let past : length ws ≤ c.loop-place.place = search rules in
    let none : drop c.loop-place.place ws ≡ [] = drop_all c.loop-place.place ws past in
    c.loop-place.invariant.moves c.loop-place.past (subst (λ (vs : List Watched). Moves c.loop-place.past c.loop-place.past (table_marks vs)) (sym none) (moves_none c.loop-place.past))
