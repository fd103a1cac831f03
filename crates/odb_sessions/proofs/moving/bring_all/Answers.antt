use Rattle.std.proofs.Common.{rules, ◌≡◌, ◌+◌, ◌<◌, ◌≤◌, arith, List, [], ◌∷◌, ◌++◌, drop, length, slice_index_or, slice_set, refl, subst, sym, ap, ◌∙◌}
use Rattle.std.proofs.lemmas.List.{drop-set-lt, drop_all, drop_more}
use Rattle.odb_chain.specs.Chains.{Chains, Mark}
use Rattle.odb_sessions.specs.Marked.{Watched, table_marks}
use Rattle.odb_sessions.specs.Moved.{Moves, brought_to}
use Rattle.odb_sessions.specs.Tied.{HasAll}
use Rattle.odb_sessions.proofs.Brought.{all_done, brought_same, one_more}
use Rattle.odb_sessions.proofs.Moves.{moved-rest, moves_none, moves_on}
use Rattle.odb_sessions.proofs.Releases.{has-left}
use Rattle.odb_sessions.proofs.moving.bring_all.Goals as goal

pub loop-place-init : goal.loop-place-init
loop-place-init c = record {
  has = c.requires.has;
  now = c.requires.now;
  db = refl;
  versions = refl;
  made = refl;
  moves = λ k f. f;
}

pub bring-requires-clause-has : goal.bring-requires-clause-has
bring-requires-clause-has c =
    let ws : List Watched = c.loop-place.tables.items in
    let i = c.loop-place.place in
    let x : Watched = c.index_mut.result.now in
    let low : i < length ws = search rules in
    let at : x ≡ slice_index_or ws i x = search rules in
    let step : drop i ws ≡ x ∷ drop (i + 1) ws = drop_more ws i x low ∙ ap (λ (y : Watched). y ∷ drop (i + 1) ws) (sym at) in
    let has : HasAll c.loop-place.past ((x.mark ∷ []) ++ table_marks (drop (i + 1) ws)) = subst (λ (vs : List Watched). HasAll c.loop-place.past (table_marks vs)) step c.loop-place.invariant.has in
    has-left c.loop-place.past (x.mark ∷ []) (table_marks (drop (i + 1) ws)) has

pub loop-place-preserved : goal.loop-place-preserved
loop-place-preserved c =
    let k : Chains = c.loop-place.past in
    let new : Chains = c.bring.new.past in
    let ws : List Watched = c.loop-place.tables.items in
    let i = c.loop-place.place in
    let x : Watched = c.index_mut.result.now in
    let y : Watched = c.bring.new.self in
    let low : i < length ws = search rules in
    let at : x ≡ slice_index_or ws i x = search rules in
    let rest : List Mark = table_marks (drop (i + 1) ws) in
    let step : drop i ws ≡ x ∷ drop (i + 1) ws = drop_more ws i x low ∙ ap (λ (z : Watched). z ∷ drop (i + 1) ws) (sym at) in
    let left : drop (i + 1) (slice_set ws i y) ≡ drop (i + 1) ws = drop-set-lt (i + 1) ws i y (omega arith) in
    let has : HasAll k ((x.mark ∷ []) ++ rest) = subst (λ (vs : List Watched). HasAll k (table_marks vs)) step c.loop-place.invariant.has in
    let moved : Moves k new (x.mark ∷ []) = c.bring.ensures.moved in
    let first : Chains = c.args.past.now in
    let made : y ≡ brought_to first (slice_index_or ws i x) = c.bring.ensures.table ∙ brought_same first k x c.loop-place.invariant.db c.loop-place.invariant.versions ∙ ap (brought_to first) at in
    record {
      has = subst (λ (vs : List Watched). HasAll new (table_marks vs)) (sym left) (moved-rest k new (x.mark ∷ []) rest has moved);
      now = moved.4 c.loop-place.invariant.now;
      db = moved.0 ∙ c.loop-place.invariant.db;
      versions = moved.1 ∙ c.loop-place.invariant.versions;
      made = one_more (brought_to first) ws i x y low made ∙ c.loop-place.invariant.made;
      moves = λ z f. c.loop-place.invariant.moves z
          (subst (λ (vs : List Watched). Moves k z (table_marks vs)) (sym step)
          (moves_on k new z (x.mark ∷ []) rest c.loop-place.invariant.now moved (subst (λ (vs : List Watched). Moves new z (table_marks vs)) left f)));
    }

pub returns-clause-tables : goal.returns-clause-tables
returns-clause-tables c =
    let ws : List Watched = c.loop-place.tables.items in
    let past : length ws ≤ c.loop-place.place = search rules in
    sym (all_done (brought_to c.args.past.now) ws c.loop-place.place past) ∙ c.loop-place.invariant.made

pub returns-clause-moved : goal.returns-clause-moved
returns-clause-moved c =
    let ws : List Watched = c.loop-place.tables.items in
    let past : length ws ≤ c.loop-place.place = search rules in
    let none : drop c.loop-place.place ws ≡ [] = drop_all c.loop-place.place ws past in
    c.loop-place.invariant.moves c.loop-place.past (subst (λ (vs : List Watched). Moves c.loop-place.past c.loop-place.past (table_marks vs)) (sym none) (moves_none c.loop-place.past))
