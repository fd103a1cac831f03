use Rattle.std.proofs.Common.{rules, ◌≡◌, ◌+◌, ◌<◌, ◌≤◌, arith, List, ◌∷◌, drop, length, slice_index_or, slice_set, refl, subst, sym, ap, ◌∙◌}
use Rattle.std.proofs.lemmas.List.{drop-set-lt, drop_more}
use Rattle.odb_cond.specs.Filter.{Filter}
use Rattle.odb_sessions.specs.Composed.{asked_as, asked_of}
use Rattle.odb_sessions.specs.Marked.{Watched}
use Rattle.odb_sessions.specs.Moved.{asked_under}
use Rattle.odb_sessions.specs.Represented.Item.{filters_of}
use Rattle.odb_sessions.specs.Started.{AreApart}
use Rattle.odb_sessions.proofs.Brought.{all_done, one_more}
use Rattle.odb_sessions.proofs.TakenFilters.{Filters, SameFor, apart_rest, same_first, same_rest}
use Rattle.odb_sessions.proofs.moving.ask_all_under.Goals as goal

pub loop-place-init : goal.loop-place-init
loop-place-init c = record {
  apart = c.requires;
  named = same_first (filters_of c.args.changes) c.args.tables.now.items;
  made = refl;
}

pub loop-place-preserved : goal.loop-place-preserved
loop-place-preserved c =
    let ws : List Watched = c.loop-place.tables.items in
    let i = c.loop-place.place in
    let x : Watched = c.index_mut.result.now in
    let y : Watched = c.ask_under.new.self in
    let low : i < length ws = search rules in
    let at : x ≡ slice_index_or ws i x = search rules in
    let step : drop i ws ≡ x ∷ drop (i + 1) ws = drop_more ws i x low ∙ ap (λ (z : Watched). z ∷ drop (i + 1) ws) (sym at) in
    let left : drop (i + 1) (slice_set ws i y) ≡ drop (i + 1) ws = drop-set-lt (i + 1) ws i y (omega arith) in
    let fs : Filters = filters_of c.args.changes in
    let gs : Filters = filters_of c.loop-place.changes in
    let hs : Filters = filters_of c.ask_under.new.changes in
    let apart : AreApart (asked_of (x ∷ drop (i + 1) ws)) = subst (λ (vs : List Watched). AreApart (asked_of vs)) step c.loop-place.invariant.apart in
    let named : SameFor fs gs (x ∷ drop (i + 1) ws) = subst (SameFor fs gs) step c.loop-place.invariant.named in
    let made : y ≡ asked_under fs (slice_index_or ws i x) =
    c.ask_under.ensures.table ∙ ap (λ (f : Filter). asked_as x (record (x.request) { filter = f })) (named.0 x.request.filter) ∙ ap (asked_under fs) at in
    record {
      apart = subst (λ (vs : List Watched). AreApart (asked_of vs)) (sym left) (apart_rest x (drop (i + 1) ws) apart);
      named = subst (SameFor fs hs) (sym left) (same_rest fs gs hs x (drop (i + 1) ws) apart named c.ask_under.ensures.others);
      made = one_more (asked_under fs) ws i x y low made ∙ c.loop-place.invariant.made;
    }

pub returns : goal.returns
returns c =
    let ws : List Watched = c.loop-place.tables.items in
    let past : length ws ≤ c.loop-place.place = search rules in
    sym (all_done (asked_under (filters_of c.args.changes)) ws c.loop-place.place past) ∙ c.loop-place.invariant.made
