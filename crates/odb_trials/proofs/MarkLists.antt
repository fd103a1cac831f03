-- All marks that are counted, as a list: with one more, with one fewer, and after a change.
use Rattle.std.proofs.Common.{◌≡◌, ℕ, zero, suc, ◌+◌, ◌<◌, ◌≤◌, arith, Bool, true, false, List, [], ◌∷◌, ◌++◌, drop, length, slice_index_or, take, sym, ap, subst, ◌∙◌}
use Rattle.std.proofs.lemmas.List.{drop_more, take-append-drop}
use Rattle.std.specs.Ordering.{nat_cmp}
use Rattle.odb_atoms.proofs.FinMaps.{get-empty}
use Rattle.odb_chain.specs.Chains.{Chains, IsLive, IsNow, Mark, absorbed, chains_of, count, mark_of, marked, marks_of, released}
use Rattle.odb_chain.specs.Marks.{AreAllMarks, AreLive, bit, is_at, uses}
use Rattle.odb_sessions.proofs.Adds.{adds_one, held_live, live_joined}
use Rattle.odb_sessions.proofs.Releases.{frees_one, live-left, live-right, still_live, uses-++}
use Rattle.odb_sessions.specs.Tied.{HasAll}
use Rattle.odb_tables.specs.Change.{Changes}
use Rattle.odb_tables.specs.Database.{Db}

-- where no mark was made none is counted
pub none_counted : (db : Db) (t p : ℕ) → 0 ≡ count (chains_of db) t p
none_counted [] t p = sym (ap marks_of (get-empty nat_cmp p))
none_counted (x ∷ db) zero p = sym (ap marks_of (get-empty nat_cmp p))
none_counted (x ∷ db) (suc t) p = none_counted db t p

pub one_more : (k new : Chains) (m : Mark) (ms : List Mark) → 0 < length k.db → length k.live ≡ length k.db → IsNow k → m ≡ mark_of k 0 → new ≡ marked 0 k → IsNow new → AreAllMarks k ms → AreAllMarks new (ms ++ m ∷ [])
one_more k new m ms some as_long before mark is now all =
    let adds = adds_one k new 0 m (omega (arith, some, as_long)) before mark is now in (
      live_joined new ms (m ∷ []) (held_live k new ms adds.4 all.0) adds.5,
      λ t p.
          let sum : uses t p (ms ++ m ∷ []) ≡ uses t p ms + uses t p (m ∷ []) = uses-++ t p ms (m ∷ []) in
          let old : uses t p ms ≡ count k t p = all.1 t p in
          let more : count new t p ≡ count k t p + uses t p (m ∷ []) = adds.3 t p in
          omega (arith, sum, old, more),
    )

-- the one at a place, and those around it
around : (i : ℕ) (ms : List Mark) (m : Mark) → i < length ms → m ≡ slice_index_or ms i m → ms ≡ take i ms ++ m ∷ drop (i + 1) ms
around i ms m low at = sym (take-append-drop i ms) ∙ ap (λ ys. take i ms ++ ys) (drop_more ms i m low ∙ ap (λ x. x ∷ drop (i + 1) ms) (sym at))

pub each_live : (k : Chains) (ms : List Mark) (i : ℕ) (m : Mark) → i < length ms → m ≡ slice_index_or ms i m → AreLive k ms → IsLive k m
each_live k ms i m low at live = (live-right k (take i ms) (m ∷ drop (i + 1) ms) (subst (AreLive k) (around i ms m low at) live)).0

pub one_fewer : (k new : Chains) (ms left : List Mark) (i : ℕ) (m : Mark) → i < length ms → m ≡ slice_index_or ms i m → left ≡ take i ms ++ drop (i + 1) ms → new ≡ released m.table m.version k → IsNow new → AreAllMarks k ms → AreAllMarks new left
one_fewer k new ms left i m low at is_left is now all =
    let xs = take i ms in
    let ys = drop (i + 1) ms in
    let whole : ms ≡ xs ++ m ∷ ys = around i ms m low at in
    let live : AreLive k (xs ++ m ∷ ys) = subst (AreLive k) whole all.0 in
    let every : (t p : ℕ) → uses t p xs + (bit (is_at t p m) + uses t p ys) ≡ count k t p = λ t p. sym (uses-++ t p xs (m ∷ ys)) ∙ ap (uses t p) (sym whole) ∙ all.1 t p in
    let has : HasAll k (m ∷ []) = (((live-right k xs (m ∷ ys) live).0, tt), λ t p. let sum = every t p in omega (arith, sum)) in
    let frees = frees_one k new m has is now in
    let rest : (t p : ℕ) → uses t p (xs ++ ys) ≡ count new t p = λ t p.
    let sum = every t p in
    let both : uses t p (xs ++ ys) ≡ uses t p xs + uses t p ys = uses-++ t p xs ys in
    let fewer : count k t p ≡ count new t p + (bit (is_at t p m) + 0) = frees.2 t p in
    omega (arith, sum, both, fewer) in
    let left_live = still_live k new (xs ++ ys) frees.3 (live_joined k xs ys (live-left k xs (m ∷ ys) live) (live-right k xs (m ∷ ys) live).1) (λ t p. let same = rest t p in omega (arith, same)) in
    subst (AreAllMarks new) (sym is_left) (left_live, rest)

live_still : (cs : List Changes) (k : Chains) (ms : List Mark) → AreLive k ms → AreLive (absorbed cs k) ms
live_still cs k [] h = tt
live_still cs k (m ∷ ms) h = (h.0, live_still cs k ms h.1)

pub still_all : (cs : List Changes) (k new : Chains) (ms : List Mark) → new ≡ absorbed cs k → AreAllMarks k ms → AreAllMarks new ms
still_all cs k new ms is all = subst (λ c. AreAllMarks c ms) (sym is) (live_still cs k ms all.0, all.1)

low_bit : (b : Bool) → bit b ≤ 1
low_bit true = omega arith
low_bit false = omega arith

few_used : (t p : ℕ) (ms : List Mark) → uses t p ms ≤ length ms
few_used t p [] = omega arith
few_used t p (m ∷ ms) =
    let rest : uses t p ms ≤ length ms = few_used t p ms in
    let one : bit (is_at t p m) ≤ 1 = low_bit (is_at t p m) in
    omega (arith, rest, one)

-- there are no more at a place than marks
pub few_counted : (k : Chains) (ms : List Mark) (t p : ℕ) → AreAllMarks k ms → count k t p ≤ length ms
few_counted k ms t p all = let few = few_used t p ms in let same : uses t p ms ≡ count k t p = all.1 t p in omega (arith, few, same)
