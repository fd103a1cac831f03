-- How many marks are counted at all versions: one more where a mark is made, one less where one is released, and as many where one moves.
use Rattle.std.proofs.Common.{◌≡◌, ℕ, zero, suc, ◌+◌, ◌-◌, ◌<◌, ◌≤◌, arith, Bool, true, false, cond, nat_le, List, [], ◌∷◌, length, map, slice_get, slice_set, unwrap_or, Option, Some, None, option_and_then, refl, sym, ap, subst, ◌∙◌}
use Rattle.std.proofs.lemmas.Bool.Decides.{nat_tests}
use Rattle.std.proofs.lemmas.Option.{none-some}
use Rattle.std.specs.Cmp.{nat_cmp_total}
use Rattle.std.specs.Ordering.{nat_cmp}
use Rattle.odb_atoms.specs.FinMap as finite
use Rattle.odb_atoms.proofs.FinMaps.{entries-insert, get-empty, get-entries}
use Rattle.odb_chain.specs.Chains.{Chains, Live, Mark, Standing, chains_of, count, live_at, marked, marks_of, one_less, released, standing, version, with_standing}
use Rattle.odb_tables.specs.Database.{Db, table_at}
use Rattle.odb_sessions.specs.Tied.{HasAll, KeepsRoom, bit, counted_at, counted_in, is_at, total, uses}
use Rattle.odb_sessions.proofs.Adds.{length-set}
use Rattle.odb_sessions.proofs.Moves.{counted}
use Rattle.odb_sessions.proofs.Releases.{used_once}
use Rattle.odb_sessions.proofs.Sums.{slot, total-put, total-without, weight_within}

abbrev own : Standing → ℕ
own x = x.marks

as_marks : (o : Option Standing) → slot own o ≡ marks_of o
as_marks None = refl
as_marks (Some x) = refl

-- ---- at one table

within_live : (l : Live) (p : ℕ) → marks_of (finite.get l p) ≤ counted_at l
within_live l p = by (finite.get l p) refl
  where
    by : (o : Option Standing) → finite.get l p ≡ o → marks_of o ≤ counted_at l
    by None is = omega arith
    by (Some x) is = weight_within own p x l.entries (sym (get-entries l p) ∙ is)

put_in : (l : Live) (p : ℕ) (x : Standing) → counted_at (finite.insert l p x) + marks_of (finite.get l p) ≡ counted_at l + x.marks
put_in l p x =
    ap (λ n. counted_at (finite.insert l p x) + n) (sym (as_marks (finite.get l p)))
    ∙ (λ i. total own (entries-insert nat_cmp_total l p x i) + slot own (get-entries l p i))
    ∙ total-put own p x l.entries l.sorted

taken_out : (l : Live) (p : ℕ) → counted_at (finite.remove l p) + marks_of (finite.get l p) ≡ counted_at l
unfolding finite.retain_keys
taken_out l p =
    ap (λ n. counted_at (finite.remove l p) + n) (sym (as_marks (finite.get l p)))
    ∙ ap (λ o. counted_at (finite.remove l p) + slot own o) (get-entries l p)
    ∙ total-without own p l.entries l.sorted

-- with one mark less at a version
one_out : (l : Live) (p : ℕ) (o : Option Standing) → finite.get l p ≡ o
    → (counted_at (with_standing l p (option_and_then one_less o)) ≤ counted_at l) × (0 < marks_of o → counted_at (with_standing l p (option_and_then one_less o)) + 1 ≡ counted_at l)
one_out l p None is =
    let sum : counted_at (finite.remove l p) + marks_of (finite.get l p) ≡ counted_at l = taken_out l p in
    (omega (arith, sum), λ h. absurd (omega (arith, h)))
one_out l p (Some x) is = by (nat_le x.marks 1) refl
  where
    here : marks_of (finite.get l p) ≡ x.marks
    here = ap marks_of is

    by : (b : Bool) → nat_le x.marks 1 ≡ b
        → (counted_at (with_standing l p (cond b None (Some (record x { marks = x.marks - 1 })))) ≤ counted_at l) × (0 < x.marks → counted_at (with_standing l p (cond b None (Some (record x { marks = x.marks - 1 })))) + 1 ≡ counted_at l)
    by true le =
        let few : x.marks ≤ 1 = grind (arith, nat_tests) in
        let sum : counted_at (finite.remove l p) + marks_of (finite.get l p) ≡ counted_at l = taken_out l p in
        (omega (arith, sum, here), λ h. omega (arith, sum, here, few, h))
    by false le =
        let y : Standing = record x { marks = x.marks - 1 } in
        let sum : counted_at (finite.insert l p y) + marks_of (finite.get l p) ≡ counted_at l + (x.marks - 1) = put_in l p y in
        (omega (arith, sum, here), λ h. omega (arith, sum, here, h))

-- ---- at all tables

none_at : counted_at finite.empty ≡ 0
unfolding finite.empty
none_at = refl

within_all : (ls : List Live) (t : ℕ) → counted_at (unwrap_or (slice_get ls t) finite.empty) ≤ counted_in ls
within_all [] t = let none : counted_at finite.empty ≡ 0 = none_at in omega (arith, none)
within_all (l ∷ ls) zero = omega arith
within_all (l ∷ ls) (suc t) = let rest : counted_at (unwrap_or (slice_get ls t) finite.empty) ≤ counted_in ls = within_all ls t in omega (arith, rest)

pub few_counted : (k : Chains) (t p : ℕ) → count k t p ≤ counted_in k.live
few_counted k t p =
    let here : count k t p ≤ counted_at (live_at k t) = within_live (live_at k t) p in
    let all : counted_at (live_at k t) ≤ counted_in k.live = within_all k.live t in
    omega (arith, here, all)

set_in : (ls : List Live) (t : ℕ) (l : Live) → t < length ls → counted_in (slice_set ls t l) + counted_at (unwrap_or (slice_get ls t) finite.empty) ≡ counted_in ls + counted_at l
set_in [] t l low = absurd (omega (arith, low))
set_in (x ∷ ls) zero l low = omega arith
set_in (x ∷ ls) (suc t) l low =
    let rest : counted_in (slice_set ls t l) + counted_at (unwrap_or (slice_get ls t) finite.empty) ≡ counted_in ls + counted_at l = set_in ls t l (omega (arith, low)) in
    omega (arith, rest)

pub one_counted : (k : Chains) (t : ℕ) → t < length k.live → counted_in (marked t k).live ≡ counted_in k.live + 1
one_counted k t low =
    let l : Live = live_at k t in
    let p : ℕ = version k t in
    let x : Standing = record { content = table_at k.db t; marks = count k t p + 1 } in
    let all : counted_in (slice_set k.live t (finite.insert l p x)) + counted_at l ≡ counted_in k.live + counted_at (finite.insert l p x) = set_in k.live t (finite.insert l p x) low in
    let here : counted_at (finite.insert l p x) + count k t p ≡ counted_at l + (count k t p + 1) = put_in l p x in
    omega (arith, all, here)

pub one_released : (k : Chains) (t p : ℕ) → t < length k.live → 0 < count k t p → counted_in (released t p k).live + 1 ≡ counted_in k.live
one_released k t p low some =
    let l : Live = live_at k t in
    let new : Live = with_standing l p (option_and_then one_less (standing k t p)) in
    let all : counted_in (slice_set k.live t new) + counted_at l ≡ counted_in k.live + counted_at new = set_in k.live t new low in
    let here : counted_at new + 1 ≡ counted_at l = (one_out l p (standing k t p) refl).1 some in
    omega (arith, all, here)

pub none_more : (k : Chains) (t p : ℕ) → t < length k.live → counted_in (released t p k).live ≤ counted_in k.live
none_more k t p low =
    let l : Live = live_at k t in
    let new : Live = with_standing l p (option_and_then one_less (standing k t p)) in
    let all : counted_in (slice_set k.live t new) + counted_at l ≡ counted_in k.live + counted_at new = set_in k.live t new low in
    let here : counted_at new ≤ counted_at l = (one_out l p (standing k t p) refl).0 in
    omega (arith, all, here)

pub none_counted : (db : Db) → counted_in (chains_of db).live ≡ 0
none_counted [] = refl
none_counted (d ∷ db) = let here : counted_at finite.empty ≡ 0 = none_at in let rest : counted_in (map (λ t. let l : Live = finite.empty in l) db) ≡ 0 = none_counted db in omega (arith, here, rest)

-- ---- a mark that moves

pub stands_inside : (ls : List Live) (t p : ℕ) (x : Standing) → finite.get (unwrap_or (slice_get ls t) finite.empty) p ≡ Some x → t < length ls
stands_inside [] t p x there = absurd (none-some x (sym (get-empty nat_cmp p) ∙ there))
stands_inside (l ∷ ls) zero p x there = omega arith
stands_inside (l ∷ ls) (suc t) p x there = let low : t < length ls = stands_inside ls t p x there in omega (arith, low)

pub room_kept : (k new : Chains) (m : Mark) → HasAll k (m ∷ []) → new ≡ released m.table m.version (marked m.table k) → KeepsRoom k new
room_kept k new m has is =
    let t = m.table in
    let k1 : Chains = marked t k in
    let low : t < length k.live = stands_inside k.live t m.version _ has.0.0.1 in
    let same : length k1.live ≡ length k.live = length-set k.live t _ in
    let low1 : t < length k1.live = omega (arith, low, same) in
    let some : 1 ≤ uses t m.version (m ∷ []) = used_once m [] in
    let there : uses t m.version (m ∷ []) ≤ count k t m.version = has.1 t m.version in
    let more : count k t m.version + bit (is_at t m.version (let n : Mark = record { table = t; version = version k t; content = table_at k.db t } in n)) ≡ count k1 t m.version = counted k t low t m.version in
    let up : counted_in k1.live ≡ counted_in k.live + 1 = one_counted k t low in
    let down : counted_in (released t m.version k1).live + 1 ≡ counted_in k1.live = one_released k1 t m.version low1 (omega (arith, some, there, more)) in
    subst (λ (c : Chains). KeepsRoom k c) (sym is) (length-set k1.live t _ ∙ same, omega (arith, up, down))
