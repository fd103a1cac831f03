-- Contents of tables at versions: what leaves them, and what they are.
use Rattle.std.proofs.Common.{◌≡◌, ℕ, ◌+◌, Bool, true, false, nat_le, nat_lt, [], Option, Some, None, is_some, refl, sym, ap, subst, ◌∙◌, true≢false}
use mathlib.Core.Logic.{inl, inr}
use Rattle.std.specs.List.{IsDistinct}
use Rattle.std.specs.Ordering.{eq_by_cmp}
use Rattle.odb_atoms.specs.FinMap as finite
use Rattle.odb_atoms.specs.Row.{Row}
use Rattle.odb_atoms.specs.Uuid.{Uuid, uuid_cmp}
use Rattle.odb_atoms.proofs.Atoms.{uuid_cmp_total, uuid_cmp-IsAntisymmetric}
use Rattle.odb_atoms.proofs.FinMaps.{get-combine, get-empty, same_map}
use Rattle.odb_tables.specs.Change.{Changes, after, before, changed_by, undone}
use Rattle.odb_tables.specs.Database.{Table}
use Rattle.std.proofs.Common.{List, ◌||◌, nat_eq}
use Rattle.std.proofs.Common.{arith}
use Rattle.odb_chain.specs.Represented.MarkedVersions.{is_marked}
use Rattle.std.proofs.lemmas.Bool.Decides.{nat_tests}
use Rattle.odb_chain.specs.OldRows.{History, Rows, at_version, content_at, is_reached}
use Rattle.odb_chain.specs.Represented.Chain.{Chain, IsOf, IsReadyFor}
use Rattle.odb_chain.specs.Represented.MarkedVersions.{IsPast, StaysOrGoes}
use Rattle.odb_tables.proofs.KeyedMaps.{len-from_entries}
use Rattle.odb_chain.proofs.Histories.{beyond, found, past_at, past_moved, reached_before, unreached_after}

pub get-content : (p : ℕ) (t : Table) (rows : Rows) (u : Uuid) → finite.get (content_at p t rows) u ≡ at_version p (finite.get t u) (finite.get rows u)
get-content p t rows u = get-combine uuid_cmp_total uuid_cmp-IsAntisymmetric (at_version p) refl t rows u

-- row by row the same
pub same_content : (p : ℕ) (t s : Table) (old new : Rows) → ((u : Uuid) → at_version p (finite.get t u) (finite.get old u) ≡ at_version p (finite.get s u) (finite.get new u)) → content_at p t old ≡ content_at p s new
same_content p t s old new is =
    same_map uuid_cmp_total uuid_cmp-IsAntisymmetric (content_at p t old) (content_at p s new)
    (λ u. get-content p t old u ∙ is u ∙ sym (get-content p s new u))

-- at the version a table is what it is now
pub now_at : (v p : ℕ) (r : Option Row) (h : Option History) → nat_le v p ≡ true → IsPast v r h → at_version p r h ≡ r
now_at v p r None le h = refl
now_at v p r (Some es) le h = past_at v p r es le h

pub now_content : (v p : ℕ) (t : Table) (rows : Rows) → nat_le v p ≡ true → ((u : Uuid) → IsPast v (finite.get t u) (finite.get rows u)) → content_at p t rows ≡ t
now_content v p t rows le h =
    same_map uuid_cmp_total uuid_cmp-IsAntisymmetric (content_at p t rows) t
    (λ u. get-content p t rows u ∙ now_at v p (finite.get t u) (finite.get rows u) le (h u))

-- a change says of the rows before it what they are once it is undone
pub undone_before : (t : Table) (d : Changes) → IsOf (undone t d) d
undone_before t d u = ap (λ r. before r (finite.get d u)) there ∙ by (finite.get t u) (finite.get d u) ∙ sym there
  where
    there : finite.get (undone t d) u ≡ before (finite.get t u) (finite.get d u)
    there = get-combine uuid_cmp_total uuid_cmp-IsAntisymmetric before refl t d u

    by : (r : Option Row) (o : Option (Option Row × Option Row)) → before (before r o) o ≡ before r o
    by r None = refl
    by r (Some c) = refl

-- rows of which it is kept what they were may change
found_at : (p : ℕ) (r s : Option Row) (h : Option History) → is_reached p h ≡ true → at_version p r h ≡ at_version p s h
found_at p r s None e = absurd (true≢false (sym e))
found_at p r s (Some es) e = found p r s es e

before_reached : (n p : ℕ) (h : Option History) → nat_le p n ≡ true → is_reached n h ≡ true → is_reached p h ≡ true
before_reached n p None le e = e
before_reached n p (Some es) le e = reached_before n p es le e

pub changed_content : (p : ℕ) (t : Table) (c : Changes) (rows : Rows) → ((u : Uuid) → is_some (finite.get c u) ≡ true → is_reached p (finite.get rows u) ≡ true) → content_at p (changed_by t c) rows ≡ content_at p t rows
changed_content p t c rows reached =
    same_content p (changed_by t c) t rows rows
    (λ u. ap (λ r. at_version p r (finite.get rows u)) (get-combine uuid_cmp_total uuid_cmp-IsAntisymmetric after refl t c u) ∙ by u (finite.get c u) refl)
  where
    by : (u : Uuid) (d : Option (Option Row × Option Row)) → finite.get c u ≡ d → at_version p (after (finite.get t u) d) (finite.get rows u) ≡ at_version p (finite.get t u) (finite.get rows u)
    by u None is = refl
    by u (Some d) is = found_at p d.1 (finite.get t u) (finite.get rows u) (reached u (ap is_some is))

pub reached_at : (n p : ℕ) (rows : Rows) (u : Uuid) → nat_le p n ≡ true → is_reached n (finite.get rows u) ≡ true → is_reached p (finite.get rows u) ≡ true
reached_at n p rows u le e = before_reached n p (finite.get rows u) le e

-- what is kept is of the past, one version later
pub moved_past : (v : ℕ) (r s : Option Row) (h : Option History) → IsPast v r h → IsPast (v + 1) s h
moved_past v r s None h = tt
moved_past v r s (Some es) h = past_moved v r s es h

-- ---- rows that didn't change since a version

stays_at : (q p : ℕ) (r : Option Row) (old new : Option History) → nat_le q p ≡ true → StaysOrGoes q old new → at_version p r new ≡ at_version p r old
stays_at q p r old new le (inl stay) = ap (at_version p r) stay
stays_at q p r None new le (inr gone) = ap (at_version p r) gone.0
stays_at q p r (Some es) new le (inr gone) = ap (at_version p r) gone.0 ∙ sym (beyond p r es (unreached_after q p es le gone.1))

pub stays_content : (q p : ℕ) (t : Table) (old new : Rows) → nat_le q p ≡ true → ((u : Uuid) → StaysOrGoes q (finite.get old u) (finite.get new u)) → content_at p t new ≡ content_at p t old
stays_content q p t old new le stays = same_content p t t new old (λ u. stays_at q p (finite.get t u) (finite.get old u) (finite.get new u) le (stays u))

pub stays_past : (v q : ℕ) (r : Option Row) (old new : Option History) → StaysOrGoes q old new → IsPast v r old → IsPast v r new
stays_past v q r old new (inl stay) h = subst (IsPast v r) (sym stay) h
stays_past v q r old new (inr gone) h = subst (IsPast v r) (sym gone.0) tt

pub empty_past : (v : ℕ) (t : Table) (u : Uuid) → IsPast v (finite.get t u) (finite.get (let none : Rows = finite.empty in none) u)
empty_past v t u = subst (IsPast v (finite.get t u)) (sym (get-empty uuid_cmp u)) tt

none_twice : IsDistinct (eq_by_cmp uuid_cmp) []
unfolding IsDistinct
none_twice = tt

pub len-empty : finite.len (let none : Changes = finite.empty in none) ≡ 0
len-empty = len-from_entries [] none_twice

-- a change that names no row asks for nothing
pub nothing_named : (d : Changes) (c : Chain) → d ≡ finite.empty → IsReadyFor d c
nothing_named d c is = (λ some. absurd (true≢false (sym some ∙ ap (nat_lt 0) (ap finite.len is ∙ len-empty))), λ p there u some. absurd (true≢false (sym some ∙ ap is_some (ap (λ (m : Changes). finite.get m u) is ∙ get-empty uuid_cmp u))))

-- a label that is the newest version is a version
pub label_of : (q n : ℕ) (b : Bool) (ls : List (ℕ × ℕ)) → is_marked n ls ≡ true → (b || nat_eq q n) ≡ true → (b || is_marked q ls) ≡ true
label_of q n true ls there e = refl
label_of q n false ls there e = let same : q ≡ n = grind (arith, nat_tests) in ap (λ m. is_marked m ls) same ∙ there
