-- Tables with changes put over them that aren't made yet, as a draft over these finds them.
use Rattle.std.proofs.Common.{◌≡◌, ℕ, zero, suc, ◌<◌, ◌≤◌, arith, Bool, true, false, cond, not, ◌&&◌, ◌||◌, List, [], ◌∷◌, filter, get_or, length, map, slice_get, unwrap_or, Option, Some, None, is_some, IfSome, option_and_then, refl, sym, ap, subst, ◌∙◌}
use Rattle.std.proofs.lemmas.Option.{none-some, slice_get-get_or, slice_get_cases, slice_get_past}
use Rattle.std.specs.Borrow.{Bor}
use Rattle.std.specs.Option.{option_copied}
use mathlib.Core.Bool.{true≢false}
use mathlib.Core.Logic.{inl, inr}
use Rattle.std.specs.List.{list_any}
use Rattle.std.specs.Ordering.{eq_by_cmp}
use Rattle.odb_atoms.specs.FinMap as finite
use Rattle.odb_atoms.specs.Represented.Atom.{uuid_of}
use Rattle.odb_atoms.specs.Row.{Row}
use Rattle.odb_atoms.specs.Uuid.{Uuid, uuid_cmp}
use Rattle.odb_atoms.proofs.FinMaps.{get-empty}
use Rattle.odb_tables.specs.Database.{Db, Table, table_at}
use Rattle.odb_tables.specs.Represented.Draft.{all_overlaid, ground, grounds, laid, overlaid}
use Rattle.odb_tables.specs.Represented.Found.{Appends, Lists, passing, standing}
use Rattle.odb_tables.specs.Represented.RowIndex.{Suffices}
use Rattle.odb_tables.specs.Represented.Overlay.{Touched, passes_now}
use Rattle.odb_tables.proofs.Candidates.{any_filter, distinct_filter}
use Rattle.odb_tables.proofs.Found.{any-++, distinct-++, get-standing, matches, matches-untouched, parts-Lists}
use Rattle.odb_tables.proofs.Overlays.{get-overlaid}

-- ---- the tables

-- nothing is put over them
pub grounds-none : (db : Db) → grounds db [] ≡ db
grounds-none [] = refl
grounds-none (t ∷ db) = refl

-- something is put over each of them
pub grounds-all : (db : Db) (os : List Touched) → length os ≡ length db → grounds db os ≡ all_overlaid db os
grounds-all [] [] e = refl
grounds-all [] (o ∷ os) e = absurd (omega (arith, e))
grounds-all (t ∷ db) [] e = absurd (omega (arith, e))
grounds-all (t ∷ db) (o ∷ os) e = ap (λ ts. overlaid t o ∷ ts) (grounds-all db os (omega (arith, e)))

-- as many tables as before
pub length-grounds : (db : Db) (os : List Touched) → length (grounds db os) ≡ length db
length-grounds [] os = refl
length-grounds (t ∷ db) [] = refl
length-grounds (t ∷ db) (o ∷ os) = ap suc (length-grounds db os)

-- the table at a place
pub at-grounds : (db : Db) (os : List Touched) (k : ℕ) → k < length db → table_at (grounds db os) k ≡ ground (table_at db k) (slice_get os k)
at-grounds [] os k low = absurd (omega (arith, low))
at-grounds (t ∷ db) [] k low = refl
at-grounds (t ∷ db) (o ∷ os) zero low = refl
at-grounds (t ∷ db) (o ∷ os) (suc k) low = at-grounds db os k (omega (arith, low))

-- past the last table there is none, whatever is put there
pub grounds-past : (db : Db) (os : List Touched) (k : ℕ) → length db ≤ k → table_at (grounds db os) k ≡ finite.empty
grounds-past db os k past = ap (λ o. unwrap_or o finite.empty) (slice_get_past (grounds db os) k (omega (arith, length-grounds db os, past)))

-- the table at a place, as a loop over the places has it
pub table-at : (db : Db) (k : ℕ) (t : Table) → k < length db → t ≡ table_at db k → t ≡ get_or db k t
table-at db k t low at = at ∙ ap (λ o. unwrap_or o finite.empty) (slice_get-get_or db k t low)

-- and as a look-up finds it
pub get-table : (db : Db) (k : ℕ) (t : Table) → k < length db → t ≡ table_at db k → Some t ≡ slice_get db k
get-table db k t low at = ap Some (table-at db k t low at) ∙ sym (slice_get-get_or db k t low)

-- the table at a place, if there is one and nothing is put over it
pub bare-table : (db : Db) (os : List Touched) (k : ℕ) (o : Option (Bor Table)) (whole : Table) → ((t : Table) → ground t (slice_get os k) ≡ t) → option_copied o ≡ slice_get db k → table_at (grounds db os) k ≡ whole → IfSome o (λ found. found.now ≡ whole)
bare-table db os k None whole bare got is = tt
bare-table db os k (Some found) whole bare got is = elim (slice_get_cases db k).1 as (λ _. found.now ≡ whole) [
  | inl at ↦ ap (λ o. unwrap_or o finite.empty) got ∙ sym (bare (table_at db k)) ∙ sym (at-grounds db os k at.1) ∙ is
  | inr past ↦ absurd (none-some found.now (sym past.1 ∙ sym got))
]

-- ---- what is found in a table under them

-- the row wasn't touched
abbrev pub is_left : Touched → Uuid → Bool
is_left o u = not (finite.contains_key o u)

-- it is asked of the identifiers as the code has them
pub left-map : (o : Touched) (xs : List (List ℕ)) → map uuid_of (filter (λ x. is_left o (uuid_of x)) xs) ≡ filter (is_left o) (map uuid_of xs)
left-map o [] = refl
left-map o (x ∷ xs) = by (is_left o (uuid_of x)) (left-map o xs)
  where
    by : (b : Bool) → map uuid_of (filter (λ y. is_left o (uuid_of y)) xs) ≡ filter (is_left o) (map uuid_of xs)
        → map uuid_of (cond b (x ∷ filter (λ y. is_left o (uuid_of y)) xs) (filter (λ y. is_left o (uuid_of y)) xs)) ≡ cond b (uuid_of x ∷ filter (is_left o) (map uuid_of xs)) (filter (is_left o) (map uuid_of xs))
    by true e = ap (λ us. uuid_of x ∷ us) e
    by false e = e

-- of rows that were found those that stay, and then those that stand over them
pub over-Lists : (p : Uuid → Row → Bool) (o : Touched) (t : Table) (us second : List Uuid) → Lists us (passing p t) → Appends (filter (is_left o) us) second (passing p (standing o)) → Lists second (passing p (overlaid t o))
over-Lists p o t us second h rest =
    parts-Lists p o t (filter (is_left o) us) second
    (filter (is_left o) us, refl, (distinct_filter (is_left o) us h.0, λ q. any_filter (is_left o) q us ∙ ap (λ b. b && is_left o q) (h.1 q ∙ matches p t q) ∙ sym (matches-untouched p o t q))) rest

module _ (o : Touched) (first : List Uuid) where
  -- of a row that is among those that stay, none stands over it
  left_out : (q : Uuid) (w : Option (Option Row)) → finite.get o q ≡ w → list_any (eq_by_cmp uuid_cmp q) (filter (is_left o) first) ≡ true → is_some (option_and_then (λ (now : Option Row). now) w) ≡ false
  left_out q None at e = refl
  left_out q (Some w) at e = absurd (true≢false (sym e ∙ any_filter (is_left o) q first ∙ ap (λ (x : Option (Option Row)). list_any (eq_by_cmp uuid_cmp q) first && not (is_some x)) at ∙ and_false (list_any (eq_by_cmp uuid_cmp q) first)))
    where
      and_false : (b : Bool) → (b && false) ≡ false
      and_false true = refl
      and_false false = refl

  -- a row that passes is among those that stay, or stands over it
  covered : (p : Uuid → Row → Bool) (t : Table) → Suffices first p t → (q : Uuid) (w : Option (Option Row)) → finite.get o q ≡ w → passes_now p q (laid (finite.get t q) w) ≡ true
      → (list_any (eq_by_cmp uuid_cmp q) (filter (is_left o) first) || is_some (option_and_then (λ (now : Option Row). now) w)) ≡ true
  covered p t h q None at e = ap (λ b. b || false) (any_filter (is_left o) q first ∙ (λ i. h.1 q e i && not (is_some (at i))))
  covered p t h q (Some None) at e = absurd (true≢false (sym e))
  covered p t h q (Some (Some r)) at e = or_true (list_any (eq_by_cmp uuid_cmp q) (filter (is_left o) first))
    where
      or_true : (b : Bool) → (b || true) ≡ true
      or_true true = refl
      or_true false = refl

  -- of the candidates of a table those that stay, and then the rows that stand over it
  pub over-Suffices : (p : Uuid → Row → Bool) (t : Table) (second : List Uuid) → Suffices first p t → Appends (filter (is_left o) first) second (standing o) → Suffices second p (overlaid t o)
  over-Suffices p t second h rest =
      let us = filter (is_left o) first in
      let ws = rest.0 in
      let there : (q : Uuid) → list_any (eq_by_cmp uuid_cmp q) ws ≡ is_some (option_and_then (λ (now : Option Row). now) (finite.get o q)) = λ q. rest.2.1 q ∙ ap is_some (get-standing o q) in
      subst (λ xs. Suffices xs p (overlaid t o)) (sym rest.1) (
        distinct-++ us ws (distinct_filter (is_left o) first h.0) rest.2.0 (λ q e. there q ∙ left_out q (finite.get o q) refl e),
        λ q e. any-++ (eq_by_cmp uuid_cmp q) us ws ∙ ap (λ b. list_any (eq_by_cmp uuid_cmp q) us || b) (there q) ∙ covered p t h q (finite.get o q) refl (ap (passes_now p q) (sym (get-overlaid t o q)) ∙ e),
      )

-- candidates of the table at a place with what is put over it
pub grounds-Suffices : (p : Uuid → Row → Bool) (db : Db) (os : List Touched) (k : ℕ) (us : List Uuid) → Suffices us p (ground (table_at db k) (slice_get os k)) → Suffices us p (table_at (grounds db os) k)
grounds-Suffices p db os k us h = elim (slice_get_cases db k).1 as (λ _. Suffices us p (table_at (grounds db os) k)) [
  | inl at ↦ subst (Suffices us p) (sym (at-grounds db os k at.1)) h
  | inr past ↦ (h.0, λ u e. absurd (true≢false (sym e ∙ ap (λ t. passes_now p u (finite.get t u)) (grounds-past db os k past.0) ∙ ap (passes_now p u) (get-empty uuid_cmp u))))
]
