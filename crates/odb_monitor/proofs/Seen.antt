-- What is shown of each row of a part, and that its lines are just that.
use Rattle.std.proofs.Common.{◌≡◌, Bool, true, false, cond, not, ◌||◌, List, [], ◌∷◌, Option, Some, None, filter_map, option_and_then, option_map, is_some, IsPermutation, refl, sym, ap, ◌∙◌}
use mathlib.Core.Bool.{true≢false}
use Rattle.std.specs.FinMap.Entries.{find}
use Rattle.std.specs.List.{cons_option, list_any}
use Rattle.std.specs.List.Sorted.{IsSortedByKey}
use Rattle.std.proofs.lemmas.Option.{none-some}
use Rattle.odb_atoms.specs.FinMap as finite
use Rattle.odb_atoms.specs.FinMap.{FinMap, combine}
use Rattle.odb_atoms.specs.Row.{Row}
use Rattle.odb_atoms.specs.Uuid.{Uuid, uuid_cmp}
use Rattle.odb_atoms.proofs.FinMaps.{get-entries}
use Rattle.odb_cond.specs.Filter.{selects}
use Rattle.odb_monitor.specs.Represented.Candidates.{Covers, WasSo}
use Rattle.odb_monitor.specs.Represented.Part.{changes_shown, is_silent, part_of}
use Rattle.odb_monitor.specs.Represented.Sides.{Pair, line_at, only_shown, passed, shown_at, table_then, tells, told_in}
use Rattle.odb_monitor.specs.View.{change, cut, is_empty, is_shown, selected}
use Rattle.odb_monitor.specs.declared.told.Told.{Told}
use Rattle.odb_monitor.specs.declared.told.Told.TheVariants.{Asked, Nothing, Under}
use Rattle.odb_monitor.proofs.Covered.{all_changed, never, none_distinct}
use Rattle.odb_tables.proofs.Ordered.{AreDistinct}
use Rattle.odb_monitor.proofs.Kept.{distinct-kept, distinct-moved, find-kept, find-moved, kept_in_order}
use Rattle.odb_monitor.proofs.Maps.{get-combine, get-empty, get-map_entries, key-itself}
use Rattle.odb_request.specs.Request.{Request}
use Rattle.odb_tables.specs.Change.{Changes, before}
use Rattle.odb_tables.specs.Database.{Table}
use Rattle.odb_tables.proofs.KeyedMaps.{get-from_entries}

cut_passed : (q : Request) (p : Uuid → Row → Bool) (u : Uuid) (r : Option Row) → option_and_then (λ x. cond (p u x) (Some (cut q.shape.columns u x)) None) r ≡ option_map (cut q.shape.columns u) (passed p u r)
cut_passed q p u None = refl
cut_passed q p u (Some r) = by (p u r)
  where
    by : (b : Bool) → cond b (Some (cut q.shape.columns u r)) None ≡ option_map (cut q.shape.columns u) (cond b (Some r) None)
    by true = refl
    by false = refl

get-selected : (q : Request) (t : Table) (u : Uuid) → finite.get (selected q t) u ≡ option_map (cut q.shape.columns u) (passed (selects q.filter) u (finite.get t u))
get-selected q t u = get-map_entries (λ k r. cond (selects q.filter k r) (Some (cut q.shape.columns k r)) None) t u ∙ cut_passed q (selects q.filter) u (finite.get t u)

get-told : (w : Told) (q : Request) (t : Table) (u : Uuid) → finite.get (told_in w q t) u ≡ option_map (cut q.shape.columns u) (passed (tells w q.filter) u (finite.get t u))
get-told Nothing q t u = get-empty u ∙ ap (option_map (cut q.shape.columns u)) (sym (never u (finite.get t u)))
get-told Asked q t u = get-selected q t u
get-told (Under g) q t u = get-selected (record q { filter = g.now }) t u

-- row by row
pub get-changes_shown : (first : Bool) (q : Request) (w : Told) (t : Table) (c : Option Changes) (u : Uuid)
    → finite.get (changes_shown first (part_of q w t c)) u ≡ shown_at first w q u (finite.get (table_then c t) u, finite.get t u)
get-changes_shown first q w t c u =
    let p = part_of q w t c in
    get-map_entries (λ k x. cond (is_shown first q.select x) (Some x) None) (combine change p.told p.asked) u
    ∙ ap (only_shown first q.select) (get-combine change p.told p.asked u refl ∙ (λ i. change (get-told w q (table_then c t) u i) (get-selected q t u i)))

-- ---- the lines of a part

module _ (first : Bool) (q : Request) (w : Told) (t : Table) (c : Option Changes) (es : List (Uuid × Pair)) (h : Covers es first w q (table_then c t) t) where
  pub lines_found : (u : Uuid) → find uuid_cmp u (filter_map (line_at first w q) es) ≡ finite.get (changes_shown first (part_of q w t c)) u
  lines_found u = find-kept (shown_at first w q) es u h.0 ∙ h.1 u ∙ sym (get-changes_shown first q w t c u)

  pub lines_distinct : AreDistinct (filter_map (line_at first w q) es)
  lines_distinct = distinct-kept (shown_at first w q) es h.0

-- the rows in another order
covers_moved : (es fs : List (Uuid × Pair)) (first : Bool) (w : Told) (q : Request) (then now : Table) → IsPermutation es fs → Covers es first w q then now → Covers fs first w q then now
covers_moved es fs first w q then now p h = (distinct-moved es fs h.0 p, λ u. ap (option_and_then (shown_at first w q u)) (find-moved es fs h.0 p u) ∙ h.1 u)

-- and sorted
pub sorted_lines : (first : Bool) (q : Request) (w : Told) (t : Table) (c : Option Changes) (es fs : List (Uuid × Pair)) → Covers es first w q (table_then c t) t → IsPermutation es fs → IsSortedByKey (λ (e : Uuid × Pair). e.0) uuid_cmp fs
    → filter_map (line_at first w q) fs ≡ (changes_shown first (part_of q w t c)).entries
sorted_lines first q w t c es fs h p up =
    let covers = covers_moved es fs first w q (table_then c t) t p h in
    kept_in_order (shown_at first w q) (changes_shown first (part_of q w t c)) fs covers.0 up (lines_found first q w t c fs covers)

-- a list and a map that answer alike are empty alike
alike_empty : {Y : Type 0} (ls : List (Uuid × Y)) (m : FinMap uuid_cmp Y) → ((u : Uuid) → find uuid_cmp u ls ≡ finite.get m u) → is_empty ls ≡ is_empty m.entries
alike_empty {Y = Y} ls m is = by ls m.entries (λ u. is u ∙ get-entries m u)
  where
    by : (xs ys : List (Uuid × Y)) → ((u : Uuid) → find uuid_cmp u xs ≡ find uuid_cmp u ys) → is_empty xs ≡ is_empty ys
    by [] [] e = refl
    by [] (y ∷ ys) e = absurd (none-some y.1 (e y.0 ∙ ap (λ b. cond b (Some y.1) (find uuid_cmp y.0 ys)) (key-itself y.0)))
    by (x ∷ xs) [] e = absurd (none-some x.1 (sym (e x.0) ∙ ap (λ b. cond b (Some x.1) (find uuid_cmp x.0 xs)) (key-itself x.0)))
    by (x ∷ xs) (y ∷ ys) e = refl

any_kept : {X Y : Type 0} (g : X → Option Y) (xs : List X) → list_any (λ x. is_some (g x)) xs ≡ not (is_empty (filter_map g xs))
any_kept g [] = refl
any_kept {Y = Y} g (x ∷ xs) = by (g x) (any_kept g xs)
  where
    by : (o : Option Y) → list_any (λ y. is_some (g y)) xs ≡ not (is_empty (filter_map g xs)) → (is_some o || list_any (λ y. is_some (g y)) xs) ≡ not (is_empty (cons_option o (filter_map g xs)))
    by None rest = rest
    by (Some y) rest = refl

pub some_line : (first : Bool) (q : Request) (w : Told) (t : Table) (c : Option Changes) (es : List (Uuid × Pair)) → Covers es first w q (table_then c t) t
    → list_any (λ e. is_some (line_at first w q e)) es ≡ not (is_silent first (part_of q w t c))
some_line first q w t c es h = any_kept (line_at first w q) es ∙ ap not (alike_empty (filter_map (line_at first w q) es) (changes_shown first (part_of q w t c)) (lines_found first q w t c es h))

-- the table as it was, by the list of its changes
pub was_so : (rows : List (Uuid × Pair)) (c : Changes) → finite.from_entries rows ≡ c → (t : Table) → WasSo rows (table_then (Some c) t) t
was_so rows c is t = λ u. get-combine before t c u refl ∙ ap (before (finite.get t u)) (ap (λ m. finite.get m u) (sym is) ∙ get-from_entries rows u)

-- ---- a table that is as it was, under the filter that was told: nothing is shown of it

none_of : {Y : Type 0} (ys : List (Uuid × Y)) → is_empty ys ≡ true → ys ≡ []
none_of [] e = refl
none_of (y ∷ ys) e = absurd (true≢false (sym e))

as_it_was : (first : Bool) (q : Request) (t : Table) → (changes_shown first (part_of q Asked t None)).entries ≡ []
as_it_was first q t =
    let p = part_of q Asked t None in
    none_of (changes_shown first p).entries (sym (alike_empty [] (changes_shown first p) (lines_found first q Asked t None [] (all_changed [] t t (none_distinct Pair) (λ u. refl) first q))))

pub none_shown : {X : Type 0} (f : X → Changes) (first : Bool) (q : Request) (t : Table) (o : Option X) → is_some o ≡ false → (changes_shown first (part_of q Asked t (option_map f o))).entries ≡ []
none_shown f first q t None e = as_it_was first q t
none_shown f first q t (Some x) e = absurd (true≢false e)
