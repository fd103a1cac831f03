-- The rows of which something may be shown are found: all that come in, or those that were changed, or these and the rest.
use Rattle.std.proofs.Common.{◌≡◌, Bool, true, false, cond, not, ◌||◌, List, [], ◌∷◌, ◌++◌, filter, map, Option, Some, None, option_and_then, option_map, is_some, refl, sym, ap, subst, ◌∙◌}
use mathlib.Core.Bool.{true≢false}
use Rattle.std.proofs.lemmas.Map.Keys.{IsDistinct-cons, IsDistinct-head, IsDistinct-tail}
use Rattle.std.specs.FinMap.Entries.{find}
use Rattle.std.specs.List.{AllByRecursion, IsDistinct, list_any}
use Rattle.std.specs.Map.{keys_of}
use Rattle.std.specs.Ordering.{eq_by_cmp}
use Rattle.odb_atoms.specs.FinMap as finite
use Rattle.odb_atoms.specs.Row.{Row}
use Rattle.odb_atoms.specs.Uuid.{Uuid, uuid_cmp}
use Rattle.odb_atoms.proofs.Atoms.{uuid_cmp-IsAntisymmetric}
use Rattle.odb_atoms.proofs.Equal.{same_values-itself}
use Rattle.odb_atoms.proofs.FinMaps.{same_key}
use Rattle.odb_cond.specs.Filter.{Filter, selects}
use Rattle.odb_monitor.specs.Represented.Candidates.{Covers, ListsSelected, WasSo, changed_in, fresh_in, is_changed, stayed_in, unchanged}
use Rattle.odb_monitor.specs.Represented.Sides.{Pair, only_shown, passed, shown_at, tells}
use Rattle.odb_monitor.specs.View.{Cells, Change, change, cut, differs}
use Rattle.odb_monitor.specs.declared.told.Told.{Told}
use Rattle.odb_monitor.specs.declared.told.Told.TheVariants.{Asked, Nothing}
use Rattle.odb_tables.proofs.Ordered.{AreDistinct}
use Rattle.odb_monitor.proofs.Maps.{get-map_entries}
use Rattle.odb_request.specs.Request.{Request}
use Rattle.odb_tables.specs.Change.{before}
use Rattle.odb_tables.specs.Database.{Table}
use Rattle.odb_tables.specs.Represented.Key.{keys_equivalent}
use Rattle.odb_tables.proofs.KeyedMaps.{get-from_entries}

-- ---- nothing is shown of a row that stayed, where the filter did

same_cells : (c : Option Cells) → change c c ≡ None
same_cells None = refl
same_cells (Some v) = ap (λ b. cond {A = Option Change} b None (Some (differs v v))) (same_values-itself v)

pub only_changed : (first : Bool) (q : Request) (u : Uuid) (r : Option Row) → shown_at first Asked q u (r, r) ≡ None
only_changed first q u r = ap (only_shown first q.select) (same_cells (option_map (cut q.shape.columns u) (passed (selects q.filter) u r)))

pub never : (u : Uuid) (r : Option Row) → passed (λ _ _. false) u r ≡ None
never u None = refl
never u (Some r) = refl

-- of a row that isn't there on either side nothing is shown
neither : (first : Bool) (w : Told) (q : Request) (u : Uuid) → shown_at first w q u (None, None) ≡ None
neither first w q u = refl

-- ---- entries under new sides

module _ {X Y : Type 0} (f : Uuid → X → Y) where
  abbrev pub each : List (Uuid × X) → List (Uuid × Y)
  each es = map (λ e. let x : Uuid × Y = (e.0, f e.0 e.1) in x) es

  pub find-each : (es : List (Uuid × X)) (q : Uuid) → find uuid_cmp q (each es) ≡ option_map (f q) (find uuid_cmp q es)
  find-each [] q = refl
  find-each (e ∷ es) q = by (eq_by_cmp uuid_cmp q e.0) refl (find-each es q)
    where
      by : (b : Bool) → eq_by_cmp uuid_cmp q e.0 ≡ b → find uuid_cmp q (each es) ≡ option_map (f q) (find uuid_cmp q es) → cond b (Some (f e.0 e.1)) (find uuid_cmp q (each es)) ≡ option_map (f q) (cond b (Some e.1) (find uuid_cmp q es))
      by true is rest = ap (λ u. Some (f u e.1)) (sym (same_key uuid_cmp-IsAntisymmetric q e.0 is))
      by false is rest = rest

  pub keys-each : (es : List (Uuid × X)) → keys_of (each es) ≡ keys_of es
  keys-each [] = refl
  keys-each (e ∷ es) = ap (λ us. e.0 ∷ us) (keys-each es)

  pub distinct-each : (es : List (Uuid × X)) → AreDistinct es → AreDistinct (each es)
  distinct-each es d = subst (IsDistinct (eq_by_cmp uuid_cmp)) (sym (keys-each es)) d

-- what is found of the rows that a filter selects
row_found : (f : Filter) (rows : List (Uuid × Row)) (t : Table) → ListsSelected f rows t → (u : Uuid) → find uuid_cmp u rows ≡ option_and_then (λ r. cond (selects f u r) (Some r) None) (finite.get t u)
row_found f rows t h u = sym (get-from_entries rows u) ∙ ap (λ m. finite.get m u) h.0 ∙ get-map_entries (λ k r. cond (selects f k r) (Some r) None) t u

-- ---- a first reply: each row that is asked for comes in

pub all_fresh : (first : Bool) (q : Request) (rows : List (Uuid × Row)) (then now : Table) → ListsSelected q.filter rows now → Covers (map fresh_in rows) first Nothing q then now
all_fresh first q rows then now h = (distinct-each side rows h.1, λ u. ap (option_and_then (shown_at first Nothing q u)) (find-each side rows u ∙ ap (option_map (side u)) (row_found q.filter rows now h u)) ∙ by u (finite.get now u))
  where
    side : Uuid → Row → Pair
    side u r = (None, Some r)

    by : (u : Uuid) (r : Option Row) → option_and_then (shown_at first Nothing q u) (option_map (side u) (option_and_then (λ x. cond (selects q.filter u x) (Some x) None) r)) ≡ shown_at first Nothing q u (finite.get then u, r)
    by u None = ap (λ o. only_shown first q.select (change (option_map (cut q.shape.columns u) o) None)) (sym (never u (finite.get then u)))
    by u (Some r) = at (selects q.filter u r) refl
      where
        at : (b : Bool) → selects q.filter u r ≡ b → option_and_then (shown_at first Nothing q u) (option_map (side u) (cond b (Some r) None)) ≡ shown_at first Nothing q u (finite.get then u, Some r)
        at true is = ap (λ o. only_shown first q.select (change (option_map (cut q.shape.columns u) o) (option_map (cut q.shape.columns u) (passed (selects q.filter) u (Some r))))) (sym (never u (finite.get then u)))
        at false is = λ i. only_shown first q.select (change (option_map (cut q.shape.columns u) (sym (never u (finite.get then u)) i)) (option_map (cut q.shape.columns u) (cond (sym is i) (Some r) None)))

-- ---- where the filter stays: those that were changed

module _ (cs : List (Uuid × Pair)) (then now : Table) (d : AreDistinct cs) (was : WasSo cs then now) where
  abbrev side : Uuid → Pair → Pair
  side u s = (s.0, finite.get now u)

  changed_found : (u : Uuid) → find uuid_cmp u (map (changed_in now) cs) ≡ option_map (side u) (find uuid_cmp u cs)
  changed_found u = find-each side cs u

  pub all_changed : (first : Bool) (q : Request) → Covers (map (changed_in now) cs) first Asked q then now
  all_changed first q = (
    distinct-each side cs d,
    λ u. ap (option_and_then (shown_at first Asked q u)) (changed_found u) ∙ by u (find uuid_cmp u cs) ∙ ap (λ r. shown_at first Asked q u (r, finite.get now u)) (sym (was u)),
  )
    where
      by : (u : Uuid) (c : Option Pair) → option_and_then (shown_at first Asked q u) (option_map (side u) c) ≡ shown_at first Asked q u (before (finite.get now u) c, finite.get now u)
      by u None = sym (only_changed first q u (finite.get now u))
      by u (Some c) = refl

-- ---- under a new filter: these, and all that weren't changed

or_later : (a b : Bool) → b ≡ true → (a || b) ≡ true
or_later true b e = refl
or_later false b e = e

none_of : (p : Uuid → Bool) (us : List Uuid) → list_any p us ≡ false → AllByRecursion (λ y. p y ≡ false) us
none_of p [] e = tt
none_of p (u ∷ us) e = by (p u) refl e (none_of p us)
  where
    by : (b : Bool) → p u ≡ b → (b || list_any p us) ≡ false → (list_any p us ≡ false → AllByRecursion (λ y. p y ≡ false) us) → AllByRecursion (λ y. p y ≡ false) (u ∷ us)
    by true is h rest = absurd (true≢false h)
    by false is h rest = (is, rest h)

all-++ : (P : Uuid → Type 0) (us ws : List Uuid) → AllByRecursion P us → AllByRecursion P ws → AllByRecursion P (us ++ ws)
all-++ P [] ws h k = k
all-++ P (u ∷ us) ws h k = (h.0, all-++ P us ws h.1 k)

distinct-++ : (us ws : List Uuid) → IsDistinct (eq_by_cmp uuid_cmp) us → IsDistinct (eq_by_cmp uuid_cmp) ws → ((q : Uuid) → list_any (eq_by_cmp uuid_cmp q) us ≡ true → list_any (eq_by_cmp uuid_cmp q) ws ≡ false) → IsDistinct (eq_by_cmp uuid_cmp) (us ++ ws)
distinct-++ [] ws h k apart = k
distinct-++ (u ∷ us) ws h k apart =
    IsDistinct-cons (eq_by_cmp uuid_cmp) u (us ++ ws)
    (all-++ _ us ws (IsDistinct-head (eq_by_cmp uuid_cmp) u us h) (none_of (eq_by_cmp uuid_cmp u) ws (apart u (ap (λ b. b || list_any (eq_by_cmp uuid_cmp u) us) (keys_equivalent.refl u)))))
    (distinct-++ us ws (IsDistinct-tail (eq_by_cmp uuid_cmp) u us h) k (λ q e. apart q (or_later (eq_by_cmp uuid_cmp q u) (list_any (eq_by_cmp uuid_cmp q) us) e)))

keys-++ : {X : Type 0} (xs ys : List (Uuid × X)) → keys_of (xs ++ ys) ≡ keys_of xs ++ keys_of ys
keys-++ [] ys = refl
keys-++ (x ∷ xs) ys = ap (λ us. x.0 ∷ us) (keys-++ xs ys)

abbrev or_else : {X : Type 0} → Option X → Option X → Option X
or_else None r = r
or_else (Some x) r = Some x

find-++ : {X : Type 0} (xs ys : List (Uuid × X)) (q : Uuid) → find uuid_cmp q (xs ++ ys) ≡ or_else (find uuid_cmp q xs) (find uuid_cmp q ys)
find-++ [] ys q = refl
find-++ (x ∷ xs) ys q = by (eq_by_cmp uuid_cmp q x.0) (find-++ xs ys q)
  where
    by : (b : Bool) → find uuid_cmp q (xs ++ ys) ≡ or_else (find uuid_cmp q xs) (find uuid_cmp q ys) → cond b (Some x.1) (find uuid_cmp q (xs ++ ys)) ≡ or_else (cond b (Some x.1) (find uuid_cmp q xs)) (find uuid_cmp q ys)
    by true rest = refl
    by false rest = rest

-- the rest of the rows, by a test of their identifiers
module _ {X : Type 0} (p : Uuid → Bool) where
  abbrev rest_of : List (Uuid × X) → List (Uuid × X)
  rest_of rows = filter (λ e. not (p e.0)) rows

  find-rest : (rows : List (Uuid × X)) (q : Uuid) → p q ≡ false → find uuid_cmp q (rest_of rows) ≡ find uuid_cmp q rows
  find-rest [] q out = refl
  find-rest (e ∷ es) q out = by (eq_by_cmp uuid_cmp q e.0) refl (p e.0) refl (find-rest es q out)
    where
      by : (b : Bool) → eq_by_cmp uuid_cmp q e.0 ≡ b → (a : Bool) → p e.0 ≡ a → find uuid_cmp q (rest_of es) ≡ find uuid_cmp q es → find uuid_cmp q (cond (not a) (e ∷ rest_of es) (rest_of es)) ≡ cond b (Some e.1) (find uuid_cmp q es)
      by true is true inside h = absurd (true≢false (sym inside ∙ ap p (sym (same_key uuid_cmp-IsAntisymmetric q e.0 is)) ∙ out))
      by true is false inside h = ap (λ b. cond b (Some e.1) (find uuid_cmp q (rest_of es))) is
      by false is true inside h = h
      by false is false inside h = ap (λ b. cond b (Some e.1) (find uuid_cmp q (rest_of es))) is ∙ h

  none-rest : (rows : List (Uuid × X)) (q : Uuid) → p q ≡ true → list_any (eq_by_cmp uuid_cmp q) (keys_of (rest_of rows)) ≡ false
  none-rest [] q inside = refl
  none-rest (e ∷ es) q inside = by (eq_by_cmp uuid_cmp q e.0) refl (p e.0) refl (none-rest es q inside)
    where
      by : (b : Bool) → eq_by_cmp uuid_cmp q e.0 ≡ b → (a : Bool) → p e.0 ≡ a → list_any (eq_by_cmp uuid_cmp q) (keys_of (rest_of es)) ≡ false → list_any (eq_by_cmp uuid_cmp q) (keys_of (cond (not a) (e ∷ rest_of es) (rest_of es))) ≡ false
      by b is true here h = h
      by true is false here h = absurd (true≢false (sym inside ∙ ap p (same_key uuid_cmp-IsAntisymmetric q e.0 is) ∙ here))
      by false is false here h = ap (λ b. b || list_any (eq_by_cmp uuid_cmp q) (keys_of (rest_of es))) is ∙ h

-- of rows, those that pass a test
module _ {X : Type 0} (s : Uuid × X → Bool) where
  all-passed : (P : Uuid → Type 0) (rows : List (Uuid × X)) → AllByRecursion P (keys_of rows) → AllByRecursion P (keys_of (filter s rows))
  all-passed P [] h = tt
  all-passed P (e ∷ es) h = by (s e) (all-passed P es h.1)
    where
      by : (a : Bool) → AllByRecursion P (keys_of (filter s es)) → AllByRecursion P (keys_of (cond a (e ∷ filter s es) (filter s es)))
      by true r = (h.0, r)
      by false r = r

  distinct-passed : (rows : List (Uuid × X)) → AreDistinct rows → AreDistinct (filter s rows)
  distinct-passed [] d = d
  distinct-passed (e ∷ es) d = by (s e) (distinct-passed es (IsDistinct-tail (eq_by_cmp uuid_cmp) e.0 (keys_of es) d))
    where
      by : (a : Bool) → AreDistinct (filter s es) → AreDistinct (cond a (e ∷ filter s es) (filter s es))
      by true r = IsDistinct-cons (eq_by_cmp uuid_cmp) e.0 (keys_of (filter s es)) (all-passed _ es (IsDistinct-head (eq_by_cmp uuid_cmp) e.0 (keys_of es) d)) r
      by false r = r

named_found : (cs : List (Uuid × Pair)) (q : Uuid) → is_changed cs q ≡ is_some (find uuid_cmp q cs)
named_found [] q = refl
named_found (c ∷ cs) q = by (eq_by_cmp uuid_cmp q c.0) (named_found cs q)
  where
    by : (b : Bool) → is_changed cs q ≡ is_some (find uuid_cmp q cs) → (b || is_changed cs q) ≡ is_some (cond b (Some c.1) (find uuid_cmp q cs))
    by true rest = refl
    by false rest = rest

-- of a row that stayed nothing is shown, where it was told and is asked, or neither
not_shown : (first : Bool) (w : Told) (q : Request) (u : Uuid) (r : Row) → tells w q.filter u r ≡ selects q.filter u r → shown_at first w q u (Some r, Some r) ≡ None
not_shown first w q u r same =
    ap (λ b. only_shown first q.select (change (option_map (cut q.shape.columns u) (cond b (Some r) None)) (option_map (cut q.shape.columns u) (passed (selects q.filter) u (Some r))))) same
    ∙ only_changed first q u (Some r)

pub all_apart : (cs : List (Uuid × Pair)) (rows : List (Uuid × Row)) (d : Filter) (then now : Table) → AreDistinct cs → WasSo cs then now → ListsSelected d rows now → (first : Bool) (w : Told) (q : Request)
    → ((u : Uuid) (r : Row) → selects d u r ≡ false → tells w q.filter u r ≡ selects q.filter u r)
    → Covers (map (changed_in now) cs ++ map stayed_in (unchanged cs rows)) first w q then now
all_apart cs rows d then now distinct was h first w q apart_by = (subst (IsDistinct (eq_by_cmp uuid_cmp)) (sym (keys-++ front back)) (distinct-++ (keys_of front) (keys_of back) (distinct-each changed_side cs distinct) (distinct-each stayed_side (unchanged cs rows) (distinct-passed (λ e. not (is_changed cs e.0)) rows h.1)) apart), λ u. ap (option_and_then (shown_at first w q u)) (find-++ front back u ∙ (λ i. or_else (find-each changed_side cs u i) (find-each stayed_side (unchanged cs rows) u i))) ∙ by u (find uuid_cmp u cs) refl (finite.get now u) refl ∙ ap (λ r. shown_at first w q u (r, finite.get now u)) (sym (was u)))
  where
    changed_side : Uuid → Pair → Pair
    changed_side u s = (s.0, finite.get now u)

    stayed_side : Uuid → Row → Pair
    stayed_side u r = (Some r, Some r)

    front : List (Uuid × Pair)
    front = map (changed_in now) cs

    back : List (Uuid × Pair)
    back = map stayed_in (unchanged cs rows)

    apart : (k : Uuid) → list_any (eq_by_cmp uuid_cmp k) (keys_of front) ≡ true → list_any (eq_by_cmp uuid_cmp k) (keys_of back) ≡ false
    apart k e = ap (list_any (eq_by_cmp uuid_cmp k)) (keys-each stayed_side (unchanged cs rows)) ∙ none-rest (is_changed cs) rows k (ap (list_any (eq_by_cmp uuid_cmp k)) (sym (keys-each changed_side cs)) ∙ e)

    by : (u : Uuid) (c : Option Pair) → find uuid_cmp u cs ≡ c → (r : Option Row) → finite.get now u ≡ r
        → option_and_then (shown_at first w q u) (or_else (option_map (changed_side u) c) (option_map (stayed_side u) (find uuid_cmp u (unchanged cs rows)))) ≡ shown_at first w q u (before (finite.get now u) c, finite.get now u)
    by u (Some c) is r there = refl
    by u None is r there =
        ap (λ o. option_and_then (shown_at first w q u) (option_map (stayed_side u) o)) (find-rest (is_changed cs) rows u (named_found cs u ∙ ap is_some is) ∙ row_found d rows now h u ∙ ap (option_and_then (λ x. cond (selects d u x) (Some x) None)) there)
        ∙ stays r
        ∙ ap (λ o. shown_at first w q u (o, o)) (sym there)
      where
        stays : (o : Option Row) → option_and_then (shown_at first w q u) (option_map (stayed_side u) (option_and_then (λ x. cond (selects d u x) (Some x) None) o)) ≡ shown_at first w q u (o, o)
        stays None = refl
        stays (Some x) = at (selects d u x) refl
          where
            at : (b : Bool) → selects d u x ≡ b → option_and_then (shown_at first w q u) (option_map (stayed_side u) (cond b (Some x) None)) ≡ shown_at first w q u (Some x, Some x)
            at true e = refl
            at false e = sym (not_shown first w q u x (apart_by u x e))

-- ---- small parts

pub none_distinct : (X : Type 0) → AreDistinct {X = X} []
unfolding IsDistinct
none_distinct X = tt
