-- The rows that a `select` prints.
use Rattle.std.specs.Prelude.{◌≡◌, ℕ, T, Bool, true, false, cond, not, ◌||◌, List, [], ◌∷◌, ◌++◌, filter, flat_map, map as map_list}
use Rattle.std.proofs.Common.{arith}
use Rattle.std.proofs.lemmas.Bool.Decides.{nat_tests}
use Rattle.std.proofs.lemmas.Grind.{flat_map-append}
use Rattle.std.proofs.lemmas.List.{append-nil, append_assoc}
use Rattle.std.proofs.lemmas.List.Folds.{flat_map-map}
use Rattle.std.specs.Cmp.{tied_itself}
use Rattle.std.specs.FinMap.Entries.{below_all, is_sorted}
use Rattle.std.specs.List.{list_any}
use Rattle.std.specs.Ordering.{eq_by_cmp, is_eq}
use Rattle.std.specs.declared.cmp.Ordering.TheVariants.{Less}
use mathlib.Core.Bool.{true≢false}
use mathlib.Core.Path.{refl, sym, ap, ◌∙◌}
use Rattle.odb_atoms.specs.Atom.{Atom, atom_cmp, uuid}
use Rattle.odb_atoms.specs.FinMap as map
use Rattle.odb_atoms.specs.FinSet as set
use Rattle.odb_atoms.specs.Represented.AtomOrder.{atom_cmp_total}
use Rattle.odb_atoms.specs.Row.{Row, Selector, cell, declared, own_uuid, own_version, same_selector}
use Rattle.odb_atoms.specs.Uuid.{Uuid, uuid_cmp}
use Rattle.odb_atoms.specs.Value.{Value, atoms, map_of, same_values, set_of}
use Rattle.odb_atoms.proofs.Atoms.{atom_cmp-IsAntisymmetric}
use Rattle.odb_atoms.proofs.FinMaps.{same_key}
use Rattle.odb_atoms.proofs.FinSets.{contains-from_list}
use Rattle.odb_atoms.proofs.Lists.{both}
use Rattle.odb_atoms.proofs.Rising.{first, less, second}
use Rattle.odb_atoms.proofs.Values.{same_value-equal}
use Rattle.odb_ops.specs.Execution.{distinct, selected}
use Rattle.odb_ops.specs.Represented.Cells.{given_once}
use Rattle.odb_ops.specs.Represented.Layout.{content, entry_tokens, row_tokens}
use Rattle.odb_ops.proofs.RowSets.{distinct-push}
use Rattle.odb_schema.specs.Schema.{Column}
use Rattle.odb_tables.specs.Database.{Table}
use Rattle.odb_tables.specs.Represented.Key.{uuid_cmp_total}

-- ---- row by row

pub each_printed : (cs : List Column) (columns : List Selector) (found : Table) → flat_map (entry_tokens cs columns) (map.entries_of found) ≡ flat_map (row_tokens cs columns) (selected columns found)
each_printed cs columns found = sym (flat_map-map (row_tokens cs columns) (content columns) (map.entries_of found))

-- ---- of several with one content the first

pub once_more : {X : Type 0} (f : List Value → List X) (rows : List (List Value)) (row : List Value) → flat_map f (distinct rows) ++ flat_map f (given_once rows row) ≡ flat_map f (distinct (rows ++ row ∷ []))
once_more f rows row = by (list_any (same_values row) rows) ∙ ap (flat_map f) (sym (distinct-push rows row))
  where
    by : (b : Bool) → flat_map f (distinct rows) ++ flat_map f (cond b [] (row ∷ [])) ≡ flat_map f (cond b (distinct rows) (distinct rows ++ row ∷ []))
    by true = append-nil (flat_map f (distinct rows))
    by false = sym (flat_map-append f (distinct rows) (row ∷ []))

abbrev pub IsPrinted : {X : Type 0} → (List Value → List X) → List X → List X → List (List Value) → Type 0
IsPrinted f front now rows = now ≡ front ++ flat_map f (distinct rows)

pub first_more : {X : Type 0} (f : List Value → List X) (rows : List (List Value)) (row : List Value) (front old new : List X)
    → old ≡ front ++ flat_map f (distinct rows) → new ≡ old ++ flat_map f (given_once rows row) → new ≡ front ++ flat_map f (distinct (rows ++ row ∷ []))
first_more f rows row front old new is more =
    more ∙ ap (λ ts. ts ++ flat_map f (given_once rows row)) is ∙ append_assoc front (flat_map f (distinct rows)) (flat_map f (given_once rows row)) ∙ ap (λ ts. front ++ ts) (once_more f rows row)

-- ---- rows of which `_uuid` is told

same_uuid : (u w : Uuid) → uuid u ≡ uuid w → u ≡ w
same_uuid u w e = ap (λ a. number_in a u) e
  where
    number_in : Atom → Uuid → Uuid
    number_in (uuid v) d = v
    number_in a d = d

contains_in : Value → Atom → Bool
contains_in (set_of s) a = set.contains s a
contains_in (map_of m) a = false

own_there : (u w : Uuid) → set_of (atoms (uuid u ∷ [])) ≡ set_of (atoms (uuid w ∷ [])) → u ≡ w
unfolding contains_in
own_there u w e =
    let itself : (eq_by_cmp atom_cmp (uuid u) (uuid u) || false) ≡ true = ap (λ o. is_eq o || false) (tied_itself atom_cmp_total (uuid u)) in
    let has : (eq_by_cmp atom_cmp (uuid u) (uuid w) || false) ≡ true =
    sym (contains-from_list atom_cmp_total (uuid w ∷ []) (uuid u)) ∙ ap (λ v. contains_in v (uuid u)) (sym e) ∙ contains-from_list atom_cmp_total (uuid u ∷ []) (uuid u) ∙ itself in
    same_uuid u w (same_key atom_cmp-IsAntisymmetric (uuid u) (uuid w) (alone_true (eq_by_cmp atom_cmp (uuid u) (uuid w)) has))
  where
    alone_true : (b : Bool) → (b || false) ≡ true → b ≡ true
    alone_true true h = refl
    alone_true false h = h

same_own : (e f : Uuid × Row) (columns : List Selector) → list_any (same_selector own_uuid) columns ≡ true → same_values (content columns e) (content columns f) ≡ true → e.0 ≡ f.0
same_own e f [] own same = absurd (true≢false (sym own))
same_own e f (own_uuid ∷ columns) own same = own_there e.0 f.0 (same_value-equal (cell e.0 e.1 own_uuid) (cell f.0 f.1 own_uuid) (both _ _ same).0)
same_own e f (own_version ∷ columns) own same = same_own e f columns own (both _ _ same).1
same_own e f (declared i ∷ columns) own same = same_own e f columns (ap (λ b. b || list_any (same_selector own_uuid) columns) (sym (is_declared i)) ∙ own) (both _ _ same).1
  where
    is_declared : (i : ℕ) → same_selector own_uuid (declared i) ≡ false
    is_declared i = grind (arith, nat_tests)

module _ (columns : List Selector) (own : list_any (same_selector own_uuid) columns ≡ true) where
  apart : (e f : Uuid × Row) → uuid_cmp e.0 f.0 ≡ Less → same_values (content columns e) (content columns f) ≡ false
  apart e f low = by (same_values (content columns e) (content columns f)) refl
    where
      by : (b : Bool) → same_values (content columns e) (content columns f) ≡ b → b ≡ false
      by true same = ap is_eq (sym (tied_itself uuid_cmp_total e.0)) ∙ ap (λ u. is_eq (uuid_cmp e.0 u)) (same_own e f columns own same) ∙ ap is_eq low
      by false same = refl

  all_apart : (e : Uuid × Row) (es : List (Uuid × Row)) → T (below_all uuid_cmp e.0 es) → filter (λ q. not (same_values (content columns e) q)) (map_list (content columns) es) ≡ map_list (content columns) es
  all_apart e [] low = refl
  all_apart e (f ∷ es) low = by (same_values (content columns e) (content columns f)) (apart e f (less _ (first _ _ low))) (all_apart e es (second _ _ low))
    where
      others : List (List Value)
      others = filter (λ q. not (same_values (content columns e) q)) (map_list (content columns) es)

      by : (b : Bool) → b ≡ false → others ≡ map_list (content columns) es → cond (not b) (content columns f ∷ others) others ≡ content columns f ∷ map_list (content columns) es
      by b is rest = ap (λ x. cond (not x) (content columns f ∷ others) others) is ∙ ap (λ rows. content columns f ∷ rows) rest

  each_its_own : (es : List (Uuid × Row)) → T (is_sorted uuid_cmp es) → distinct (map_list (content columns) es) ≡ map_list (content columns) es
  each_its_own [] up = refl
  each_its_own (e ∷ es) up =
      ap (λ rows. content columns e ∷ filter (λ q. not (same_values (content columns e) q)) rows) (each_its_own es (second _ _ up))
      ∙ ap (λ rows. content columns e ∷ rows) (all_apart e es (first _ _ up))

  -- each is the only one with its content
  pub all_distinct : (table : Table) → distinct (selected columns table) ≡ selected columns table
  all_distinct table = each_its_own table.entries table.sorted

pub any_mapped : {X Y : Type 0} (p : Y → Bool) (f : X → Y) (xs : List X) → list_any (λ x. p (f x)) xs ≡ list_any p (map_list f xs)
any_mapped p f [] = refl
any_mapped p f (x ∷ xs) = ap (λ b. p (f x) || b) (any_mapped p f xs)
