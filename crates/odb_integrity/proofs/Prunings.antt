-- Pruning: the values that the code makes of the entries that aren't stale, and the rows in which nothing is.
use Rattle.std.specs.Prelude.{◌≡◌, ℕ, zero, suc, ◌<◌, Bool, true, false, cond, not, ◌&&◌, ◌||◌, ◌==◌, List, [], ◌∷◌, filter, filter_map, length, map, zip, is_some, unwrap_or, Option, Some, None, option_and_then, option_map}
use Rattle.std.specs.FinMap.Entries.{find}
use Rattle.std.specs.Cmp.{unsigned_Decides}
use Rattle.std.proofs.lemmas.Option.{same_Some}
use Rattle.std.specs.List.{cons_option, All, list_all, list_any}
use denote.Ref.{Bor}
use mathlib.Core.Path.{refl, sym, ap, subst, ◌∙◌}
use mathlib.Core.Logic.{inl, inr}
use mathlib.Core.Bool.{true≢false}
use Rattle.std.proofs.Common.{arith, get_or}
use Rattle.std.proofs.Math.ListN.{length-set}
use Rattle.odb_atoms.proofs.Atoms.{atom_cmp-IsAntisymmetric}
use Rattle.odb_atoms.proofs.FinMaps.{contains_key-keys, get-entries, get-map_entries, same_key, same_map}
use Rattle.odb_atoms.proofs.FinSets.{contains-from_list, contains-retain, same_set}
use Rattle.odb_atoms.proofs.Lists.{Member, any-map, any_gives, both}
use Rattle.odb_atoms.specs.Atom.{Atom, atom_cmp, same_atom}
use Rattle.odb_atoms.specs.ColType.{ColType, has_kind, is_a, value_base}
use Rattle.odb_atoms.specs.FinMap as finite
use Rattle.odb_atoms.specs.FinSet as set
use Rattle.odb_atoms.specs.Members.{map_fault, set_fault}
use Rattle.odb_atoms.specs.Row.{Row}
use Rattle.odb_atoms.specs.Value.{Atoms, Pairs, Value, atoms, map_of, set_of}
use Rattle.odb_atoms.specs.Represented.Atom.{atom_of}
use Rattle.odb_atoms.specs.Represented.AtomOrder.{atom_cmp_total}
use Rattle.odb_atoms.specs.Represented.Value.{Lists, pair_of}
use Rattle.odb_atoms.specs.declared.atom.Atom as declared
use Rattle.odb_atoms.specs.declared.value.Entries.TheVariants as entries
use Rattle.odb_mutate.proofs.Distinct.{IsDistinct, distinct-filter, distinct-rising, map_fault-none, set_fault-none}
use Rattle.odb_mutate.proofs.Each.{all-filter, filter-map}
use Rattle.odb_mutate.proofs.Maps.{find-pairs, get-from_entries}
use Rattle.odb_schema.specs.Schema.{Column, Schema, columns_at}
use Rattle.odb_tables.specs.Database.{Db}
use Rattle.odb_tables.specs.Typed.{IsTyped, fits}
use Rattle.odb_integrity.specs.Settlement.{RowId, is_stale, pruned, pruned_row, pruned_value, row_of, same_row, weak_target}
use Rattle.odb_integrity.specs.Steps.{has_stale, pruning, row_has_stale, with_row, with_rows}
use Rattle.odb_integrity.specs.Touched.{Covers}
use Rattle.odb_integrity.proofs.Databases.{length-each_row, row_of-each_row, row_of-put, same_db, there_inside}
use Rattle.odb_integrity.proofs.Ids.{same_row_equal}

-- ---- what is stale

module _ (s : Schema) (db : Db) (t : ColType) where
  pub set_stale : (e : List declared.Atom) (v : Value) → Lists (entries.Set e) v → (k : Option ℕ) → k ≡ weak_target s t.key → list_any (λ a. is_stale db k (atom_of a)) e ≡ has_stale s db t v
  set_stale e (set_of elements) listed k key = sym (any-map (is_stale db k) atom_of e) ∙ ap (list_any (is_stale db k)) listed ∙ ap (λ k. list_any (is_stale db k) (set.items elements)) key
  set_stale e (map_of m) listed k key = absurd listed

  pub map_stale : (e : List (declared.Atom × declared.Atom)) (v : Value) → Lists (entries.Map e) v → (k w : Option ℕ) → k ≡ weak_target s t.key → w ≡ weak_target s (value_base t) → list_any (λ p. is_stale db k (atom_of p.0) || is_stale db w (atom_of p.1)) e ≡ has_stale s db t v
  map_stale e (set_of elements) listed k w key value = absurd listed
  map_stale e (map_of m) listed k w key value =
      sym (any-map (λ (p : Atom × Atom). is_stale db k p.0 || is_stale db w p.1) pair_of e)
      ∙ ap (list_any (λ p. is_stale db k p.0 || is_stale db w p.1)) listed
      ∙ (λ i. list_any (λ p. is_stale db (key i) p.0 || is_stale db (value i) p.1) (finite.entries_of m))

-- ---- the values that are made

any-filter_by : {A : Type 0} (e p : A → Bool) (b : Bool) → ((x : A) → e x ≡ true → p x ≡ b) → (xs : List A) → list_any e (filter p xs) ≡ (list_any e xs && b)
any-filter_by e p b at [] = refl
any-filter_by e p b at (x ∷ xs) = by (e x) refl (p x) refl b (at x) (any-filter_by e p b at xs)
  where
    none : (b : Bool) → (b && false) ≡ false
    none true = refl
    none false = refl

    by : (t : Bool) → e x ≡ t → (c : Bool) → p x ≡ c → (d : Bool) → (e x ≡ true → p x ≡ d) → list_any e (filter p xs) ≡ (list_any e xs && d) → list_any e (cond c (x ∷ filter p xs) (filter p xs)) ≡ ((t || list_any e xs) && d)
    by true t c is true h rest = ap (λ c. list_any e (cond c (x ∷ filter p xs) (filter p xs))) (sym is ∙ h t) ∙ ap (λ b. b || list_any e (filter p xs)) t
    by true t c is false h rest = ap (λ c. list_any e (cond c (x ∷ filter p xs) (filter p xs))) (sym is ∙ h t) ∙ rest ∙ none (list_any e xs)
    by false t true is d h rest = ap (λ b. b || list_any e (filter p xs)) t ∙ rest
    by false t false is d h rest = rest

retained : (elements : Atoms) (p : Atom → Bool) → atoms (filter p (set.items elements)) ≡ set.retain elements p
retained elements p =
    same_set atom_cmp_total atom_cmp-IsAntisymmetric _ (set.retain elements p) (λ q.
    contains-from_list atom_cmp_total (filter p (set.items elements)) q
    ∙ any-filter_by (same_atom q) p (p q) (λ x e. ap p (sym (same_key atom_cmp-IsAntisymmetric q x e))) (set.items elements)
    ∙ ap (λ b. b && p q) (sym (contains_key-keys elements q))
    ∙ sym (contains-retain atom_cmp_total atom_cmp-IsAntisymmetric elements p q))

retained_pairs : (m : Pairs) (stale : Atom → Atom → Bool) → finite.from_entries (filter (λ e. not (stale e.0 e.1)) m.entries) ≡ finite.map_entries (λ k v. cond (stale k v) None (Some v)) m
retained_pairs m stale =
    same_map atom_cmp_total atom_cmp-IsAntisymmetric _ (finite.map_entries (λ k v. cond (stale k v) None (Some v)) m) (λ q.
    get-from_entries (filter (λ e. not (stale e.0 e.1)) m.entries) q
    ∙ find-pairs (λ e. not (stale e.0 e.1)) q m.entries m.sorted
    ∙ ap (option_and_then (λ v. cond (not (stale q v)) (Some v) None)) (sym (get-entries m q))
    ∙ by q (finite.get m q)
    ∙ sym (get-map_entries atom_cmp_total atom_cmp-IsAntisymmetric (λ k v. cond (stale k v) None (Some v)) m q))
  where
    by : (q : Atom) (o : Option Atom) → option_and_then (λ v. cond (not (stale q v)) (Some v) None) o ≡ option_and_then (λ v. cond (stale q v) None (Some v)) o
    by q None = refl
    by q (Some v) = elim (stale q v) as (λ b. cond (not b) (Some v) None ≡ cond b None (Some v)) [ true ↦ refl | false ↦ refl ]

same_list : (xs : List Atom) → map (λ a. a) xs ≡ xs
same_list [] = refl
same_list (x ∷ xs) = ap (λ ys. x ∷ ys) (same_list xs)

module _ (s : Schema) (db : Db) (t : ColType) where
  kept_elements : (e : List declared.Atom) (elements : Atoms) (p : Atom → Bool) (left : List declared.Atom) → map atom_of e ≡ set.items elements → map atom_of left ≡ map atom_of (filter (λ a. p (atom_of a)) e) → map atom_of left ≡ filter p (set.items elements)
  kept_elements e elements p left listed is = is ∙ filter-map atom_of p e ∙ ap (filter p) listed

  pub set_left_fault : (e : List declared.Atom) (v : Value) → Lists (entries.Set e) v → has_kind t v ≡ true → (k : Option ℕ) (left : List declared.Atom) → map atom_of left ≡ map atom_of (filter (λ a. not (is_stale db k (atom_of a))) e) → set_fault (map atom_of left) ≡ None
  unfolding finite.keys
  set_left_fault e (set_of elements) listed kind k left is =
      let p : Atom → Bool = λ a. not (is_stale db k a) in
      let kinds = (both (cond (is_some t.value) false true) (list_all (is_a t.key.kind) (set.items elements)) kind).1 in
      ap set_fault (kept_elements e elements p left listed is ∙ sym (same_list (filter p (set.items elements)))) ∙ set_fault-none t.key.kind _ (subst (λ xs. list_all (is_a t.key.kind) xs ≡ true) (sym (same_list (filter p (set.items elements)))) (all-filter (is_a t.key.kind) p (set.items elements) kinds)) (distinct-filter (λ (a : Atom). a) p (set.items elements) (subst IsDistinct (sym (same_list (set.items elements))) (distinct-rising elements.entries elements.sorted)))
  set_left_fault e (map_of m) listed kind k left is = absurd listed

  pub set_left : (e : List declared.Atom) (v : Value) → Lists (entries.Set e) v → (k : Option ℕ) → k ≡ weak_target s t.key → (left : List declared.Atom) → map atom_of left ≡ map atom_of (filter (λ a. not (is_stale db k (atom_of a))) e) → set_of (atoms (map atom_of left)) ≡ pruned_value s db t v
  set_left e (set_of elements) listed k key left is =
      ap (λ xs. set_of (atoms xs)) (kept_elements e elements (λ a. not (is_stale db k a)) left listed is)
      ∙ ap set_of (retained elements (λ a. not (is_stale db k a)))
      ∙ ap (λ k. set_of (set.retain elements (λ a. not (is_stale db k a)))) key
  set_left e (map_of m) listed k key left is = absurd listed

  kept_pairs : (e : List (declared.Atom × declared.Atom)) (m : Pairs) (p : Atom × Atom → Bool) (left : List (declared.Atom × declared.Atom)) → map pair_of e ≡ m.entries → map pair_of left ≡ map pair_of (filter (λ a. p (pair_of a)) e) → map pair_of left ≡ filter p m.entries
  kept_pairs e m p left listed is = is ∙ filter-map pair_of p e ∙ ap (filter p) listed

  pub map_left_fault : (e : List (declared.Atom × declared.Atom)) (v : Value) → Lists (entries.Map e) v → has_kind t v ≡ true → (k w : Option ℕ) (left : List (declared.Atom × declared.Atom)) → map pair_of left ≡ map pair_of (filter (λ p. not (is_stale db k (atom_of p.0) || is_stale db w (atom_of p.1))) e) → map_fault (map pair_of left) ≡ None
  map_left_fault e (set_of elements) listed kind k w left is = absurd listed
  map_left_fault e (map_of m) listed kind k w left is =
      let p : Atom × Atom → Bool = λ a. not (is_stale db k a.0 || is_stale db w a.1) in
      let q : Atom × Atom → Bool = λ a. is_a t.key.kind a.0 && is_a (value_base t).kind a.1 in
      let kinds = (both (cond (is_some t.value) true false) (list_all q m.entries) kind).1 in
      ap map_fault (kept_pairs e m p left listed is) ∙ map_fault-none t.key.kind (value_base t).kind _ (all-filter q p m.entries kinds) (distinct-filter (λ (a : Atom × Atom). a.0) p m.entries (distinct-rising m.entries m.sorted))

  pub map_left : (e : List (declared.Atom × declared.Atom)) (v : Value) → Lists (entries.Map e) v → (k w : Option ℕ) → k ≡ weak_target s t.key → w ≡ weak_target s (value_base t) → (left : List (declared.Atom × declared.Atom)) → map pair_of left ≡ map pair_of (filter (λ p. not (is_stale db k (atom_of p.0) || is_stale db w (atom_of p.1))) e) → map_of (finite.from_entries (map pair_of left)) ≡ pruned_value s db t v
  map_left e (set_of elements) listed k w key value left is = absurd listed
  map_left e (map_of m) listed k w key value left is =
      ap (λ es. map_of (finite.from_entries es)) (kept_pairs e m (λ a. not (is_stale db k a.0 || is_stale db w a.1)) left listed is)
      ∙ ap map_of (retained_pairs m (λ a b. is_stale db k a || is_stale db w b))
      ∙ (λ i. map_of (finite.map_entries (λ a b. cond (is_stale db (key i) a || is_stale db (value i) b) None (Some b)) m))

-- ---- where nothing is stale

pub neither : (a b : Bool) → (a || b) ≡ false → (a ≡ false) × (b ≡ false)
neither true b e = absurd (true≢false e)
neither false b e = (refl, e)

pub not_is : (b c : Bool) → b ≡ not c → (d : Bool) → b ≡ d → c ≡ not d
not_is b true e d f = ap not (sym e ∙ f)
not_is b false e d f = ap not (sym e ∙ f)

pub not_found : {A : Type 0} (p : A → Bool) (xs : List A) → list_any p xs ≡ false → (x : A) → Member x xs → p x ≡ false
not_found p [] e x m = absurd m
not_found p (y ∷ ys) e x (inl h) = ap p h ∙ (neither _ _ e).0
not_found p (y ∷ ys) e x (inr m) = not_found p ys (neither _ _ e).1 x m

-- the entry of a key is a member
pub found_member : (q : Atom) (es : List (Atom × Atom)) (x : Atom) → find atom_cmp q es ≡ Some x → Member (q, x) es
found_member q [] x e = absurd (true≢false (sym (ap is_some e)))
found_member q (f ∷ es) x e = by (same_atom q f.0) refl e (found_member q es x)
  where
    by : (b : Bool) → same_atom q f.0 ≡ b → cond b (Some f.1) (find atom_cmp q es) ≡ Some x → (find atom_cmp q es ≡ Some x → Member (q, x) es) → Member (q, x) (f ∷ es)
    by true t e rest = inl (λ i. (same_key atom_cmp-IsAntisymmetric q f.0 t i, same_Some x f.1 (sym e) i))
    by false t e rest = inr (rest e)

all_retained : (elements : Atoms) (stale : Atom → Bool) → list_any stale (set.items elements) ≡ false → set.retain elements (λ a. not (stale a)) ≡ elements
all_retained elements stale none =
    same_set atom_cmp_total atom_cmp-IsAntisymmetric _ elements (λ q.
    contains-retain atom_cmp_total atom_cmp-IsAntisymmetric elements (λ a. not (stale a)) q
    ∙ tests (set.contains elements q) (stale q) (λ there.
    let w = any_gives (same_atom q) (set.items elements) (sym (contains_key-keys elements q) ∙ there) in
    ap stale (same_key atom_cmp-IsAntisymmetric q w.0 w.2) ∙ not_found stale (set.items elements) none w.0 w.1))
  where
    tests : (c b : Bool) → (c ≡ true → b ≡ false) → (c && not b) ≡ c
    tests true b h = ap not (h refl)
    tests false b h = refl

all_pairs_retained : (m : Pairs) (stale : Atom → Atom → Bool) → list_any (λ e. stale e.0 e.1) m.entries ≡ false → finite.map_entries (λ k v. cond (stale k v) None (Some v)) m ≡ m
all_pairs_retained m stale none =
    same_map atom_cmp_total atom_cmp-IsAntisymmetric _ m (λ q. get-map_entries atom_cmp_total atom_cmp-IsAntisymmetric (λ k v. cond (stale k v) None (Some v)) m q ∙ by q (finite.get m q) refl)
  where
    by : (q : Atom) (o : Option Atom) → finite.get m q ≡ o → option_and_then (λ v. cond (stale q v) None (Some v)) o ≡ o
    by q None e = refl
    by q (Some v) e = ap (λ b. cond b None (Some v)) (not_found (λ e. stale e.0 e.1) m.entries none (q, v) (found_member q m.entries v (sym (get-entries m q) ∙ e)))

module _ (s : Schema) (db : Db) where
  pub value_same : (t : ColType) (v : Value) → has_stale s db t v ≡ false → pruned_value s db t v ≡ v
  value_same t (set_of elements) none = ap set_of (all_retained elements (is_stale db (weak_target s t.key)) none)
  value_same t (map_of m) none = ap map_of (all_pairs_retained m (λ a b. is_stale db (weak_target s t.key) a || is_stale db (weak_target s (value_base t)) b) none)

  values_same : (cs : List Column) (vs : List Value) → length vs ≡ length cs → list_any (λ e. has_stale s db e.0.type e.1) (zip cs vs) ≡ false → map (λ e. pruned_value s db e.0.type e.1) (zip cs vs) ≡ vs
  values_same [] [] long none = refl
  values_same [] (v ∷ vs) long none = absurd (omega (arith, long))
  values_same (c ∷ cs) [] long none = refl
  values_same (c ∷ cs) (v ∷ vs) long none =
      let parts = neither (has_stale s db c.type v) (list_any (λ e. has_stale s db e.0.type e.1) (zip cs vs)) none in
      λ i. value_same c.type v parts.0 i ∷ values_same cs vs (omega (arith, long)) parts.1 i

  pub row_same : (x : RowId) (r : Row) → fits (columns_at s x.0) r ≡ true → row_has_stale s db x r ≡ false → pruned_row s db x r ≡ r
  row_same x r fit none =
      let parts = both (length r.columns == length (columns_at s x.0)) (list_all (λ e. has_kind e.0.type e.1) (zip (columns_at s x.0) r.columns)) fit in
      λ i. record r { columns = values_same (columns_at s x.0) r.columns ((unsigned_Decides (length r.columns) (length (columns_at s x.0))).0 parts.0) none i }

-- ---- rows put in

length-with_rows : (cs : List (RowId × Row)) (db : Db) → length (with_rows cs db) ≡ length db
length-with_rows [] db = refl
length-with_rows (c ∷ cs) db = length-with_rows cs (with_row db c) ∙ length-set db c.0.0 _

-- rows that are what o says of them
put_each : (o : RowId → Option Row) (cs : List (RowId × Row)) (db : Db) → ((c : RowId × Row) → Member c cs → (Some c.1 ≡ o c.0) × (c.0.0 < length db)) → (x : RowId) → row_of (with_rows cs db) x ≡ cond (list_any (λ c. same_row x c.0) cs) (o x) (row_of db x)
put_each o [] db h x = refl
put_each o (c ∷ cs) db h x =
    let here : (Some c.1 ≡ o c.0) × (c.0.0 < length db) = h c (inl refl) in
    let long : length (with_row db c) ≡ length db = length-set db c.0.0 _ in
    put_each o cs (with_row db c) (λ d m. let w : (Some d.1 ≡ o d.0) × (d.0.0 < length db) = h d (inr m) in (w.0, omega (arith, long, w.1))) x
    ∙ ap (λ r. cond (list_any (λ c. same_row x c.0) cs) (o x) r) (row_of-put db c.0.0 c.0.1 c.1 x here.1)
    ∙ tests (list_any (λ c. same_row x c.0) cs) (same_row x c.0) (o x) (Some c.1) (row_of db x) (λ e. here.0 ∙ ap o (sym (same_row_equal x c.0 e)))
  where
    tests : (a b : Bool) (p q r : Option Row) → (b ≡ true → q ≡ p) → cond a p (cond b q r) ≡ cond (b || a) p r
    tests true true p q r h = refl
    tests true false p q r h = refl
    tests false true p q r h = h refl
    tests false false p q r h = refl

module _ {A B : Type 0} (h : A → Option B) where
  in_first : (x : A) (y : B) (rest : List B) (o : Option B) → h x ≡ o → Member y (cons_option o rest) → (Member y rest → (z : A) × (h z ≡ Some y)) → (z : A) × (h z ≡ Some y)
  in_first x y rest None e m later = later m
  in_first x y rest (Some z) e (inl k) later = (x, e ∙ ap Some (sym k))
  in_first x y rest (Some z) e (inr k) later = later k

  of_filter_map : (xs : List A) (y : B) → Member y (filter_map h xs) → (x : A) × (h x ≡ Some y)
  of_filter_map [] y m = absurd m
  of_filter_map (x ∷ xs) y m = in_first x y (filter_map h xs) (h x) refl m (of_filter_map xs y)

module _ (s : Schema) (db : Db) where
  stale_at : RowId → Bool
  stale_at x = unwrap_or (option_map (row_has_stale s db x) (row_of db x)) false

  pruning-gives : (y : RowId) (c : RowId × Row) → pruning s db y ≡ Some c → (Some c.1 ≡ option_map (pruned_row s db c.0) (row_of db c.0)) × (c.0.0 < length db)
  pruning-gives y c e = by (row_of db y) refl e
    where
      made : (r : Row) → row_of db y ≡ Some r → (b : Bool) → cond b (Some (y, pruned_row s db y r)) None ≡ Some c → (Some c.1 ≡ option_map (pruned_row s db c.0) (row_of db c.0)) × (c.0.0 < length db)
      made r there true e =
          let same : c ≡ (y, pruned_row s db y r) = same_Some c (y, pruned_row s db y r) (sym e) in
          subst (λ (d : RowId × Row). (Some d.1 ≡ option_map (pruned_row s db d.0) (row_of db d.0)) × (d.0.0 < length db)) (sym same) (sym (ap (option_map (pruned_row s db y)) there), there_inside db y (ap is_some there))
      made r there false e = absurd (true≢false (sym (ap is_some e)))

      by : (o : Option Row) → row_of db y ≡ o → option_and_then (λ r. cond (row_has_stale s db y r) (Some (y, pruned_row s db y r)) None) o ≡ Some c → (Some c.1 ≡ option_map (pruned_row s db c.0) (row_of db c.0)) × (c.0.0 < length db)
      by None there e = absurd (true≢false (sym (ap is_some e)))
      by (Some r) there e = made r there (row_has_stale s db y r) e

  pub made_of : (rows : List RowId) (c : RowId × Row) → Member c (filter_map (pruning s db) rows) → (Some c.1 ≡ option_map (pruned_row s db c.0) (row_of db c.0)) × (c.0.0 < length db)
  made_of rows c m = let w = of_filter_map (pruning s db) rows c m in pruning-gives w.0 c w.1

  -- an id has a pruning where something of its row is stale
  any-prunings : (rows : List RowId) (x : RowId) → list_any (λ c. same_row x c.0) (filter_map (pruning s db) rows) ≡ (list_any (same_row x) rows && stale_at x)
  unfolding stale_at
  any-prunings [] x = refl
  any-prunings (y ∷ ys) x = by (row_of db y) refl (any-prunings ys x)
    where
      left : List (RowId × Row)
      left = filter_map (pruning s db) ys

      goes : (here later at y_at : Bool) → (here ≡ true → at ≡ y_at) → y_at ≡ false → (later && at) ≡ ((here || later) && at)
      goes true later at y_at h none = rw (h refl ∙ none) (both_false later)
        where
          both_false : (b : Bool) → (b && false) ≡ false
          both_false true = refl
          both_false false = refl
      goes false later at y_at h none = refl

      stays : (here later at y_at : Bool) → (here ≡ true → at ≡ y_at) → y_at ≡ true → (here || (later && at)) ≡ ((here || later) && at)
      stays true later at y_at h one = sym (h refl ∙ one)
      stays false later at y_at h one = refl

      by_test : (r : Row) → row_of db y ≡ Some r → (b : Bool) → row_has_stale s db y r ≡ b → list_any (λ c. same_row x c.0) (filter_map (pruning s db) ys) ≡ (list_any (same_row x) ys && unwrap_or (option_map (row_has_stale s db x) (row_of db x)) false)
          → list_any (λ c. same_row x c.0) (cons_option (cond b (Some (y, pruned_row s db y r)) None) (filter_map (pruning s db) ys)) ≡ ((same_row x y || list_any (same_row x) ys) && unwrap_or (option_map (row_has_stale s db x) (row_of db x)) false)
      by_test r there true is rest = ap (λ b. same_row x y || b) rest ∙ stays (same_row x y) (list_any (same_row x) ys) _ (unwrap_or (option_map (row_has_stale s db y) (row_of db y)) false) (λ e. ap (λ z. unwrap_or (option_map (row_has_stale s db z) (row_of db z)) false) (same_row_equal x y e)) (ap (λ o. unwrap_or (option_map (row_has_stale s db y) o) false) there ∙ is)
      by_test r there false is rest = rest ∙ goes (same_row x y) (list_any (same_row x) ys) _ (unwrap_or (option_map (row_has_stale s db y) (row_of db y)) false) (λ e. ap (λ z. unwrap_or (option_map (row_has_stale s db z) (row_of db z)) false) (same_row_equal x y e)) (ap (λ o. unwrap_or (option_map (row_has_stale s db y) o) false) there ∙ is)

      by : (o : Option Row) → row_of db y ≡ o → list_any (λ c. same_row x c.0) (filter_map (pruning s db) ys) ≡ (list_any (same_row x) ys && unwrap_or (option_map (row_has_stale s db x) (row_of db x)) false)
          → list_any (λ c. same_row x c.0) (cons_option (option_and_then (λ r. cond (row_has_stale s db y r) (Some (y, pruned_row s db y r)) None) o) (filter_map (pruning s db) ys)) ≡ ((same_row x y || list_any (same_row x) ys) && unwrap_or (option_map (row_has_stale s db x) (row_of db x)) false)
      by None there rest = rest ∙ goes (same_row x y) (list_any (same_row x) ys) _ (unwrap_or (option_map (row_has_stale s db y) (row_of db y)) false) (λ e. ap (λ z. unwrap_or (option_map (row_has_stale s db z) (row_of db z)) false) (same_row_equal x y e)) (ap (λ o. unwrap_or (option_map (row_has_stale s db y) o) false) there)
      by (Some r) there rest = by_test r there (row_has_stale s db y r) refl rest

  -- where each row that pruning changes is put, all are pruned
  pub all_pruned : (rows : List RowId) → Covers (row_has_stale s db) db rows → IsTyped s db → with_rows (filter_map (pruning s db) rows) db ≡ pruned s db
  unfolding stale_at
  all_pruned rows covers typed =
      same_db (with_rows (filter_map (pruning s db) rows) db) (pruned s db) (length-with_rows (filter_map (pruning s db) rows) db ∙ sym (length-each_row (λ x r. Some (pruned_row s db x r)) db)) (λ x.
      put_each (λ y. option_map (pruned_row s db y) (row_of db y)) (filter_map (pruning s db) rows) db (made_of rows) x
      ∙ ap (λ b. cond b (option_map (pruned_row s db x) (row_of db x)) (row_of db x)) (any-prunings rows x)
      ∙ by x (row_of db x) refl (list_any (same_row x) rows) refl
      ∙ sym (row_of-each_row (λ x r. Some (pruned_row s db x r)) db x))
    where
      by_test : (x : RowId) (r : Row) → row_of db x ≡ Some r → (l : Bool) → list_any (same_row x) rows ≡ l → (b : Bool) → row_has_stale s db x r ≡ b → cond (l && b) (Some (pruned_row s db x r)) (Some r) ≡ Some (pruned_row s db x r)
      by_test x r there true listed true is = refl
      by_test x r there false absent true is = absurd (true≢false (sym is ∙ covers x r there absent))
      by_test x r there true listed false is = ap Some (sym (row_same s db x r (typed.1 x.0 x.1 r there) is))
      by_test x r there false absent false is = ap Some (sym (row_same s db x r (typed.1 x.0 x.1 r there) is))

      nothing : (b : Bool) → ◌≡◌ {A = Option Row} (cond (b && false) None None) None
      nothing true = refl
      nothing false = refl

      by : (x : RowId) (o : Option Row) → row_of db x ≡ o → (l : Bool) → list_any (same_row x) rows ≡ l → cond (l && unwrap_or (option_map (row_has_stale s db x) o) false) (option_map (pruned_row s db x) o) o ≡ option_and_then (λ r. Some (pruned_row s db x r)) o
      by x None there l is = nothing l
      by x (Some r) there l is = by_test x r there l is (row_has_stale s db x r) refl

member_at : {A : Type 0} (xs : List A) (k : ℕ) (d : A) → k < length xs → Member (get_or xs k d) xs
member_at [] k d low = absurd (omega (arith, low))
member_at (x ∷ xs) zero d low = inl refl
member_at (x ∷ xs) (suc k) d low = inr (member_at xs k d (omega (arith, low)))

pub prunings_inside : (s : Schema) (db : Db) (rows : List RowId) (cs : List (RowId × Row)) → cs ≡ filter_map (pruning s db) rows → All (λ c. c.0.0 < length db) cs
prunings_inside s db rows cs is k d low = (made_of s db rows (get_or cs k d) (subst (Member (get_or cs k d)) is (member_at cs k d low))).1
