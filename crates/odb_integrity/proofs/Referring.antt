-- Where a row refers to another one, it mentions it by a reference of the schema.
use Rattle.std.specs.Prelude.{◌≡◌, ◌⊎◌, ℕ, zero, suc, ◌+◌, ◌<◌, Bool, true, false, cond, not, ◌&&◌, ◌||◌, ◌==◌, List, [], ◌∷◌, ◌++◌, drop, filter_map, flat_map, length, map as map_list, slice_get, take, zip, is_some, unwrap_or, Option, Some, None, option_map, option_to_list}
use Rattle.std.specs.List.{enumerate_from, list_any}
use Rattle.std.specs.Cmp.{unsigned_Decides, unsigned_tied}
use Rattle.std.specs.Ordering.{eq_by_cmp}
use denote.Ref.{Bor}
use mathlib.Core.Path.{refl, sym, ap, subst, ◌∙◌}
use mathlib.Core.Logic.{inl, inr}
use mathlib.Core.Bool.{true≢false}
use Rattle.std.proofs.Common.{append_assoc, arith, get_or}
use Rattle.std.proofs.lemmas.List.{drop_more, take_more}
use Rattle.std.proofs.lemmas.List.Folds.{list_any-append}
use Rattle.std.proofs.lemmas.Option.{none-some, same_Some}
use Rattle.odb_atoms.proofs.Atoms.{uuid_cmp-IsAntisymmetric}
use Rattle.odb_atoms.proofs.Equal.{same_atom-itself}
use Rattle.odb_atoms.proofs.FinMaps.{contains_key-keys, same_key}
use Rattle.odb_atoms.proofs.Lists.{Member, any-map, any_gives, both, either, gives_any, member-++, or_right}
use Rattle.odb_atoms.specs.Atom.{Atom, atom_cmp, boolean, integer, same_atom, text, uuid}
use Rattle.odb_atoms.specs.ColType.{Base, ColType, value_base}
use Rattle.odb_atoms.specs.FinMap as map
use Rattle.odb_atoms.specs.FinSet as set
use Rattle.odb_atoms.specs.Members.{has}
use Rattle.odb_atoms.specs.Represented.Atom.{atom_of, uuid_of}
use Rattle.odb_atoms.specs.Represented.Value.{Lists, pair_of}
use Rattle.odb_atoms.specs.Row.{Row, cell, declared}
use Rattle.odb_atoms.specs.Uuid.{uuid_cmp, zero_uuid}
use Rattle.odb_atoms.specs.Value.{Atoms, Pairs, Value, map_of, set_of}
use Rattle.odb_atoms.specs.declared.atom.Atom as declared_atom
use Rattle.odb_atoms.specs.declared.value.Entries.TheVariants as entries
use Rattle.odb_schema.specs.Schema.{Column, Schema, TableSchema, columns_at}
use Rattle.odb_tables.specs.Database.{Db}
use Rattle.odb_tables.specs.Indexed.{mentions as value_mentions}
use Rattle.odb_integrity.specs.References.{names}
use Rattle.odb_integrity.specs.Represented.Reference.{base_references, column_references, mentions_by, references_of}
use Rattle.odb_integrity.specs.Settlement.{RowId, is_referred, is_stale, is_there, is_weak, referent, refers, row_ids, row_of, same_row, strong_of_row, strong_of_value, strong_target, target, weak_target}
use Rattle.odb_integrity.specs.Touched.{is_referrer}
use Rattle.odb_integrity.specs.Steps.{has_stale, row_has_stale}
use Rattle.odb_integrity.specs.declared.referrers.Reference.{Reference}
use Rattle.odb_integrity.proofs.Databases.{any-row_ids, any_both}
use Rattle.odb_integrity.proofs.Ids.{member, same_row_equal}
use Rattle.odb_integrity.proofs.Prunings.{not_found}
use Rattle.odb_integrity.proofs.Settles.{any-filter_map, any-flat_map, none_found}

-- ---- members of lists

in_left : {A : Type 0} (y : A) (xs ys : List A) → Member y xs → Member y (xs ++ ys)
in_left y [] ys m = absurd m
in_left y (x ∷ xs) ys (inl h) = inl h
in_left y (x ∷ xs) ys (inr m) = inr (in_left y xs ys m)

in_right : {A : Type 0} (y : A) (xs ys : List A) → Member y ys → Member y (xs ++ ys)
in_right y [] ys m = m
in_right y (x ∷ xs) ys m = inr (in_right y xs ys m)

in_part : {A B : Type 0} (f : A → List B) (xs : List A) (x : A) (y : B) → Member x xs → Member y (f x) → Member y (flat_map f xs)
in_part f [] x y m n = absurd m
in_part f (z ∷ zs) x y (inl h) n = in_left y (f z) (flat_map f zs) (subst (λ w. Member y (f w)) h n)
in_part f (z ∷ zs) x y (inr m) n = in_right y (f z) (flat_map f zs) (in_part f zs x y m n)

pub in_enumerated : {X : Type 0} (xs : List X) (n i m : ℕ) (x : X) → m ≡ n + i → slice_get xs i ≡ Some x → Member (m, x) (enumerate_from n xs)
in_enumerated [] n zero m x e is = absurd (none-some x is)
in_enumerated [] n (suc i) m x e is = absurd (none-some x is)
in_enumerated (y ∷ ys) n zero m x e is = let same : m ≡ n = omega arith in inl (λ j. (same j, same_Some x y (sym is) j))
in_enumerated (y ∷ ys) n (suc i) m x e is = inr (in_enumerated ys (n + 1) i m x (omega arith) is)

nothing_at : {X : Type 0} (i : ℕ) (x : X) → ◌≡◌ {A = Option X} (slice_get [] i) (Some x) → Member x []
nothing_at zero x e = absurd (none-some x e)
nothing_at (suc i) x e = absurd (none-some x e)

-- the place of a pair of two lists
pub place_in : {A B : Type 0} (xs : List A) (ys : List B) (e : A × B) → Member e (zip xs ys) → (i : ℕ) × (slice_get xs i ≡ Some e.0) × (slice_get ys i ≡ Some e.1)
place_in [] ys e m = absurd m
place_in (x ∷ xs) [] e m = absurd m
place_in (x ∷ xs) (y ∷ ys) e (inl h) = (zero, (λ i. Some ((sym h i).0)), (λ i. Some ((sym h i).1)))
place_in (x ∷ xs) (y ∷ ys) e (inr m) = let w = place_in xs ys e m in (suc w.0, w.1, w.2)

-- ---- the atoms by which a value names a row, where `leads` says to which table a base type refers

abbrev pub NamesIn : (Base → Option ℕ) → ColType → Value → RowId → Type 0
NamesIn leads t (set_of v) y = Member (uuid y.1) (set.items v) × (leads t.key ≡ Some y.0)
NamesIn leads t (map_of m) y = (e : Atom × Atom) × Member e (map.entries_of m) × (((e.0 ≡ uuid y.1) × (leads t.key ≡ Some y.0)) ⊎ ((e.1 ≡ uuid y.1) × (leads (value_base t) ≡ Some y.0)))

-- the column at a place names the row
abbrev pub Names : (Base → Option ℕ) → Schema → RowId → Row → RowId → Type 0
Names leads s x r y = (i : ℕ) × (c : Column) × (v : Value) × (slice_get (columns_at s x.0) i ≡ Some c) × (slice_get r.columns i ≡ Some v) × Member (c, v) (zip (columns_at s x.0) r.columns) × NamesIn leads c.type v y

-- a test of the row that an atom names
abbrev passes : (RowId → Bool) → Option ℕ → Atom → Bool
passes q o a = unwrap_or (option_map q (referent o a)) false

named : (q : RowId → Bool) (o : Option ℕ) (a : Atom) → passes q o a ≡ true → (y : RowId) × (q y ≡ true) × (a ≡ uuid y.1) × (o ≡ Some y.0)
named q o (integer z) e = absurd (true≢false (sym e))
named q o (boolean b) e = absurd (true≢false (sym e))
named q o (text t) e = absurd (true≢false (sym e))
named q None (uuid u) e = absurd (true≢false (sym e))
named q (Some k) (uuid u) e = ((k, u), e, refl, refl)

pub names_passes : (q : RowId → Bool) (o : Option ℕ) (a : Atom) (y : RowId) → q y ≡ true → a ≡ uuid y.1 → o ≡ Some y.0 → passes q o a ≡ true
names_passes q o a y e is at = (λ i. passes q (at i) (is i)) ∙ e

-- ---- strong references

module _ (s : Schema) (y : RowId) where
  named_same : (o : Option ℕ) (a : Atom) → passes (same_row y) o a ≡ true → (a ≡ uuid y.1) × (o ≡ Some y.0)
  named_same o a e =
      let w = named (same_row y) o a e in
      let same = same_row_equal y w.0 w.1 in
      (w.2 ∙ (λ i. uuid ((sym same i).1)), w.3 ∙ (λ i. Some ((sym same i).0)))

  strong_in : (t : ColType) (v : Value) → list_any (same_row y) (strong_of_value s t v) ≡ true → NamesIn (strong_target s) t v y
  unfolding map.keys
  strong_in t (set_of v) e =
      let w = any_gives (passes (same_row y) (strong_target s t.key)) (set.items v) (sym (any-filter_map (same_row y) (referent (strong_target s t.key)) (set.items v)) ∙ e) in
      let h = named_same (strong_target s t.key) w.0 w.2 in
      (subst (λ a. Member a (set.items v)) h.0 w.1, h.1)
  strong_in t (map_of m) e = by (either (list_any (same_row y) (filter_map (referent (strong_target s t.key)) (map.keys m))) (list_any (same_row y) (filter_map (referent (strong_target s (value_base t))) (map.values m))) (sym (list_any-append (same_row y) (filter_map (referent (strong_target s t.key)) (map.keys m)) (filter_map (referent (strong_target s (value_base t))) (map.values m))) ∙ e))
    where
      by : (list_any (same_row y) (filter_map (referent (strong_target s t.key)) (map.keys m)) ≡ true) ⊎ (list_any (same_row y) (filter_map (referent (strong_target s (value_base t))) (map.values m)) ≡ true) → NamesIn (strong_target s) t (map_of m) y
      by (inl h) =
          let w = any_gives (λ (d : Atom × Atom). passes (same_row y) (strong_target s t.key) d.0) (map.entries_of m) (sym (any-filter_map (same_row y) (referent (strong_target s t.key)) (map.keys m) ∙ any-map (passes (same_row y) (strong_target s t.key)) (λ (d : Atom × Atom). d.0) (map.entries_of m)) ∙ h) in
          (w.0, w.1, inl (named_same (strong_target s t.key) w.0.0 w.2))
      by (inr h) =
          let w = any_gives (λ (d : Atom × Atom). passes (same_row y) (strong_target s (value_base t)) d.1) (map.entries_of m) (sym (any-filter_map (same_row y) (referent (strong_target s (value_base t))) (map.values m) ∙ any-map (passes (same_row y) (strong_target s (value_base t))) (λ (d : Atom × Atom). d.1) (map.entries_of m)) ∙ h) in
          (w.0, w.1, inr (named_same (strong_target s (value_base t)) w.0.1 w.2))

  pub strong_names : (x : RowId) (r : Row) → list_any (same_row y) (strong_of_row s x r) ≡ true → Names (strong_target s) s x r y
  strong_names x r e =
      let w = any_gives (λ (d : Column × Value). list_any (same_row y) (strong_of_value s d.0.type d.1)) (zip (columns_at s x.0) r.columns) (sym (any-flat_map (same_row y) (λ (d : Column × Value). strong_of_value s d.0.type d.1) (zip (columns_at s x.0) r.columns)) ∙ e) in
      let at = place_in (columns_at s x.0) r.columns w.0 w.1 in
      (at.0, w.0.0, w.0.1, at.1, at.2, w.1, strong_in w.0.0.type w.0.1 w.2)

-- ---- stale references

module _ (s : Schema) (db : Db) where
  abbrev pub gone : RowId → Bool
  gone y = not (is_there db y)

  stale_in : (t : ColType) (v : Value) → has_stale s db t v ≡ true → (y : RowId) × (gone y ≡ true) × NamesIn (weak_target s) t v y
  stale_in t (set_of v) e =
      let w = any_gives (is_stale db (weak_target s t.key)) (set.items v) e in
      let h = named gone (weak_target s t.key) w.0 w.2 in
      (h.0, h.1, (subst (λ a. Member a (set.items v)) h.2 w.1, h.3))
  stale_in t (map_of m) e =
      let w = any_gives (λ (d : Atom × Atom). is_stale db (weak_target s t.key) d.0 || is_stale db (weak_target s (value_base t)) d.1) (map.entries_of m) e in
      by w.0 w.1 (either (is_stale db (weak_target s t.key) w.0.0) (is_stale db (weak_target s (value_base t)) w.0.1) w.2)
    where
      by : (d : Atom × Atom) → Member d (map.entries_of m) → (is_stale db (weak_target s t.key) d.0 ≡ true) ⊎ (is_stale db (weak_target s (value_base t)) d.1 ≡ true) → (y : RowId) × (gone y ≡ true) × NamesIn (weak_target s) t (map_of m) y
      by d there (inl one) = let h = named gone (weak_target s t.key) d.0 one in (h.0, h.1, (d, there, inl (h.2, h.3)))
      by d there (inr one) = let h = named gone (weak_target s (value_base t)) d.1 one in (h.0, h.1, (d, there, inr (h.2, h.3)))

  pub in_stale : (t : ColType) (v : Value) (y : RowId) → gone y ≡ true → NamesIn (weak_target s) t v y → has_stale s db t v ≡ true
  in_stale t (set_of v) y e h = gives_any (is_stale db (weak_target s t.key)) (set.items v) (uuid y.1) h.0 (names_passes gone (weak_target s t.key) (uuid y.1) y e refl h.1)
  in_stale t (map_of m) y e h = gives_any (λ (d : Atom × Atom). is_stale db (weak_target s t.key) d.0 || is_stale db (weak_target s (value_base t)) d.1) (map.entries_of m) h.0 h.1 (by h.2)
    where
      by : ((h.0.0 ≡ uuid y.1) × (weak_target s t.key ≡ Some y.0)) ⊎ ((h.0.1 ≡ uuid y.1) × (weak_target s (value_base t) ≡ Some y.0)) → (is_stale db (weak_target s t.key) h.0.0 || is_stale db (weak_target s (value_base t)) h.0.1) ≡ true
      by (inl k) = ap (λ b. b || is_stale db (weak_target s (value_base t)) h.0.1) (names_passes gone (weak_target s t.key) h.0.0 y e k.0 k.1)
      by (inr k) = or_right (is_stale db (weak_target s t.key) h.0.0) _ (names_passes gone (weak_target s (value_base t)) h.0.1 y e k.0 k.1)

  pub stale_names : (x : RowId) (r : Row) → row_has_stale s db x r ≡ true → (y : RowId) × (gone y ≡ true) × Names (weak_target s) s x r y
  stale_names x r e =
      let w = any_gives (λ (d : Column × Value). has_stale s db d.0.type d.1) (zip (columns_at s x.0) r.columns) e in
      let at = place_in (columns_at s x.0) r.columns w.0 w.1 in
      let h = stale_in w.0.0.type w.0.1 w.2 in
      (h.0, h.1, (at.0, w.0.0, w.0.1, at.1, at.2, w.1, h.2))

  pub names_stale : (x : RowId) (r : Row) (y : RowId) → gone y ≡ true → Names (weak_target s) s x r y → row_has_stale s db x r ≡ true
  names_stale x r y e h = gives_any (λ (d : Column × Value). has_stale s db d.0.type d.1) (zip (columns_at s x.0) r.columns) (h.1, h.2) h.5 (in_stale h.1.type h.2 y e h.6)

-- ---- the references of a schema

module _ (s : Schema) where
  abbrev made : ℕ → ℕ → ℕ → Bool → Reference
  made k t i w = record { target = k; table = t; place = i; weak = w }

  base_listed : (t i k : ℕ) (b : Base) (w : Bool) → target s b ≡ Some k → is_weak b ≡ w → Member (made k t i w) (base_references s t i b)
  base_listed t i k b w e is = subst (λ o. Member (made k t i w) (option_to_list (option_map (λ k. made k t i (is_weak b)) o))) (sym e) (inl (λ j. made k t i (sym is j)))

  key_listed : (t i k : ℕ) (c : ColType) (w : Bool) → target s c.key ≡ Some k → is_weak c.key ≡ w → Member (made k t i w) (column_references s t i c)
  key_listed t i k c w e is = in_left (made k t i w) (base_references s t i c.key) _ (base_listed t i k c.key w e is)

  value_listed : (t i k : ℕ) (c : ColType) (w : Bool) → target s (value_base c) ≡ Some k → is_weak (value_base c) ≡ w → Member (made k t i w) (column_references s t i c)
  value_listed t i k c w e is = by c.value e is
    where
      by : (o : Option Base) → target s (unwrap_or o c.key) ≡ Some k → is_weak (unwrap_or o c.key) ≡ w → Member (made k t i w) (base_references s t i c.key ++ unwrap_or (option_map (base_references s t i) o) [])
      by None e is = in_left (made k t i w) (base_references s t i c.key) [] (base_listed t i k c.key w e is)
      by (Some b) e is = in_right (made k t i w) (base_references s t i c.key) (base_references s t i b) (base_listed t i k b w e is)

  listed : (t i : ℕ) (c : Column) (f : Reference) → slice_get (columns_at s t) i ≡ Some c → Member f (column_references s t i c.type) → Member f (references_of s)
  listed t i c f is m = by (slice_get s.tables t) refl is
    where
      by : (o : Option TableSchema) → slice_get s.tables t ≡ o → slice_get (unwrap_or (option_map (λ d. d.columns) o) []) i ≡ Some c → Member f (references_of s)
      by None there e = absurd (nothing_at i c e)
      by (Some d) there e =
          in_part (λ (e : ℕ × TableSchema). flat_map (λ (f : ℕ × Column). column_references s e.0 f.0 f.1.type) (enumerate_from 0 e.1.columns)) (enumerate_from 0 s.tables) (t, d) f (in_enumerated s.tables 0 t t d (omega arith) there)
          (in_part (λ (g : ℕ × Column). column_references s t g.0 g.1.type) (enumerate_from 0 d.columns) (i, c) f (in_enumerated d.columns 0 i i c (omega arith) e) m)

  -- the row mentions what the column at the place names
  mentions_made : (db : Db) (x y : RowId) (r : Row) (i : ℕ) (v : Value) (w : Bool) → row_of db x ≡ Some r → slice_get r.columns i ≡ Some v → value_mentions y.1 v ≡ true → mentions_by db x y (made y.0 x.0 i w) ≡ true
  mentions_made db x y r i v w there is e = λ j. (unsigned_Decides y.0 y.0).1 refl j && ((unsigned_Decides x.0 x.0).1 refl j && at j)
    where
      at : unwrap_or (option_map (λ r. value_mentions y.1 (cell zero_uuid r (declared i))) (row_of db x)) false ≡ true
      at = ap (λ o. unwrap_or (option_map (λ r. value_mentions y.1 (cell zero_uuid r (declared i))) o) false) there ∙ ap (λ o. value_mentions y.1 (unwrap_or o (set_of set.empty))) is ∙ e

  pub in_value : (leads : Base → Option ℕ) (t : ColType) (v : Value) (y : RowId) → NamesIn leads t v y → (value_mentions y.1 v ≡ true) × ((leads t.key ≡ Some y.0) ⊎ (leads (value_base t) ≡ Some y.0))
  in_value leads t (set_of v) y h = (contains_key-keys v (uuid y.1) ∙ gives_any (eq_by_cmp atom_cmp (uuid y.1)) (set.items v) (uuid y.1) h.0 (same_atom-itself (uuid y.1)), inl h.1)
  in_value leads t (map_of m) y h = (gives_any (λ (e : Atom × Atom). same_atom e.0 (uuid y.1) || same_atom e.1 (uuid y.1)) (map.entries_of m) h.0 h.1 (at h.2), by h.2)
    where
      same : (a : Atom) → a ≡ uuid y.1 → same_atom a (uuid y.1) ≡ true
      same a e = ap (λ b. same_atom b (uuid y.1)) e ∙ same_atom-itself (uuid y.1)

      at : ((h.0.0 ≡ uuid y.1) × (leads t.key ≡ Some y.0)) ⊎ ((h.0.1 ≡ uuid y.1) × (leads (value_base t) ≡ Some y.0)) → (same_atom h.0.0 (uuid y.1) || same_atom h.0.1 (uuid y.1)) ≡ true
      at (inl k) = ap (λ b. b || same_atom h.0.1 (uuid y.1)) (same h.0.0 k.0)
      at (inr k) = or_right (same_atom h.0.0 (uuid y.1)) _ (same h.0.1 k.0)

      by : ((h.0.0 ≡ uuid y.1) × (leads t.key ≡ Some y.0)) ⊎ ((h.0.1 ≡ uuid y.1) × (leads (value_base t) ≡ Some y.0)) → (leads t.key ≡ Some y.0) ⊎ (leads (value_base t) ≡ Some y.0)
      by (inl k) = inl k.1
      by (inr k) = inr k.1

  module _ (leads : Base → Option ℕ) (w : Bool) (kind : (b : Base) (k : ℕ) → leads b ≡ Some k → (target s b ≡ Some k) × (is_weak b ≡ w)) where
    -- a row mentions what it names by a reference of this kind
    found : (db : Db) (x y : RowId) (r : Row) → row_of db x ≡ Some r → Names leads s x r y → (f : Reference) × Member f (references_of s) × (f.weak ≡ w) × (mentions_by db x y f ≡ true)
    found db x y r there h =
        let i = h.0 in
        let c = h.1 in
        let v = h.2 in
        let a = in_value leads c.type v y h.6 in
        (made y.0 x.0 i w, listed x.0 i c (made y.0 x.0 i w) h.3 (by c i a.1), refl, mentions_made db x y r i v w there h.4 a.0)
      where
        by : (c : Column) (i : ℕ) → (leads c.type.key ≡ Some y.0) ⊎ (leads (value_base c.type) ≡ Some y.0) → Member (made y.0 x.0 i w) (column_references s x.0 i c.type)
        by c i (inl e) = let k = kind c.type.key y.0 e in key_listed x.0 i y.0 c.type w k.0 k.1
        by c i (inr e) = let k = kind (value_base c.type) y.0 e in value_listed x.0 i y.0 c.type w k.0 k.1

  strong_kind : (b : Base) (k : ℕ) → strong_target s b ≡ Some k → (target s b ≡ Some k) × (is_weak b ≡ false)
  strong_kind b k e = by (is_weak b) refl e
    where
      by : (w : Bool) → is_weak b ≡ w → cond w None (target s b) ≡ Some k → (target s b ≡ Some k) × (is_weak b ≡ false)
      by true is e = absurd (none-some k e)
      by false is e = (e, is)

  pub weak_kind : (b : Base) (k : ℕ) → weak_target s b ≡ Some k → (target s b ≡ Some k) × (is_weak b ≡ true)
  weak_kind b k e = by (is_weak b) refl e
    where
      by : (w : Bool) → is_weak b ≡ w → cond w (target s b) None ≡ Some k → (target s b ≡ Some k) × (is_weak b ≡ true)
      by true is e = (e, is)
      by false is e = absurd (none-some k e)

  pub strong_found : (db : Db) (x y : RowId) (r : Row) → row_of db x ≡ Some r → Names (strong_target s) s x r y → (f : Reference) × Member f (references_of s) × (f.weak ≡ false) × (mentions_by db x y f ≡ true)
  strong_found = found (strong_target s) false strong_kind

  pub weak_found : (db : Db) (x y : RowId) (r : Row) → row_of db x ≡ Some r → Names (weak_target s) s x r y → (f : Reference) × Member f (references_of s) × (f.weak ≡ true) × (mentions_by db x y f ≡ true)
  weak_found = found (weak_target s) true weak_kind

-- ---- who refers to a row

-- by the reference, where it is strong, no other row that mentions x refers to it strongly
abbrev pub IsUnused : Schema → Db → RowId → Reference → Type 0
IsUnused s db x f = f.weak ≡ false → (y : RowId) → mentions_by db y x f ≡ true → is_referrer s db x y ≡ false

module _ (s : Schema) (db : Db) (x : RowId) where
  pub one_refers : (y : RowId) → is_referrer s db x y ≡ true → is_referred s db (row_ids db) x ≡ true
  one_refers y e = gives_any (is_referrer s db x) (row_ids db) y (member y (row_ids db) (any-row_ids db y ∙ there (row_of db y) (both (not (same_row x y)) (refers s db y x) e).1)) e
    where
      there : (o : Option Row) → unwrap_or (option_map (λ r. list_any (same_row x) (strong_of_row s y r)) o) false ≡ true → is_some o ≡ true
      there None e = absurd (true≢false (sym e))
      there (Some r) e = refl

  pub none_refers : ((f : Reference) → Member f (references_of s) → IsUnused s db x f) → is_referred s db (row_ids db) x ≡ false
  none_refers h = none_found (is_referrer s db x) (row_ids db) (λ y m. by y (row_of db y) refl)
    where
      never : (b c : Bool) → c ≡ false → (b && c) ≡ false
      never true c e = e
      never false c e = refl

      tests : (y : RowId) (r : Row) → row_of db y ≡ Some r → (b : Bool) → list_any (same_row x) (strong_of_row s y r) ≡ b → is_referrer s db x y ≡ false
      tests y r there true e = let w = strong_found s db y x r there (strong_names s x y r e) in h w.0 w.1 w.2 y w.3
      tests y r there false e = never (not (same_row x y)) (refers s db y x) (ap (λ o. unwrap_or (option_map (λ r. list_any (same_row x) (strong_of_row s y r)) o) false) there ∙ e)

      by : (y : RowId) (o : Option Row) → row_of db y ≡ o → is_referrer s db x y ≡ false
      by y None there = never (not (same_row x y)) (refers s db y x) (ap (λ o. unwrap_or (option_map (λ r. list_any (same_row x) (strong_of_row s y r)) o) false) there)
      by y (Some r) there = tests y r there (list_any (same_row x) (strong_of_row s y r)) refl

-- ---- loops over lists whose places count

-- the parts of one item more
pub parts_more : {X Y : Type 0} (f : ℕ × X → List Y) (done now all : List Y) (xs : List X) (k : ℕ) (x : X) → k < length xs → x ≡ get_or xs k x → done ++ flat_map f (enumerate_from k (drop k xs)) ≡ all → now ≡ done ++ f (k, x) → now ++ flat_map f (enumerate_from (k + 1) (drop (k + 1) xs)) ≡ all
parts_more f done now all xs k x inside is before more =
    ap (λ ys. ys ++ flat_map f (enumerate_from (k + 1) (drop (k + 1) xs))) more
    ∙ append_assoc done (f (k, x)) (flat_map f (enumerate_from (k + 1) (drop (k + 1) xs)))
    ∙ ap (λ ys. done ++ flat_map f (enumerate_from k ys)) (sym (drop_more xs k x inside ∙ ap (λ y. y ∷ drop (k + 1) xs) (sym is)))
    ∙ before

-- a test that none of the rows of a table with these identifiers passes
pub none_in_table : (p : RowId → Bool) (t : ℕ) (us : List (List ℕ)) → list_any (λ u. p (t, uuid_of u)) us ≡ false → (y : RowId) → (y.0 == t) ≡ true → list_any (eq_by_cmp uuid_cmp y.1) (map_list uuid_of us) ≡ true → p y ≡ false
none_in_table p t us none y table listed =
    let w = any_gives (λ u. eq_by_cmp uuid_cmp y.1 (uuid_of u)) us (sym (any-map (eq_by_cmp uuid_cmp y.1) uuid_of us) ∙ listed) in
    (λ i. p ((unsigned_Decides y.0 t).0 table i, same_key uuid_cmp-IsAntisymmetric y.1 (uuid_of w.0) w.2 i)) ∙ not_found (λ u. p (t, uuid_of u)) us none w.0 w.1

-- one item more
pub each_more : {A : Type 0} (P : A → Type 0) (xs : List A) (i : ℕ) (x : A) → i < length xs → x ≡ get_or xs i x → ((y : A) → Member y (take i xs) → P y) → P x → (y : A) → Member y (take (i + 1) xs) → P y
each_more P xs i x inside is before here y m = by (member-++ y (take i xs) (x ∷ []) (subst (Member y) (take_more xs i x inside ∙ ap (λ z. take i xs ++ z ∷ []) (sym is)) m))
  where
    by : Member y (take i xs) ⊎ Member y (x ∷ []) → P y
    by (inl n) = before y n
    by (inr (inl e)) = subst P (sym e) here
    by (inr (inr n)) = absurd n

-- ---- tests of values

-- a set has the row
pub set_has : (s : Schema) (t : ColType) (v : Atoms) (k : Option ℕ) → k ≡ strong_target s t.key → (y : RowId) → (unwrap_or (option_map (λ j. y.0 == j) k) false && set.contains v (uuid y.1)) ≡ list_any (same_row y) (strong_of_value s t (set_of v))
set_has s t v k key y = by k ∙ (λ i. list_any (passes (same_row y) (key i)) (set.items v)) ∙ sym (any-filter_map (same_row y) (referent (strong_target s t.key)) (set.items v))
  where
    never : (b : Bool) → false ≡ (b && false)
    never true = refl
    never false = refl

    one : (j : ℕ) (a : Atom) → ((y.0 == j) && same_atom (uuid y.1) a) ≡ passes (same_row y) (Some j) a
    one j (integer z) = sym (never (y.0 == j))
    one j (boolean b) = sym (never (y.0 == j))
    one j (text t) = sym (never (y.0 == j))
    one j (uuid u) = λ i. (y.0 == j) && unsigned_tied y.1.number u.number i

    nothing : (atoms : List Atom) → false ≡ list_any (passes (same_row y) None) atoms
    nothing [] = refl
    nothing (integer z ∷ atoms) = nothing atoms
    nothing (boolean b ∷ atoms) = nothing atoms
    nothing (text t ∷ atoms) = nothing atoms
    nothing (uuid u ∷ atoms) = nothing atoms

    by : (o : Option ℕ) → (unwrap_or (option_map (λ j. y.0 == j) o) false && set.contains v (uuid y.1)) ≡ list_any (passes (same_row y) o) (set.items v)
    by None = nothing (set.items v)
    by (Some j) = ap (λ b. (y.0 == j) && b) (contains_key-keys v (uuid y.1)) ∙ sym (any_both (y.0 == j) (same_atom (uuid y.1)) (set.items v)) ∙ (λ i. list_any (λ a. one j a i) (set.items v))

pub set_refers : (s : Schema) (t : ColType) (e : List declared_atom.Atom) (v : Value) → Lists (entries.Set e) v → (k : Option ℕ) → k ≡ strong_target s t.key → (y : RowId) → (unwrap_or (option_map (λ j. y.0 == j) k) false && has v (uuid y.1)) ≡ list_any (same_row y) (strong_of_value s t v)
set_refers s t e (map_of m) is k key y = absurd is
set_refers s t e (set_of v) is k key y = set_has s t v k key y

any_or : {A : Type 0} (p q : A → Bool) (xs : List A) → list_any (λ x. p x || q x) xs ≡ (list_any p xs || list_any q xs)
any_or p q [] = refl
any_or p q (x ∷ xs) = ap (λ b. (p x || q x) || b) (any_or p q xs) ∙ mixed (p x) (q x) (list_any p xs) (list_any q xs)
  where
    mixed : (a b c d : Bool) → ((a || b) || (c || d)) ≡ ((a || c) || (b || d))
    mixed true b c d = refl
    mixed false true true d = refl
    mixed false true false d = refl
    mixed false false c d = refl

-- a pair of a map names the row
pub map_has : (s : Schema) (t : ColType) (m : Pairs) (k w : Option ℕ) → k ≡ strong_target s t.key → w ≡ strong_target s (value_base t) → (y : RowId) → list_any (λ e. names k y e.0 || names w y e.1) m.entries ≡ list_any (same_row y) (strong_of_value s t (map_of m))
unfolding map.keys
map_has s t m k w key value y =
    any_or (λ (e : Atom × Atom). names k y e.0) (λ (e : Atom × Atom). names w y e.1) m.entries
    ∙ (λ i. list_any (λ (e : Atom × Atom). names (key i) y e.0) m.entries || list_any (λ (e : Atom × Atom). names (value i) y e.1) m.entries)
    ∙ (λ i. sym (any-filter_map (same_row y) (referent (strong_target s t.key)) (map.keys m) ∙ any-map (passes (same_row y) (strong_target s t.key)) (λ (e : Atom × Atom). e.0) m.entries) i || sym (any-filter_map (same_row y) (referent (strong_target s (value_base t))) (map.values m) ∙ any-map (passes (same_row y) (strong_target s (value_base t))) (λ (e : Atom × Atom). e.1) m.entries) i)
    ∙ sym (list_any-append (same_row y) (filter_map (referent (strong_target s t.key)) (map.keys m)) (filter_map (referent (strong_target s (value_base t))) (map.values m)))

pub map_refers : (s : Schema) (t : ColType) (p : List (declared_atom.Atom × declared_atom.Atom)) (v : Value) → Lists (entries.Map p) v → (k w : Option ℕ) → k ≡ strong_target s t.key → w ≡ strong_target s (value_base t) → (y : RowId) → list_any (λ q. names k y (atom_of q.0) || names w y (atom_of q.1)) p ≡ list_any (same_row y) (strong_of_value s t v)
map_refers s t p (set_of v) is k w key value y = absurd is
map_refers s t p (map_of m) is k w key value y =
    let both_named : Atom × Atom → Bool = λ e. names k y e.0 || names w y e.1 in
    sym (any-map both_named pair_of p) ∙ ap (list_any both_named) is ∙ map_has s t m k w key value y
