-- The sessions that the index finds for a change are those that it concerns.
use Rattle.std.specs.Prelude.{◌≡◌, ℕ, zero, suc, ◌<◌, ◌≤◌, Bool, true, false, cond, ◌&&◌, ◌||◌, ◌==◌, nat_lt, List, [], ◌∷◌, length, unwrap_or, Option, Some, None}
use mathlib.Core.Bool.{true≢false}
use mathlib.Core.Logic.{inl, inr}
use mathlib.Core.Path.{refl, sym, ap, ◌∙◌}
use Rattle.std.proofs.Common.{arith}
use Rattle.std.proofs.lemmas.Bool.Decides.{nat_tests}
use Rattle.std.proofs.lemmas.Option.{none-some, slice_get_past}
use Rattle.std.specs.BTreeMap as tree
use Rattle.std.specs.BTreeMap.{BTreeMap, is_at}
use Rattle.std.specs.BTreeSet.{contains}
use Rattle.std.specs.Cmp.{both_ways, unsigned_Decides}
use Rattle.std.specs.List.{list_any}
use Rattle.std.specs.Map.{keys_of as listed_keys, lookup}
use Rattle.std.specs.Ordering.{eq_by_cmp, nat_cmp}
use Rattle.odb_atoms.proofs.Atoms.{atom_cmp-IsAntisymmetric}
use Rattle.odb_atoms.proofs.Equal.{same_atom-itself}
use Rattle.odb_atoms.proofs.FinMaps.{contains_key-keys, same_key as same_tied}
use Rattle.odb_atoms.proofs.Lists.{Member, any_gives, both, either, gives_any, or_right}
use Rattle.odb_atoms.specs.Atom.{Atom, atom_cmp, same_atom}
use Rattle.odb_atoms.specs.FinMap as finite
use Rattle.odb_atoms.specs.Members.{has}
use Rattle.odb_atoms.specs.Row.{Row, Selector, cell, declared, own_uuid, own_version}
use Rattle.odb_atoms.specs.Uuid.{Uuid, uuid_cmp}
use Rattle.odb_atoms.specs.Value.{Value, map_of, set_of}
use Rattle.odb_interest.proofs.Levels.{is_eq-nat_cmp}
use Rattle.odb_interest.specs.Keys.{Asked, Interests, Key, any_row, asked_at, atoms_in, change_at, is_hit, is_met, is_touched, keys_of, named, row_has}
use Rattle.odb_interest.specs.Represented.SessionsByAtom.{names}
use Rattle.odb_interest.specs.Represented.Found.{RowChange, any_below, is_found, names_declared, names_in, names_some}
use Rattle.odb_interest.specs.Represented.SessionsByKey.{Indexes, finds_among, finds_for}
use Rattle.odb_interest.specs.Represented.Key.{has_key, held, is_asked, same_column, same_key}
use Rattle.odb_interest.specs.Represented.Watched.{names_at, watches}
use Rattle.odb_interest.specs.declared.column.SessionsByAtom.{SessionsByAtom}
use Rattle.odb_interest.specs.declared.index.SessionsByKey.{SessionsByKey}
use Rattle.odb_interest.specs.declared.watched.Watched.{Watched}
use Rattle.odb_tables.specs.Change.{Changes}

-- ---- what holds of something that is there

held_gives : {V : Type 0} (p : V → Bool) (o : Option V) → held p o ≡ true → (v : V) × (o ≡ Some v) × (p v ≡ true)
held_gives p None e = absurd (true≢false (sym e))
held_gives p (Some v) e = (v, refl, e)

gives_held : {V : Type 0} (p : V → Bool) (o : Option V) (v : V) → o ≡ Some v → p v ≡ true → held p o ≡ true
gives_held p o v is h = ap (held p) is ∙ h

below_gives : (n : ℕ) (p : ℕ → Bool) → any_below n p ≡ true → (t : ℕ) × (p t ≡ true)
below_gives zero p e = absurd (true≢false (sym e))
below_gives (suc n) p e = elim (either (any_below n p) (p n) e) as (λ _. (t : ℕ) × (p t ≡ true)) [
  | inl h ↦ below_gives n p h
  | inr h ↦ (n, h)
]

gives_below : (n : ℕ) (p : ℕ → Bool) (t : ℕ) → t < n → p t ≡ true → any_below n p ≡ true
gives_below zero p t low h = absurd (omega arith)
gives_below (suc n) p t low h = by (t == n) refl (λ lower. gives_below n p t lower h)
  where
    apart : (t == n) ≡ false → t < n
    apart e = grind (arith, nat_tests)

    by : (b : Bool) → (t == n) ≡ b → (t < n → any_below n p ≡ true) → (any_below n p || p n) ≡ true
    by true e rest = or_right (any_below n p) (p n) (ap p (sym ((unsigned_Decides t n).0 e)) ∙ h)
    by false e rest = ap (λ b. b || p n) (rest (apart e))

-- ---- keys that are the same

pub same_number : (m n : ℕ) → (m == n) ≡ true → m ≡ n
same_number m n e = (unsigned_Decides m n).0 e

itself : (n : ℕ) → (n == n) ≡ true
itself n = (unsigned_Decides n n).1 refl

column_is : (c d : Selector) → same_column c d ≡ true → c ≡ d
column_is own_uuid own_uuid e = refl
column_is own_version own_version e = refl
column_is (declared i) (declared j) e = ap declared (same_number i j e)
column_is c d e = absurd (true≢false (sym e))

column_itself : (c : Selector) → same_column c c ≡ true
column_itself own_uuid = refl
column_itself own_version = refl
column_itself (declared i) = itself i

atom_is : (a b : Atom) → same_atom a b ≡ true → a ≡ b
atom_is a b e = same_tied atom_cmp-IsAntisymmetric a b e

pub key_is : (k l : Key) → same_key k l ≡ true → k ≡ l
key_is any_row any_row e = refl
key_is any_row (named d b) e = absurd (true≢false (sym e))
key_is (named c a) any_row e = absurd (true≢false (sym e))
key_is (named c a) (named d b) e =
    let h = both (same_column c d) (same_atom a b) e in
    λ i. named (column_is c d h.0 i) (atom_is a b h.1 i)

key_itself : (k : Key) → same_key k k ≡ true
key_itself any_row = refl
key_itself (named c a) = (λ i. column_itself c i && same_atom a a) ∙ same_atom-itself a

-- ---- atoms of a value

has-atoms : (v : Value) (a : Atom) → has v a ≡ list_any (eq_by_cmp atom_cmp a) (atoms_in v)
has-atoms (set_of s) a = contains_key-keys s a
has-atoms (map_of m) a = contains_key-keys m a

gives_has : (v : Value) (a : Atom) → Member a (atoms_in v) → has v a ≡ true
gives_has v a m = has-atoms v a ∙ gives_any (eq_by_cmp atom_cmp a) (atoms_in v) a m (same_atom-itself a)

has_any : (p : Atom → Bool) (v : Value) (a : Atom) → has v a ≡ true → p a ≡ true → list_any p (atoms_in v) ≡ true
has_any p v a h is =
    let b = any_gives (eq_by_cmp atom_cmp a) (atoms_in v) (sym (has-atoms v a) ∙ h) in
    gives_any p (atoms_in v) b.0 b.1 (ap p (sym (atom_is a b.0 b.2)) ∙ is)

-- ---- rows in which a session names an atom

row_gives : (c : SessionsByAtom) (at : Selector) (u : Uuid) (o : Option Row) (s : ℕ) → names_in c at u o s ≡ true → (a : Atom) × (row_has at a u o ≡ true) × (names c a s ≡ true)
row_gives c at u None s e = absurd (true≢false (sym e))
row_gives c at u (Some r) s e =
    let found = any_gives (λ a. names c a s) (atoms_in (cell u r at)) e in
    (found.0, gives_has (cell u r at) found.0 found.1, found.2)

gives_row : (c : SessionsByAtom) (at : Selector) (u : Uuid) (o : Option Row) (s : ℕ) (a : Atom) → row_has at a u o ≡ true → names c a s ≡ true → names_in c at u o s ≡ true
gives_row c at u None s a h is = absurd (true≢false (sym h))
gives_row c at u (Some r) s a h is = has_any (λ b. names c b s) (cell u r at) a h is

abbrev meets_one : Selector → Atom → RowChange → Bool
meets_one at a e = row_has at a e.0 e.1.0 || row_has at a e.0 e.1.1

some_gives : (c : SessionsByAtom) (at : Selector) (rows : List RowChange) (s : ℕ) → names_some c at rows s ≡ true → (a : Atom) × (list_any (meets_one at a) rows ≡ true) × (names c a s ≡ true)
some_gives c at rows s h =
    let row = any_gives (λ e. names_in c at e.0 e.1.0 s || names_in c at e.0 e.1.1 s) rows h in
    let e : RowChange = row.0 in
    elim (either (names_in c at e.0 e.1.0 s) (names_in c at e.0 e.1.1 s) row.2) as (λ _. (a : Atom) × (list_any (meets_one at a) rows ≡ true) × (names c a s ≡ true)) [
      | inl old ↦ let a = row_gives c at e.0 e.1.0 s old in (a.0, gives_any (meets_one at a.0) rows e row.1 (ap (λ b. b || row_has at a.0 e.0 e.1.1) a.1), a.2)
      | inr new ↦ let a = row_gives c at e.0 e.1.1 s new in (a.0, gives_any (meets_one at a.0) rows e row.1 (or_right (row_has at a.0 e.0 e.1.0) (row_has at a.0 e.0 e.1.1) a.1), a.2)
    ]

gives_some : (c : SessionsByAtom) (at : Selector) (rows : List RowChange) (s : ℕ) (a : Atom) → list_any (meets_one at a) rows ≡ true → names c a s ≡ true → names_some c at rows s ≡ true
gives_some c at rows s a h is =
    let row = any_gives (meets_one at a) rows h in
    let e : RowChange = row.0 in
    gives_any (λ x. names_in c at x.0 x.1.0 s || names_in c at x.0 x.1.1 s) rows e row.1
    (elim (either (row_has at a e.0 e.1.0) (row_has at a e.0 e.1.1) row.2) as (λ _. (names_in c at e.0 e.1.0 s || names_in c at e.0 e.1.1 s) ≡ true) [
      | inl old ↦ ap (λ b. b || names_in c at e.0 e.1.1 s) (gives_row c at e.0 e.1.0 s a old is)
      | inr new ↦ or_right (names_in c at e.0 e.1.0 s) (names_in c at e.0 e.1.1 s) (gives_row c at e.0 e.1.1 s a new is)
    ])

-- ---- columns by their places

key_of_found : {X : Type 0} (es : List (ℕ × X)) (i : ℕ) (x : X) → lookup (is_at (nat_cmp i)) es ≡ Some x → Member i (listed_keys es)
key_of_found [] i x e = absurd (none-some x e)
key_of_found (f ∷ fs) i x e = by (is_at (nat_cmp i) f.0) refl e (key_of_found fs i x)
  where
    by : (b : Bool) → is_at (nat_cmp i) f.0 ≡ b → cond b (Some f.1) (lookup (is_at (nat_cmp i)) fs) ≡ Some x → (lookup (is_at (nat_cmp i)) fs ≡ Some x → Member i (listed_keys fs)) → Member i (listed_keys (f ∷ fs))
    by true t e rest = inl (same_number i f.0 (sym (is_eq-nat_cmp i f.0) ∙ t))
    by false t e rest = inr (rest e)

declared_gives : (m : BTreeMap ℕ SessionsByAtom) (rows : List RowChange) (s : ℕ) → names_declared m rows s ≡ true → (i : ℕ) × (a : Atom) × (list_any (meets_one (declared i) a) rows ≡ true) × (names_at m i a s ≡ true)
declared_gives m rows s h =
    let place = any_gives (λ i. held (λ c. names_some c (declared i) rows s) (tree.get nat_cmp m i)) (listed_keys m.entries) h in
    let column = held_gives (λ c. names_some c (declared place.0) rows s) (tree.get nat_cmp m place.0) place.2 in
    let a = some_gives column.0 (declared place.0) rows s column.2 in
    (place.0, a.0, a.1, gives_held (λ c. names c a.0 s) (tree.get nat_cmp m place.0) column.0 column.1 a.2)

gives_declared : (m : BTreeMap ℕ SessionsByAtom) (rows : List RowChange) (s i : ℕ) (a : Atom) → list_any (meets_one (declared i) a) rows ≡ true → names_at m i a s ≡ true → names_declared m rows s ≡ true
gives_declared m rows s i a h is =
    let column = held_gives (λ c. names c a s) (tree.get nat_cmp m i) is in
    gives_any (λ j. held (λ c. names_some c (declared j) rows s) (tree.get nat_cmp m j)) (listed_keys m.entries) i (key_of_found m.entries i column.0 column.1)
    (gives_held (λ c. names_some c (declared i) rows s) (tree.get nat_cmp m i) column.0 column.1 (gives_some column.0 (declared i) rows s a h column.2))

-- ---- one table

module _ (w : Watched) (d : Changes) (s : ℕ) where
  abbrev rows : List RowChange
  rows = finite.entries_of d

  found_gives : nat_lt 0 (finite.len d) ≡ true → is_found w rows s ≡ true → (k : Key) × (is_met d k ≡ true) × (watches w k s ≡ true)
  found_gives some h = elim (either (contains nat_cmp w.loose s) _ h) as (λ _. (k : Key) × (is_met d k ≡ true) × (watches w k s ≡ true)) [
    | inl loose ↦ (any_row, some, loose)
    | inr keyed ↦ elim (either (names_some w.uuids own_uuid rows s) _ keyed) as (λ _. (k : Key) × (is_met d k ≡ true) × (watches w k s ≡ true)) [
      | inl found ↦ let a = some_gives w.uuids own_uuid rows s found in (named own_uuid a.0, a.1, a.2)
      | inr others ↦ elim (either (names_some w.versions own_version rows s) (names_declared w.columns rows s) others) as (λ _. (k : Key) × (is_met d k ≡ true) × (watches w k s ≡ true)) [
        | inl found ↦ let a = some_gives w.versions own_version rows s found in (named own_version a.0, a.1, a.2)
        | inr found ↦ let a = declared_gives w.columns rows s found in (named (declared a.0) a.1, a.2, a.3)
      ]
    ]
  ]

  gives_found : (k : Key) → is_met d k ≡ true → watches w k s ≡ true → is_found w rows s ≡ true
  gives_found any_row h is = ap (λ b. b || (names_some w.uuids own_uuid rows s || (names_some w.versions own_version rows s || names_declared w.columns rows s))) is
  gives_found (named own_uuid a) h is =
      or_right (contains nat_cmp w.loose s) _ (ap (λ b. b || (names_some w.versions own_version rows s || names_declared w.columns rows s)) (gives_some w.uuids own_uuid rows s a h is))
  gives_found (named own_version a) h is =
      or_right (contains nat_cmp w.loose s) _ (or_right (names_some w.uuids own_uuid rows s) _ (ap (λ b. b || names_declared w.columns rows s) (gives_some w.versions own_version rows s a h is)))
  gives_found (named (declared i) a) h is =
      or_right (contains nat_cmp w.loose s) _ (or_right (names_some w.uuids own_uuid rows s) _ (or_right (names_some w.versions own_version rows s) _ (gives_declared w.columns rows s i a h is)))

some_entries : {X : Type 0} (p : X → Bool) (xs : List X) → list_any p xs ≡ true → nat_lt 0 (length xs) ≡ true
some_entries p [] e = absurd (true≢false (sym e))
some_entries p (x ∷ xs) e = grind (arith, nat_tests)

-- a change of which a row is looked up has rows
met_rows : (d : Changes) (k : Key) → is_met d k ≡ true → nat_lt 0 (finite.len d) ≡ true
unfolding finite.len
met_rows d any_row h = h
met_rows d (named c a) h = some_entries (meets_one c a) (finite.entries_of d) h

-- ---- the whole

no_rows : nat_lt 0 (finite.len {K = Uuid} {X = Option Row × Option Row} {R = uuid_cmp} finite.empty) ≡ false
unfolding finite.len finite.empty
no_rows = refl

inside : (cs : List Changes) (t : ℕ) → nat_lt 0 (finite.len (change_at cs t)) ≡ true → t < length cs
inside cs t h = by (nat_lt t (length cs)) refl
  where
    past : nat_lt t (length cs) ≡ false → length cs ≤ t
    past e = grind (arith, nat_tests)

    by : (b : Bool) → nat_lt t (length cs) ≡ b → t < length cs
    by true e = grind (arith, nat_tests)
    by false e = absurd (true≢false (sym h ∙ ap (λ (o : Option Changes). nat_lt 0 (finite.len (unwrap_or o finite.empty))) (slice_get_past cs t (past e)) ∙ no_rows))

module _ (x : SessionsByKey) (v : Interests) (agrees : Indexes x v) (cs : List Changes) (s : ℕ) where
  abbrev filters : List Asked
  filters = asked_at v s

  touched_by : finds_among x cs s ≡ true → is_touched cs filters ≡ true
  touched_by h =
      let place = below_gives (length cs) (λ t. finds_for x t (change_at cs t) s) h in
      let t = place.0 in
      let d = change_at cs t in
      let here = both (nat_lt 0 (finite.len d)) (held (λ w. is_found w (finite.entries_of d) s) (tree.get nat_cmp x.tables t)) place.1 in
      let table = held_gives (λ w. is_found w (finite.entries_of d) s) (tree.get nat_cmp x.tables t) here.1 in
      let key = found_gives table.0 d s here.0 table.2 in
      let asked : is_asked filters t key.0 ≡ true = sym (agrees t key.0 s) ∙ gives_held (λ w. watches w key.0 s) (tree.get nat_cmp x.tables t) table.0 table.1 key.2 in
      let a = any_gives (λ (b : Asked). (b.0 == t) && has_key key.0 b.1) filters asked in
      let both_tests = both (a.0.0 == t) (has_key key.0 a.0.1) a.2 in
      let same = any_gives (same_key key.0) (keys_of a.0.1) both_tests.1 in
      let met : is_met (change_at cs a.0.0) same.0 ≡ true =
      (λ i. is_met (change_at cs (same_number a.0.0 t both_tests.0 i)) (sym (key_is key.0 same.0 same.2) i)) ∙ key.1 in
      gives_any (λ (b : Asked). is_hit (change_at cs b.0) b.1) filters a.0 a.1 (gives_any (is_met (change_at cs a.0.0)) (keys_of a.0.1) same.0 same.1 met)

  by_touched : is_touched cs filters ≡ true → finds_among x cs s ≡ true
  by_touched h =
      let a = any_gives (λ (b : Asked). is_hit (change_at cs b.0) b.1) filters h in
      let t = a.0.0 in
      let d = change_at cs t in
      let key = any_gives (is_met d) (keys_of a.0.1) a.2 in
      let k = key.0 in
      let has_it : has_key k a.0.1 ≡ true = gives_any (same_key k) (keys_of a.0.1) k key.1 (key_itself k) in
      let asked : is_asked filters t k ≡ true = gives_any (λ (b : Asked). (b.0 == t) && has_key k b.1) filters a.0 a.1 ((λ i. itself t i && has_key k a.0.1) ∙ has_it) in
      let table = held_gives (λ w. watches w k s) (tree.get nat_cmp x.tables t) (agrees t k s ∙ asked) in
      let some : nat_lt 0 (finite.len d) ≡ true = met_rows d k key.2 in
      gives_below (length cs) (λ n. finds_for x n (change_at cs n) s) t (inside cs t some)
      ((λ i. some i && held (λ w. is_found w (finite.entries_of d) s) (tree.get nat_cmp x.tables t))
      ∙ gives_held (λ w. is_found w (finite.entries_of d) s) (tree.get nat_cmp x.tables t) table.0 table.1 (gives_found table.0 d s k key.2 table.2))

  pub finds-touched : finds_among x cs s ≡ is_touched cs filters
  finds-touched = both_ways (finds_among x cs s) (is_touched cs filters) touched_by by_touched
