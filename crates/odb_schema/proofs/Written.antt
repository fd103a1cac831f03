-- What is written of a value is read back.
use Rattle.std.specs.Prelude.{◌≡◌, pos, negsuc, Bool, true, false, cond, ◌&&◌, ◌||◌, T, List, [], ◌∷◌, map as map_list, is_some, Option, Some, None, Ok}
use Rattle.std.specs.List.{list_all}
use mathlib.Core.Path.{refl, sym, ap, ◌∙◌}
use mathlib.Core.Bool.{true≢false}
use Rattle.std.specs.declared.cmp.Ordering.{Ordering}
use Rattle.std.specs.declared.cmp.Ordering.TheVariants.{Less, Equal, Greater}
use Rattle.std.specs.Ordering.{eq_by_cmp, is_eq, is_lt, ordering_reverse}
use Rattle.std.specs.Option.{option_or}
use Rattle.std.specs.Cmp.{IsTotalOrder}
use Rattle.std.specs.FinMap.{IsAntisymmetric}
use Rattle.std.specs.FinMap.Entries.{find, is_sorted, below_all}
use Rattle.odb_atoms.proofs.Atoms.{atom_cmp-IsAntisymmetric}
use Rattle.odb_atoms.specs.Represented.AtomOrder.{atom_cmp_total}
use Rattle.odb_atoms.proofs.FinMaps.{get-empty, get-entries, get-insert, same_map}
use Rattle.odb_atoms.proofs.Uuids.{uuid_of_text-uuid_text}
use Rattle.odb_atoms.specs.Atom.{Atom, Kind, atom_cmp, boolean, booleans, integer, integers, strings, text, uuid, uuids}
use Rattle.odb_atoms.specs.ColType.{ColType, has_kind, is_a, value_base}
use Rattle.odb_atoms.specs.FinMap.{FinMap, contains_key, empty, get, insert, keys}
use Rattle.odb_atoms.specs.Value.{Atoms, Pairs, Value, each_atom, map_of, set_of}
use Rattle.odb_schema.specs.Json.{items_of}
use Rattle.odb_schema.proofs.Keys.{keys_of}
use Rattle.odb_schema.specs.Notation.{Names, has_notation, read_any, read_atom, read_elements, read_pairs, read_set, set_content, write_atom, write_atoms, write_pair, write_value}

both : (a b : Bool) → (a && b) ≡ true → (a ≡ true) × (b ≡ true)
both true b e = (refl, e)
both false b e = absurd (true≢false (sym e))

not_true : {A : Type 0} → false ≡ true → A
not_true e = absurd (true≢false (sym e))

-- an atom of the kind
pub read_atom-write_atom : (names : Option Names) (k : Kind) (a : Atom) → is_a k a ≡ true → has_notation a ≡ true → read_atom names k (write_atom a) ≡ Ok a
read_atom-write_atom names integers (integer (pos n)) e h = rw h refl
read_atom-write_atom names integers (integer (negsuc n)) e h = refl
read_atom-write_atom names integers (boolean b) e h = not_true e
read_atom-write_atom names integers (text s) e h = not_true e
read_atom-write_atom names integers (uuid u) e h = not_true e
read_atom-write_atom names booleans (integer z) e h = not_true e
read_atom-write_atom names booleans (boolean b) e h = refl
read_atom-write_atom names booleans (text s) e h = not_true e
read_atom-write_atom names booleans (uuid u) e h = not_true e
read_atom-write_atom names strings (integer z) e h = not_true e
read_atom-write_atom names strings (boolean b) e h = not_true e
read_atom-write_atom names strings (text s) e h = rw h refl
read_atom-write_atom names strings (uuid u) e h = not_true e
read_atom-write_atom names uuids (integer z) e h = not_true e
read_atom-write_atom names uuids (boolean b) e h = not_true e
read_atom-write_atom names uuids (text s) e h = not_true e
read_atom-write_atom names uuids (uuid u) e h = rw (uuid_of_text-uuid_text u) refl

-- ---- entries put in from the front

module _ {K X : Type 0} {R : K → K → Ordering} where
  -- m with the entries of a list, one after another
  abbrev pub put_all : FinMap R X → List (K × X) → FinMap R X
  put_all m [] = m
  put_all m (e ∷ es) = put_all (insert m e.0 e.1) es

  -- no key of the list is in the map
  abbrev AreNew : FinMap R X → List (K × X) → Type 0
  AreNew m [] = Unit {0}
  AreNew m (e ∷ es) = (contains_key m e.0 ≡ false) × AreNew m es

or_none : (a b : Bool) → a ≡ false → b ≡ false → (a || b) ≡ false
or_none true b e f = e
or_none false b e f = f

and_true : (a b : Bool) → T (a && b) → T a × T b
and_true true b h = (tt, h)
and_true false b h = absurd h

is_less : (r : Ordering) → T (is_lt r) → r ≡ Less
is_less Less h = refl
is_less Equal h = absurd h
is_less Greater h = absurd h

-- a key below another doesn't tie with it
apart : {K : Type 0} {R : K → K → Ordering} → IsTotalOrder R → (x y : K) → T (is_lt (R x y)) → eq_by_cmp R y x ≡ false
apart {R = R} o x y h = ap is_eq (o.antisymm y x ∙ ap ordering_reverse (is_less (R x y) h))

module _ {K X : Type 0} {R : K → K → Ordering} (o : IsTotalOrder R) where
  pub contains-put : (m : FinMap R X) (k : K) (v : X) (q : K) → contains_key (insert m k v) q ≡ (eq_by_cmp R q k || contains_key m q)
  contains-put m k v q = ap is_some (get-insert o m k v q) ∙ by (eq_by_cmp R q k) (get m q)
    where
      by : (b : Bool) (x : Option X) → is_some (cond b (Some v) x) ≡ (b || is_some x)
      by true x = refl
      by false x = refl

  still_new : (m : FinMap R X) (k : K) (v : X) (es : List (K × X)) → T (below_all R k es) → AreNew m es → AreNew (insert m k v) es
  still_new m k v [] h new = tt
  still_new m k v (e ∷ es) h new =
      let split = and_true (is_lt (R k e.0)) (below_all R k es) h in
      (contains-put m k v e.0 ∙ or_none _ _ (apart o k e.0 split.0) new.0, still_new m k v es split.1 new.1)

  no_tie : (q k : K) (es : List (K × X)) → R q k ≡ Equal → T (below_all R k es) → find R q es ≡ None
  no_tie q k [] t h = refl
  no_tie q k (e ∷ es) t h =
      let split = and_true (is_lt (R k e.0)) (below_all R k es) h in
      ap (λ r. cond (is_eq r) (Some e.1) (find R q es)) (o.congr q k e.0 t ∙ is_less (R k e.0) split.0) ∙ no_tie q k es t split.1

  get-put_all : (m : FinMap R X) (es : List (K × X)) → T (is_sorted R es) → (q : K) → get (put_all m es) q ≡ option_or (find R q es) (get m q)
  get-put_all m [] h q = refl
  get-put_all m (e ∷ es) h q = get-put_all (insert m e.0 e.1) es split.1 q ∙ ap (option_or (find R q es)) (get-insert o m e.0 e.1 q) ∙ by (R q e.0) refl
    where
      split : T (below_all R e.0 es) × T (is_sorted R es)
      split = and_true (below_all R e.0 es) (is_sorted R es) h

      by : (r : Ordering) → R q e.0 ≡ r → option_or (find R q es) (cond (is_eq r) (Some e.1) (get m q)) ≡ option_or (cond (is_eq r) (Some e.1) (find R q es)) (get m q)
      by Less t = refl
      by Equal t = ap (λ x. option_or x (Some e.1)) (no_tie q e.0 es t split.0)
      by Greater t = refl

pub option_or-None : {A : Type 0} (x : Option A) → option_or x None ≡ x
option_or-None None = refl
option_or-None (Some a) = refl

module _ {K X : Type 0} {R : K → K → Ordering} (o : IsTotalOrder R) (same : IsAntisymmetric R) where
  -- the entries of a map, put into the empty one, are the map
  put_all-entries : (m : FinMap R X) → put_all empty m.entries ≡ m
  put_all-entries m = same_map o same _ m (λ q. get-put_all o empty m.entries m.sorted q ∙ ap (option_or (find R q m.entries)) (get-empty R q) ∙ option_or-None _ ∙ sym (get-entries m q))

all_new : {K X : Type 0} (R : K → K → Ordering) (es : List (K × X)) → AreNew (empty {R = R}) es
all_new R [] = tt
all_new R (e ∷ es) = (ap is_some (get-empty R e.0), all_new R es)

-- ---- sets and maps

module _ (names : Option Names) (k : Kind) where
  -- each is an atom of the kind that the notation has
  abbrev AreNoted : List Atom → Type 0
  AreNoted xs = (list_all (is_a k) xs ≡ true) × (list_all has_notation xs ≡ true)

  elements_back : (seen : Atoms) (es : List (Atom × Unit {0})) → T (is_sorted atom_cmp es) → AreNew seen es → AreNoted (keys_of es)
      → read_elements names k seen (items_of (map_list write_atom (keys_of es))) ≡ Ok (put_all seen es)
  elements_back seen [] h new noted = refl
  elements_back seen (e ∷ es) h new noted =
      let split = and_true (below_all atom_cmp e.0 es) (is_sorted atom_cmp es) h in
      let kinds = both (is_a k e.0) (list_all (is_a k) (keys_of es)) noted.0 in
      let fits = both (has_notation e.0) (list_all has_notation (keys_of es)) noted.1 in
      rw (read_atom-write_atom names k e.0 kinds.0 fits.0, new.0)
      (elements_back (insert seen e.0 e.1) es split.1 (still_new atom_cmp_total seen e.0 e.1 es split.0 new.1) (kinds.1, fits.1))

  alone : (a : Atom) → set_content (write_atom a) ≡ None
  alone (integer z) = refl
  alone (boolean b) = refl
  alone (text s) = refl
  alone (uuid u) = refl

  set_back : (es : List (Atom × Unit {0})) → T (is_sorted atom_cmp es) → AreNoted (keys_of es) → read_set names k (write_atoms (keys_of es)) ≡ Ok (put_all empty es)
  set_back [] h noted = refl
  set_back (e ∷ []) h noted = rw (alone e.0, read_atom-write_atom names k e.0 (both _ _ noted.0).0 (both _ _ noted.1).0) refl
  set_back (e ∷ f ∷ es) h noted = elements_back empty (e ∷ f ∷ es) h (all_new atom_cmp (e ∷ f ∷ es)) noted

  -- a set of such atoms
  pub read_set-write_value : (s : Atoms) → (list_all (is_a k) (keys_of s.entries) ≡ true) × (list_all has_notation (keys_of s.entries) ≡ true) → read_set names k (write_value (set_of s)) ≡ Ok s
  unfolding keys
  read_set-write_value s noted = rw (set_back s.entries s.sorted noted, put_all-entries atom_cmp_total atom_cmp-IsAntisymmetric s) refl

module _ (names : Option Names) (k l : Kind) where
  -- each is a pair of the two kinds that the notation has
  abbrev ArePairs : List (Atom × Atom) → Type 0
  ArePairs es = (list_all (λ e. is_a k e.0 && is_a l e.1) es ≡ true) × (list_all (λ e. has_notation e.0 && has_notation e.1) es ≡ true)

  pairs_back : (seen : Pairs) (es : List (Atom × Atom)) → T (is_sorted atom_cmp es) → AreNew seen es → ArePairs es
      → read_pairs names k l seen (items_of (map_list write_pair es)) ≡ Ok (put_all seen es)
  pairs_back seen [] h new noted = refl
  pairs_back seen (e ∷ es) h new noted =
      let split = and_true (below_all atom_cmp e.0 es) (is_sorted atom_cmp es) h in
      let kinds = both (is_a k e.0 && is_a l e.1) (list_all (λ e. is_a k e.0 && is_a l e.1) es) noted.0 in
      let kind = both (is_a k e.0) (is_a l e.1) kinds.0 in
      let fits = both (has_notation e.0 && has_notation e.1) (list_all (λ e. has_notation e.0 && has_notation e.1) es) noted.1 in
      let fit = both (has_notation e.0) (has_notation e.1) fits.0 in
      rw (read_atom-write_atom names k e.0 kind.0 fit.0, new.0, read_atom-write_atom names l e.1 kind.1 fit.1)
      (pairs_back (insert seen e.0 e.1) es split.1 (still_new atom_cmp_total seen e.0 e.1 es split.0 new.1) (kinds.1, fits.1))

-- a value of the type's kind, whose atoms the notation has
pub read_any-write_value : (names : Option Names) (t : ColType) (v : Value) → has_kind t v ≡ true → each_atom has_notation has_notation v ≡ true
    → read_any names t (write_value v) ≡ Ok v
unfolding keys
read_any-write_value names t (set_of s) e h =
    let kind = both (cond (is_some t.value) false true) (list_all (is_a t.key.kind) (keys_of s.entries)) e in
    rw (is_set (is_some t.value) kind.0, read_set-write_value names t.key.kind s (kind.1, h)) refl
  where
    is_set : (b : Bool) → cond b false true ≡ true → b ≡ false
    is_set true e = sym e
    is_set false e = refl
read_any-write_value names t (map_of m) e h =
    let kind = both (cond (is_some t.value) true false) (list_all (λ f. is_a t.key.kind f.0 && is_a (value_base t).kind f.1) m.entries) e in
    rw (is_map (is_some t.value) kind.0, pairs_back names t.key.kind (value_base t).kind empty m.entries m.sorted (all_new atom_cmp m.entries) (kind.1, h), put_all-entries atom_cmp_total atom_cmp-IsAntisymmetric m) refl
  where
    is_map : (b : Bool) → cond b true false ≡ true → b ≡ true
    is_map true e = refl
    is_map false e = e
