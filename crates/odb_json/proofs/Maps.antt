-- Reading a map's pairs: all in front of the first fault, and only then whether a key stands twice.
use Rattle.std.specs.Prelude.{◌≡◌, Bool, true, false, cond, not, ◌&&◌, ◌||◌, List, [], ◌∷◌, is_some, Option, Some, None}
use Rattle.std.specs.List.{list_all}
use Rattle.std.specs.Option.{option_or}
use Rattle.std.specs.Ordering.{eq_by_cmp}
use mathlib.Core.Bool.{true≢false}
use mathlib.Core.Path.{refl, sym, ap, ◌∙◌}
use Rattle.odb_atoms.specs.FinMap as map
use Rattle.odb_atoms.specs.FinSet as set
use Rattle.odb_atoms.specs.Atom.{Atom, Kind, atom_cmp, booleans, integers, kind_of, same_kind, strings, uuids, zero_atom}
use Rattle.odb_atoms.specs.Error.{Error, syntax_error}
use Rattle.odb_atoms.specs.First.{Err, Ok, Result, demand, ok_or, ◌>>=◌, ◌>>◌}
use Rattle.odb_atoms.specs.Members.{ListFault, are_of_one_kind, have_one_kind_each, keys, map_fault, repeats, values}
use Rattle.odb_atoms.specs.Value.{Atoms, Pairs}
use Rattle.odb_atoms.proofs.Atoms.{atom_cmp-IsAntisymmetric}
use Rattle.odb_atoms.specs.Represented.AtomOrder.{atom_cmp_total}
use Rattle.odb_atoms.proofs.FinMaps.{get-empty, get-insert, same_key, same_map}
use Rattle.odb_atoms.proofs.FinSets.{contains-insert}
use Rattle.odb_schema.specs.Json.{Data, Items, item, no_items}
use Rattle.odb_schema.specs.Notation.{Names, pair_of, read_atom, read_pairs}
use Rattle.odb_schema.proofs.Elements.{OfKind, fresh, fresh-repeats, of_one_kind, once_of, read_of_kind, twice_of}
use Rattle.odb_schema.proofs.Written.{contains-put, option_or-None, put_all}
use Rattle.odb_json.specs.Represented.Parts.{Front, followed, map_value, pair_or_fault, pairs_front, pair_with, two_of}
use Rattle.odb_json.proofs.Sets.{AreAll}
use Rattle.odb_json.proofs.Fronts.{answer, seen, verdict}

-- ---- pairs put in from the front, or from the back

-- the set has the keys of the map
abbrev HasKeys : Atoms → Pairs → Type 0
HasKeys s m = (q : Atom) → map.contains_key m q ≡ set.contains s q

keys_insert : (s : Atoms) (m : Pairs) (k v : Atom) → HasKeys s m → HasKeys (set.insert s k) (map.insert m k v)
keys_insert s m k v h q = contains-put atom_cmp_total m k v q ∙ ap (λ b. eq_by_cmp atom_cmp q k || b) (h q) ∙ sym (contains-insert atom_cmp_total s k q)

keys_empty : HasKeys set.empty map.empty
keys_empty q = ap is_some (get-empty atom_cmp q) ∙ sym (ap is_some (get-empty atom_cmp q))

not_true : (b c : Bool) → (not b && c) ≡ true → (b ≡ false) × (c ≡ true)
not_true true c e = absurd (true≢false (sym e))
not_true false c e = (refl, e)

-- a key that was seen isn't among fresh ones
absent : (s : Atoms) (es : List (Atom × Atom)) (q : Atom) → fresh s (keys es) ≡ true → set.contains s q ≡ true → map.get (map.from_entries {R = atom_cmp} es) q ≡ None
absent s [] q new old = get-empty atom_cmp q
absent s (e ∷ es) q new old =
    let split = not_true (set.contains s e.0) (fresh (set.insert s e.0) (keys es)) new in
    get-insert atom_cmp_total (map.from_entries es) e.0 e.1 q ∙ by (eq_by_cmp atom_cmp q e.0) refl split.0
    (absent (set.insert s e.0) es q split.1 (contains-insert atom_cmp_total s e.0 q ∙ ap (λ b. eq_by_cmp atom_cmp q e.0 || b) old ∙ or_true (eq_by_cmp atom_cmp q e.0)))
  where
    or_true : (b : Bool) → (b || true) ≡ true
    or_true true = refl
    or_true false = refl

    by : (b : Bool) → eq_by_cmp atom_cmp q e.0 ≡ b → set.contains s e.0 ≡ false → map.get (map.from_entries {R = atom_cmp} es) q ≡ None → cond b (Some e.1) (map.get (map.from_entries {R = atom_cmp} es) q) ≡ None
    by true same unseen rest = absurd (true≢false (sym old ∙ ap (set.contains s) (same_key atom_cmp-IsAntisymmetric q e.0 same) ∙ unseen))
    by false other unseen rest = rest

get-put_all : (s : Atoms) (m : Pairs) (es : List (Atom × Atom)) → HasKeys s m → fresh s (keys es) ≡ true → (q : Atom) → map.get (put_all m es) q ≡ option_or (map.get (map.from_entries {R = atom_cmp} es) q) (map.get m q)
get-put_all s m [] h new q = ap (λ o. option_or o (map.get m q)) (sym (get-empty atom_cmp q))
get-put_all s m (e ∷ es) h new q =
    let split = not_true (set.contains s e.0) (fresh (set.insert s e.0) (keys es)) new in
    get-put_all (set.insert s e.0) (map.insert m e.0 e.1) es (keys_insert s m e.0 e.1 h) split.1 q
    ∙ ap (option_or (map.get (map.from_entries es) q)) (get-insert atom_cmp_total m e.0 e.1 q)
    ∙ by (eq_by_cmp atom_cmp q e.0) refl split.1
    ∙ ap (λ o. option_or o (map.get m q)) (sym (get-insert atom_cmp_total (map.from_entries es) e.0 e.1 q))
  where
    by : (b : Bool) → eq_by_cmp atom_cmp q e.0 ≡ b → fresh (set.insert s e.0) (keys es) ≡ true
        → option_or (map.get (map.from_entries {R = atom_cmp} es) q) (cond b (Some e.1) (map.get m q)) ≡ option_or (cond b (Some e.1) (map.get (map.from_entries {R = atom_cmp} es) q)) (map.get m q)
    by true same later = ap (λ o. option_or o (Some e.1)) (absent (set.insert s e.0) es q later (contains-insert atom_cmp_total s e.0 q ∙ ap (λ b. b || set.contains s q) same))
    by false other later = refl

put_all-empty : (es : List (Atom × Atom)) → fresh set.empty (keys es) ≡ true → put_all (map.empty {R = atom_cmp}) es ≡ map.from_entries es
put_all-empty es new =
    same_map atom_cmp_total atom_cmp-IsAntisymmetric _ _
    (λ q. get-put_all set.empty map.empty es keys_empty new q ∙ ap (option_or (map.get (map.from_entries es) q)) (get-empty atom_cmp q) ∙ option_or-None _)

module _ (names : Option Names) (k l : Kind) where
  abbrev pairs : Items → Front (Atom × Atom)
  pairs = pairs_front names k l

  -- ---- all at once

  abbrev made : Atoms → Pairs → Front (Atom × Atom) → Result Pairs Error
  made s m p = verdict (fresh s (keys p.0)) p.1 (put_all m p.0)

  abbrev later : Pairs → Items → Atom → Atom → Result Pairs Error
  later m ds key value = read_pairs names k l (map.insert m key value) ds

  module _ (s : Atoms) (m : Pairs) (ds : Items) (h : HasKeys s m) (rest : (key value : Atom) → later m ds key value ≡ made (set.insert s key) (map.insert m key value) (pairs ds)) where
    abbrev behind : Atom → Result Atom Error → Bool → Result Pairs Error
    behind key r b = ◌>>◌ (demand (not b) syntax_error) (◌>>=◌ r (later m ds key))

    read_value : (key : Atom) (r : Result Atom Error) → behind key r (set.contains s key) ≡ made s m (followed (pair_with key l r).0 (pair_with key l r).1 (pairs ds))
    read_value key (Err e) = seen (set.contains s key) true (Some e) (put_all m ((key, zero_atom l) ∷ [])) (Err e) refl
    read_value key (Ok value) = seen (set.contains s key) (fresh (set.insert s key) (keys (pairs ds).0)) (pairs ds).1 (put_all (map.insert m key value) (pairs ds).0) (later m ds key value) (rest key value)

    read_key : (r q : Result Atom Error) → ◌>>=◌ r (λ key. behind key q (map.contains_key m key)) ≡ made s m (followed (pair_or_fault l r q).0 (pair_or_fault l r q).1 (pairs ds))
    read_key (Err e) q = refl
    read_key (Ok key) q = ap (behind key q) (h key) ∙ read_value key q

    read_pair : (o : Option (Data × Data)) → ◌>>=◌ (ok_or o syntax_error) (λ p. ◌>>=◌ (read_atom names k p.0) (λ key. behind key (read_atom names l p.1) (map.contains_key m key))) ≡ made s m (followed (two_of names k l o).0 (two_of names k l o).1 (pairs ds))
    read_pair None = refl
    read_pair (Some p) = read_key (read_atom names k p.0) (read_atom names l p.1)

  read_all : (s : Atoms) (m : Pairs) → HasKeys s m → (ds : Items) → read_pairs names k l m ds ≡ made s m (pairs ds)
  read_all s m h no_items = refl
  read_all s m h (item d ds) = read_pair s m ds h (λ key value. read_all (set.insert s key) (map.insert m key value) (keys_insert s m key value h) ds) (pair_of d)

  -- ---- each key and each value is of its kind

  abbrev AreAllOf : List (Atom × Atom) → Type 0
  AreAllOf es = AreAll k (keys es) × AreAll l (values es)

  zero_of_kind : (l : Kind) → same_kind (kind_of (zero_atom l)) l ≡ true
  zero_of_kind integers = refl
  zero_of_kind booleans = refl
  zero_of_kind strings = refl
  zero_of_kind uuids = refl

  two_of_kind : (r q : Result Atom Error) (p : Front (Atom × Atom)) → OfKind k r → OfKind l q → AreAllOf p.0 → AreAllOf (followed (pair_or_fault l r q).0 (pair_or_fault l r q).1 p).0
  two_of_kind (Err e) q p h g rest = (refl, refl)
  two_of_kind (Ok key) (Err e) p h g rest = ((λ j. h j && true), (λ j. zero_of_kind l j && true))
  two_of_kind (Ok key) (Ok value) p h g rest = ((λ j. h j && rest.0 j), (λ j. g j && rest.1 j))

  pair_of_kind : (o : Option (Data × Data)) (p : Front (Atom × Atom)) → AreAllOf p.0 → AreAllOf (followed (two_of names k l o).0 (two_of names k l o).1 p).0
  pair_of_kind None p rest = (refl, refl)
  pair_of_kind (Some d) p rest = two_of_kind (read_atom names k d.0) (read_atom names l d.1) p (read_of_kind names k d.0) (read_of_kind names l d.1) rest

  of_kind : (ds : Items) → AreAllOf (pairs ds).0
  of_kind no_items = (refl, refl)
  of_kind (item d ds) = pair_of_kind (pair_of d) (pairs ds) (of_kind ds)

  -- ---- by the answer of `Value::map`

  module _ (ds : Items) (list : List (Atom × Atom)) (o : Option Error) (found : list ≡ (pairs ds).0) (fault : o ≡ (pairs ds).1) where
    by_repeats : (b : Bool) → repeats (keys list) ≡ b → read_pairs names k l map.empty ds ≡ verdict (not b) o (put_all map.empty list)
    by_repeats b is =
        read_all set.empty map.empty keys_empty ds
        ∙ (λ j. verdict (fresh set.empty (keys (sym found j))) (sym fault j) (put_all map.empty (sym found j)))
        ∙ ap (λ b. verdict b o (put_all map.empty list)) (fresh-repeats (keys list) ∙ ap not is)

    pub pairs_made : None ≡ map_fault list → map_value (read_pairs names k l map.empty ds) ≡ map_value (answer o (map.from_entries list))
    pairs_made e =
        let once = once_of (have_one_kind_each list) (repeats (keys list)) e in
        ap map_value (by_repeats false once ∙ ap (answer o) (put_all-empty list (fresh-repeats (keys list) ∙ ap not once)))

    pub pairs_twice : (f : ListFault) → Some f ≡ map_fault list → map_value (read_pairs names k l map.empty ds) ≡ Err syntax_error
    pairs_twice f e =
        let kinds = of_kind ds in
        let one : (are_of_one_kind (keys list) && are_of_one_kind (values list)) ≡ true = λ j. of_one_kind k (keys list) (ap (λ es. list_all (λ a. same_kind (kind_of a) k) (keys es)) found ∙ kinds.0) j && of_one_kind l (values list) (ap (λ es. list_all (λ a. same_kind (kind_of a) l) (values es)) found ∙ kinds.1) j in
        ap map_value (by_repeats true (twice_of (have_one_kind_each list) (repeats (keys list)) f e one))
