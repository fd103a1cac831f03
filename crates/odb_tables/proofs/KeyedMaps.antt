-- A map of the code with identifiers for its keys answers as the finite map that it stands for, and changes as it does.
use Rattle.std.proofs.Common.{◌≡◌, ℕ, suc, ◌+◌, arith, Bool, true, false, cond, not, List, [], ◌∷◌, length, map, Option, Some, None, is_some, option_map, refl, sym, ap, subst, ◌∙◌}
use Rattle.std.proofs.lemmas.List.{length-map, nil_from_length}
use Rattle.std.proofs.lemmas.Map.Keys.{IsDistinct-head, IsDistinct-tail}
use Rattle.std.specs.FinMap.Entries.{find, length-put}
use Rattle.std.specs.List.{AllByRecursion, IsDistinct}
use Rattle.std.specs.Map.{lookup, keys_of}
use Rattle.std.specs.Ordering.{eq_by_cmp, is_eq}
use Rattle.std.specs.Cmp.{alike_right}
use Rattle.indexmap.specs.IndexMap.{IndexMap, IsUnique, Updates, get_by, index_map_len}
use Rattle.odb_atoms.specs.FinMap as finite
use Rattle.odb_atoms.specs.Uuid.{Uuid, uuid_cmp}
use Rattle.odb_atoms.proofs.Atoms.{uuid_cmp-IsAntisymmetric}
use Rattle.odb_atoms.proofs.FinMaps.{entries-insert, get-empty, get-entries, get-insert, get-retain_keys, same_map}
use Rattle.odb_tables.specs.Represented.Key.{keys_equivalent, uuid_cmp_total}
use Rattle.odb_tables.specs.Represented.Keyed.{keyed, shown}

pub get-from_entries : {X : Type 0} (es : List (Uuid × X)) (q : Uuid) → finite.get (finite.from_entries {R = uuid_cmp} es) q ≡ find uuid_cmp q es
get-from_entries [] q = get-empty uuid_cmp q
get-from_entries (e ∷ es) q = get-insert uuid_cmp_total (finite.from_entries es) e.0 e.1 q ∙ ap (cond (eq_by_cmp uuid_cmp q e.0) (Some e.1)) (get-from_entries es q)

shown-cond : {V X : Type 0} (f : V → X) (b : Bool) (x : V) (o : Option V) → cond b (Some (f x)) (option_map f o) ≡ option_map f (cond b (Some x) o)
shown-cond f true x o = refl
shown-cond f false x o = refl

find-shown : {V X : Type 0} (f : V → X) (q : Uuid) (es : List (Uuid × V)) → find uuid_cmp q (map (shown f) es) ≡ option_map f (lookup (eq_by_cmp uuid_cmp q) es)
find-shown f q [] = refl
find-shown f q (e ∷ es) = ap (cond (eq_by_cmp uuid_cmp q e.0) (Some (f e.1))) (find-shown f q es) ∙ shown-cond f (eq_by_cmp uuid_cmp q e.0) e.1 (lookup (eq_by_cmp uuid_cmp q) es)

-- of keys that are distinct, none stands after its own entry
pub none_behind : {X : Type 0} (k : Uuid) (es : List (Uuid × X)) → AllByRecursion (λ y. eq_by_cmp uuid_cmp k y ≡ false) (keys_of es) → find uuid_cmp k es ≡ None
none_behind k [] h = refl
none_behind k (e ∷ es) h = ap (λ b. cond b (Some e.1) (find uuid_cmp k es)) h.0 ∙ none_behind k es h.1

one_more : (n : ℕ) → n + 1 ≡ suc n
one_more n = omega arith

pub len-from_entries : {X : Type 0} (es : List (Uuid × X)) → IsDistinct (eq_by_cmp uuid_cmp) (keys_of es) → finite.len (finite.from_entries {R = uuid_cmp} es) ≡ length es
unfolding finite.len finite.empty
len-from_entries [] h = refl
len-from_entries (e ∷ es) h =
    let m = finite.from_entries {R = uuid_cmp} es in
    let absent : find uuid_cmp e.0 m.entries ≡ None = sym (get-entries m e.0) ∙ get-from_entries es e.0 ∙ none_behind e.0 es (IsDistinct-head (eq_by_cmp uuid_cmp) e.0 (keys_of es) h) in
    ap length (entries-insert uuid_cmp_total m e.0 e.1) ∙ length-put uuid_cmp uuid_cmp_total e.0 e.1 m.entries m.sorted ∙ ap (λ o. cond (is_some o) (length m.entries) (length m.entries + 1)) absent ∙ ap (λ n. n + 1) (len-from_entries es (IsDistinct-tail (eq_by_cmp uuid_cmp) e.0 (keys_of es) h)) ∙ one_more (length es)

pub get-remove : {X : Type 0} (m : finite.FinMap uuid_cmp X) (k q : Uuid) → finite.get (finite.remove m k) q ≡ cond (eq_by_cmp uuid_cmp q k) None (finite.get m q)
get-remove {X = X} m k q =
    get-retain_keys m (λ x. not (eq_by_cmp uuid_cmp k x)) q (λ x t. ap (λ r. not (is_eq r)) (sym (alike_right uuid_cmp_total q x k t)))
    ∙ turned (eq_by_cmp uuid_cmp k q) (finite.get m q) ∙ ap (λ b. cond b None (finite.get m q)) (keys_equivalent.symm k q)
  where
    turned : (b : Bool) (o : Option X) → cond (not b) o None ≡ cond b None o
    turned true o = refl
    turned false o = refl

pub keys-shown : {V X : Type 0} (f : V → X) (es : List (Uuid × V)) → keys_of es ≡ keys_of (map (shown f) es)
keys-shown f [] = refl
keys-shown f (e ∷ es) = ap (λ ks. e.0 ∷ ks) (keys-shown f es)

module _ {V X S : Type 0} (f : V → X) where
  -- what the code's look-up answers
  pub get-keyed : (m : IndexMap Uuid V S) (q : Uuid) → finite.get (keyed f m) q ≡ option_map f (get_by (eq_by_cmp uuid_cmp q) m)
  get-keyed m q = get-from_entries (map (shown f) m.entries) q ∙ find-shown f q m.entries

  after : (old new : IndexMap Uuid V S) (k : Uuid) (w : Option V) → Updates (eq_by_cmp uuid_cmp) old new k w → (q : Uuid) → finite.get (keyed f new) q ≡ cond (eq_by_cmp uuid_cmp q k) (option_map f w) (finite.get (keyed f old) q)
  after old new k w changed q =
      get-keyed new q ∙ ap (option_map f) (changed.0 q) ∙ split (eq_by_cmp uuid_cmp k q) w (get_by (eq_by_cmp uuid_cmp q) old)
      ∙ (λ i. cond (keys_equivalent.symm k q i) (option_map f w) (sym (get-keyed old q) i))
    where
      split : (b : Bool) (v o : Option V) → option_map f (cond b v o) ≡ cond b (option_map f v) (option_map f o)
      split true v o = refl
      split false v o = refl

  pub inserted : (old new : IndexMap Uuid V S) (k : Uuid) (v : V) → Updates (eq_by_cmp uuid_cmp) old new k (Some v) → keyed f new ≡ finite.insert (keyed f old) k (f v)
  inserted old new k v changed = same_map uuid_cmp_total uuid_cmp-IsAntisymmetric _ _ (λ q. after old new k (Some v) changed q ∙ sym (get-insert uuid_cmp_total (keyed f old) k (f v) q))

  pub removed : (old new : IndexMap Uuid V S) (k : Uuid) → Updates (eq_by_cmp uuid_cmp) old new k None → keyed f new ≡ finite.remove (keyed f old) k
  removed old new k changed = same_map uuid_cmp_total uuid_cmp-IsAntisymmetric _ _ (λ q. after old new k None changed q ∙ sym (get-remove (keyed f old) k q))

  pub len-keyed : (m : IndexMap Uuid V S) → IsUnique (eq_by_cmp uuid_cmp) m → finite.len (keyed f m) ≡ index_map_len m
  len-keyed m h = len-from_entries (map (shown f) m.entries) (subst (IsDistinct (eq_by_cmp uuid_cmp)) (keys-shown f m.entries) h) ∙ length-map m.entries (shown f)

  -- whether it has an entry
  pub contains-keyed : (m : IndexMap Uuid V S) (q : Uuid) → is_some (get_by (eq_by_cmp uuid_cmp q) m) ≡ finite.contains_key (keyed f m) q
  contains-keyed m q = same_kind (get_by (eq_by_cmp uuid_cmp q) m) ∙ ap is_some (sym (get-keyed m q))
    where
      same_kind : (o : Option V) → is_some o ≡ is_some (option_map f o)
      same_kind None = refl
      same_kind (Some v) = refl

  pub none-keyed : (m : IndexMap Uuid V S) (q : Uuid) → index_map_len m ≡ 0 → false ≡ finite.contains_key (keyed f m) q
  none-keyed m q e = ap (λ es. is_some (lookup (eq_by_cmp uuid_cmp q) es)) (sym (nil_from_length m.entries e)) ∙ contains-keyed m q
