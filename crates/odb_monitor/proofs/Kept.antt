-- What is kept of the entries of a list, each of another identifier; and in order it is a finite map.
use Rattle.std.proofs.Common.{◌≡◌, Bool, true, false, cond, List, [], ◌∷◌, map, Option, Some, None, option_map, option_and_then, IsPermutation, refl, sym, ap, ◌∙◌, filter_map}
use Rattle.std.proofs.lemmas.List.Sorted.{IsPermutation-map}
use Rattle.std.proofs.lemmas.Map.Keys.{IsDistinct-IsPermutation, IsDistinct-cons, IsDistinct-head, IsDistinct-tail, sorted_head, sorted_tail}
use Rattle.std.specs.List.{AllByRecursion, IsDistinct, cons_option}
use Rattle.std.specs.List.Sorted.{IsSortedByKey, IsStrictlySortedBy}
use Rattle.std.specs.FinMap.Entries.{find, same_entries}
use Rattle.std.specs.Map.{keys_of}
use Rattle.std.specs.declared.cmp.Ordering.TheVariants.{Less}
use Rattle.std.specs.Ordering.{eq_by_cmp}
use Rattle.odb_atoms.specs.FinMap as finite
use Rattle.odb_atoms.specs.Uuid.{Uuid, uuid_cmp}
use Rattle.odb_atoms.proofs.Atoms.{uuid_cmp-IsAntisymmetric, uuid_cmp_total}
use Rattle.odb_atoms.proofs.FinMaps.{get-entries, same_key}
use Rattle.odb_tables.proofs.KeyedMaps.{get-from_entries, none_behind}
use Rattle.odb_tables.proofs.Ordered.{AreDistinct, moved, ranked, rises, sorted}
use Rattle.odb_tables.specs.Represented.Key.{keys_equivalent}

-- ---- what g makes of the entries

module _ {X Y : Type 0} (g : Uuid → X → Option Y) where
  abbrev pub keep : Uuid × X → Option (Uuid × Y)
  keep e = option_map (λ c. let x : Uuid × Y = (e.0, c) in x) (g e.0 e.1)

  abbrev pub kept : List (Uuid × X) → List (Uuid × Y)
  kept es = filter_map keep es

  at_other : (q k : Uuid) (c : Option Y) (cs : List (Uuid × Y)) → eq_by_cmp uuid_cmp q k ≡ false → find uuid_cmp q (cons_option (option_map (λ d. let x : Uuid × Y = (k, d) in x) c) cs) ≡ find uuid_cmp q cs
  at_other q k None cs other = refl
  at_other q k (Some d) cs other = ap (λ b. cond b (Some d) (find uuid_cmp q cs)) other

  at_same : (q k : Uuid) (c : Option Y) (cs : List (Uuid × Y)) → eq_by_cmp uuid_cmp q k ≡ true → find uuid_cmp q cs ≡ None → find uuid_cmp q (cons_option (option_map (λ d. let x : Uuid × Y = (k, d) in x) c) cs) ≡ c
  at_same q k None cs same none = none
  at_same q k (Some d) cs same none = ap (λ b. cond b (Some d) (find uuid_cmp q cs)) same

  pub find-kept : (es : List (Uuid × X)) (q : Uuid) → AreDistinct es → find uuid_cmp q (kept es) ≡ option_and_then (g q) (find uuid_cmp q es)
  find-kept [] q h = refl
  find-kept (e ∷ es) q h = by (find-kept es q (IsDistinct-tail (eq_by_cmp uuid_cmp) e.0 (keys_of es) h)) (eq_by_cmp uuid_cmp q e.0) refl
    where
      by : find uuid_cmp q (kept es) ≡ option_and_then (g q) (find uuid_cmp q es) → (b : Bool) → eq_by_cmp uuid_cmp q e.0 ≡ b → find uuid_cmp q (kept (e ∷ es)) ≡ option_and_then (g q) (cond b (Some e.1) (find uuid_cmp q es))
      by rest true is =
          let here : q ≡ e.0 = same_key uuid_cmp-IsAntisymmetric q e.0 is in
          let absent : find uuid_cmp q es ≡ None = ap (λ u. find uuid_cmp u es) here ∙ none_behind e.0 es (IsDistinct-head (eq_by_cmp uuid_cmp) e.0 (keys_of es) h) in
          at_same q e.0 (g e.0 e.1) (kept es) is (rest ∙ ap (option_and_then (g q)) absent) ∙ ap (λ u. g u e.1) (sym here)
      by rest false is = at_other q e.0 (g e.0 e.1) (kept es) is ∙ rest

  all-kept : (P : Uuid → Type 0) (es : List (Uuid × X)) → AllByRecursion P (keys_of es) → AllByRecursion P (keys_of (kept es))
  all-kept P [] h = tt
  all-kept P (e ∷ es) h = by (g e.0 e.1) (kept es) (all-kept P es h.1)
    where
      by : (c : Option Y) (cs : List (Uuid × Y)) → AllByRecursion P (keys_of cs) → AllByRecursion P (keys_of (cons_option (option_map (λ d. let x : Uuid × Y = (e.0, d) in x) c) cs))
      by None cs r = r
      by (Some d) cs r = (h.0, r)

  pub distinct-kept : (es : List (Uuid × X)) → AreDistinct es → AreDistinct (kept es)
  unfolding IsDistinct
  distinct-kept [] h = tt
  distinct-kept (e ∷ es) h = by (g e.0 e.1) (kept es) (distinct-kept es (IsDistinct-tail (eq_by_cmp uuid_cmp) e.0 (keys_of es) h)) (all-kept (λ y. eq_by_cmp uuid_cmp e.0 y ≡ false) es (IsDistinct-head (eq_by_cmp uuid_cmp) e.0 (keys_of es) h))
    where
      by : (c : Option Y) (cs : List (Uuid × Y)) → AreDistinct cs → AllByRecursion (λ y. eq_by_cmp uuid_cmp e.0 y ≡ false) (keys_of cs) → AreDistinct (cons_option (option_map (λ d. let x : Uuid × Y = (e.0, d) in x) c) cs)
      by None cs r a = r
      by (Some d) cs r a = IsDistinct-cons (eq_by_cmp uuid_cmp) e.0 (keys_of cs) a r

-- ---- what is kept of entries that were sorted

rising-kept : {X Y : Type 0} (g : Uuid → X → Option Y) (es : List (Uuid × X)) → IsStrictlySortedBy uuid_cmp (keys_of es) → IsStrictlySortedBy uuid_cmp (keys_of (kept g es))
unfolding IsStrictlySortedBy
rising-kept g [] h = tt
rising-kept {Y = Y} g (e ∷ es) h = by (g e.0 e.1) (kept g es) (rising-kept g es (sorted_tail uuid_cmp e.0 (keys_of es) h)) (all-kept g (λ y. uuid_cmp e.0 y ≡ Less) es (sorted_head uuid_cmp e.0 (keys_of es) h))
  where
    by : (c : Option Y) (cs : List (Uuid × Y)) → IsStrictlySortedBy uuid_cmp (keys_of cs) → AllByRecursion (λ y. uuid_cmp e.0 y ≡ Less) (keys_of cs) → IsStrictlySortedBy uuid_cmp (keys_of (cons_option (option_map (λ d. let x : Uuid × Y = (e.0, d) in x) c) cs))
    by None cs r a = r
    by (Some d) cs r a = (a, r)

-- entries in another order are as distinct, and found alike
module _ {X : Type 0} (es fs : List (Uuid × X)) (d : AreDistinct es) (p : IsPermutation es fs) where
  pub distinct-moved : AreDistinct fs
  distinct-moved = IsDistinct-IsPermutation (eq_by_cmp uuid_cmp) keys_equivalent.symm (keys_of es) (keys_of fs) (IsPermutation-map (λ e. e.0) es fs p) d

  pub find-moved : (q : Uuid) → find uuid_cmp q fs ≡ find uuid_cmp q es
  find-moved q = moved (finite.from_entries es) es fs d (λ k. sym (get-from_entries es k)) p q ∙ get-from_entries es q

-- what is kept of entries that are sorted is a map's entries, where it answers as the map does
pub kept_in_order : {X Y : Type 0} (g : Uuid → X → Option Y) (m : finite.FinMap uuid_cmp Y) (es : List (Uuid × X)) → AreDistinct es → IsSortedByKey (λ (e : Uuid × X). e.0) uuid_cmp es → ((q : Uuid) → find uuid_cmp q (kept g es) ≡ finite.get m q) → kept g es ≡ m.entries
kept_in_order g m es d up is =
    same_entries uuid_cmp uuid_cmp_total uuid_cmp-IsAntisymmetric (kept g es) m.entries
    (sorted (kept g es) (rising-kept g es (rises (keys_of es) (ranked (λ e. e.0) es up) d))) m.sorted (λ k. is k ∙ get-entries m k)
