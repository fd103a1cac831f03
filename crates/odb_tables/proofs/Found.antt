-- Identifiers that were found, each once: those of a part of a table after those of the rest, and in order they are the keys of the whole.
use Rattle.std.proofs.Common.{◌≡◌, ◌+◌, Bool, true, false, cond, not, ◌&&◌, ◌||◌, List, [], ◌∷◌, ◌++◌, map, filter, Option, Some, None, option_and_then, option_map, is_some, IsPermutation, IsTrue, refl, sym, ap, subst, ◌∙◌}
use lib.Dec.{T}
use mathlib.Core.Bool.{true≢false}
use Rattle.std.proofs.lemmas.List.Sorted.{IsPermutation-map, list_any-IsPermutation}
use Rattle.std.proofs.lemmas.Map.Keys.{IsDistinct-IsPermutation, IsDistinct-cons, IsDistinct-head, IsDistinct-tail, sorted_head, sorted_tail}
use Rattle.std.specs.Arc.{arc_value}
use Rattle.std.specs.declared.sync.Arc.{Arc}
use Rattle.std.specs.declared.cmp.Ordering.TheVariants.{Less}
use Rattle.std.specs.FinMap.Entries.{below_all, find, is_sorted, same_entries}
use Rattle.std.specs.List.{AllByRecursion, IsDistinct, list_any}
use Rattle.std.specs.List.Sorted.{IsSortedByKey, IsStrictlySortedBy}
use Rattle.std.specs.Map.{keys_of, lookup}
use Rattle.std.specs.Ordering.{eq_by_cmp, is_lt}
use Rattle.indexmap.specs.IndexMap.{IndexMap, IsUnique}
use Rattle.odb_atoms.specs.FinMap as finite
use Rattle.odb_atoms.specs.Row.{Row}
use Rattle.odb_atoms.specs.Uuid.{Uuid, uuid_cmp}
use Rattle.odb_atoms.proofs.Atoms.{uuid_cmp-IsAntisymmetric}
use Rattle.odb_atoms.proofs.FinMaps.{contains_key-keys, get-empty, get-map_entries, same_key, same_map}
use Rattle.odb_atoms.proofs.Rising.{is_less}
use Rattle.odb_tables.specs.Database.{Table}
use Rattle.odb_tables.specs.Represented.Draft.{laid, overlaid}
use Rattle.odb_tables.specs.Represented.Found.{Appends, Lists, passing, standing, untouched}
use Rattle.odb_tables.specs.Represented.Key.{keys_equivalent, uuid_cmp_total}
use Rattle.odb_tables.specs.Represented.Overlay.{Touched, passes_now, row_of}
use Rattle.odb_tables.specs.Represented.Keyed.{keyed}
use Rattle.odb_tables.proofs.KeyedMaps.{get-keyed}
use Rattle.odb_tables.proofs.Ordered.{ranked, rises, rising-none}
use Rattle.odb_tables.proofs.Overlays.{get-overlaid}

-- ---- the entries of a list that pass a test

module _ {V : Type 0} (p : Uuid × V → Bool) where
  abbrev pub found : List (Uuid × V) → List Uuid
  found es = map (λ e. e.0) (filter p es)

  abbrev pub found_one : Uuid × V → List Uuid
  found_one e = cond (p e) (e.0 ∷ []) []

  pub found-more : (es : List (Uuid × V)) (e : Uuid × V) → found (es ++ e ∷ []) ≡ found es ++ found_one e
  found-more [] e = by (p e)
    where
      by : (b : Bool) → map (λ (x : Uuid × V). x.0) (cond b (e ∷ []) []) ≡ cond b (e.0 ∷ []) []
      by true = refl
      by false = refl
  found-more (d ∷ es) e = by (p d) (found-more es e)
    where
      by : (b : Bool) → found (es ++ e ∷ []) ≡ found es ++ found_one e → map (λ (x : Uuid × V). x.0) (cond b (d ∷ filter p (es ++ e ∷ [])) (filter p (es ++ e ∷ []))) ≡ map (λ (x : Uuid × V). x.0) (cond b (d ∷ filter p es) (filter p es)) ++ found_one e
      by true h = ap (λ us. d.0 ∷ us) h
      by false h = h

  -- whether what stands under an identifier passes
  abbrev pub passes : Uuid → Option V → Bool
  passes q None = false
  passes q (Some v) = p (q, v)

  all_found : (P : Uuid → Type 0) (es : List (Uuid × V)) → AllByRecursion P (keys_of es) → AllByRecursion P (found es)
  all_found P [] h = tt
  all_found P (e ∷ es) h = by (p e) (all_found P es h.1)
    where
      by : (b : Bool) → AllByRecursion P (found es) → AllByRecursion P (map (λ (x : Uuid × V). x.0) (cond b (e ∷ filter p es) (filter p es)))
      by true r = (h.0, r)
      by false r = r

  pub distinct_found : (es : List (Uuid × V)) → IsDistinct (eq_by_cmp uuid_cmp) (keys_of es) → IsDistinct (eq_by_cmp uuid_cmp) (found es)
  unfolding IsDistinct
  distinct_found [] h = tt
  distinct_found (e ∷ es) h = by (p e) (distinct_found es (IsDistinct-tail (eq_by_cmp uuid_cmp) e.0 (keys_of es) h))
    where
      by : (b : Bool) → IsDistinct (eq_by_cmp uuid_cmp) (found es) → IsDistinct (eq_by_cmp uuid_cmp) (map (λ (x : Uuid × V). x.0) (cond b (e ∷ filter p es) (filter p es)))
      by true r = IsDistinct-cons (eq_by_cmp uuid_cmp) e.0 (found es) (all_found _ es (IsDistinct-head (eq_by_cmp uuid_cmp) e.0 (keys_of es) h)) r
      by false r = r

  none_behind : (k : Uuid) (es : List (Uuid × V)) → AllByRecursion (λ y. eq_by_cmp uuid_cmp k y ≡ false) (keys_of es) → lookup (eq_by_cmp uuid_cmp k) es ≡ None
  none_behind k [] h = refl
  none_behind k (e ∷ es) h = ap (λ b. cond b (Some e.1) (lookup (eq_by_cmp uuid_cmp k) es)) h.0 ∙ none_behind k es h.1

  any_found : (es : List (Uuid × V)) (q : Uuid) → IsDistinct (eq_by_cmp uuid_cmp) (keys_of es) → list_any (eq_by_cmp uuid_cmp q) (found es) ≡ passes q (lookup (eq_by_cmp uuid_cmp q) es)
  any_found [] q h = refl
  any_found (e ∷ es) q h = by (p e) refl (eq_by_cmp uuid_cmp q e.0) refl (any_found es q (IsDistinct-tail (eq_by_cmp uuid_cmp) e.0 (keys_of es) h))
    where
      absent : eq_by_cmp uuid_cmp q e.0 ≡ true → lookup (eq_by_cmp uuid_cmp q) es ≡ None
      absent is = ap (λ u. lookup (eq_by_cmp uuid_cmp u) es) (same_key uuid_cmp-IsAntisymmetric q e.0 is) ∙ none_behind e.0 es (IsDistinct-head (eq_by_cmp uuid_cmp) e.0 (keys_of es) h)

      here : eq_by_cmp uuid_cmp q e.0 ≡ true → p e ≡ p (q, e.1)
      here is = ap (λ u. p (u, e.1)) (sym (same_key uuid_cmp-IsAntisymmetric q e.0 is))

      by : (b : Bool) → p e ≡ b → (a : Bool) → eq_by_cmp uuid_cmp q e.0 ≡ a → list_any (eq_by_cmp uuid_cmp q) (found es) ≡ passes q (lookup (eq_by_cmp uuid_cmp q) es)
          → list_any (eq_by_cmp uuid_cmp q) (map (λ (x : Uuid × V). x.0) (cond b (e ∷ filter p es) (filter p es))) ≡ passes q (cond a (Some e.1) (lookup (eq_by_cmp uuid_cmp q) es))
      by true pe true is rest = ap (λ b. b || list_any (eq_by_cmp uuid_cmp q) (found es)) is ∙ sym pe ∙ here is
      by true pe false is rest = ap (λ b. b || list_any (eq_by_cmp uuid_cmp q) (found es)) is ∙ rest
      by false pe true is rest = rest ∙ ap (passes q) (absent is) ∙ sym pe ∙ here is
      by false pe false is rest = rest

  pub found-Lists : (es : List (Uuid × V)) (t : Table) → IsDistinct (eq_by_cmp uuid_cmp) (keys_of es) → ((q : Uuid) → finite.contains_key t q ≡ passes q (lookup (eq_by_cmp uuid_cmp q) es)) → Lists (found es) t
  found-Lists es t h is = (distinct_found es h, λ q. any_found es q h ∙ sym (is q))

-- ---- which rows match

abbrev pub if_passes : (Uuid → Row → Bool) → Uuid → Row → Option Row
if_passes p u r = cond (p u r) (Some r) None

pub get-passing : (p : Uuid → Row → Bool) (t : Table) (q : Uuid) → finite.get (passing p t) q ≡ option_and_then (if_passes p q) (finite.get t q)
get-passing p t q = get-map_entries uuid_cmp_total uuid_cmp-IsAntisymmetric (if_passes p) t q

get-untouched : (o : Touched) (t : Table) (q : Uuid) → finite.get (untouched o t) q ≡ option_and_then (λ r. cond (finite.contains_key o q) None (Some r)) (finite.get t q)
get-untouched o t q = get-map_entries uuid_cmp_total uuid_cmp-IsAntisymmetric (λ u r. cond (finite.contains_key o u) None (Some r)) t q

pub get-standing : (o : Touched) (q : Uuid) → finite.get (standing o) q ≡ option_and_then (λ now. now) (finite.get o q)
get-standing o q = get-map_entries uuid_cmp_total uuid_cmp-IsAntisymmetric (λ u now. now) o q

some_cond : (b : Bool) (r : Row) → is_some (cond b (Some r) None) ≡ b
some_cond true r = refl
some_cond false r = refl

pub matches : (p : Uuid → Row → Bool) (t : Table) (q : Uuid) → finite.contains_key (passing p t) q ≡ passes_now p q (finite.get t q)
matches p t q = ap is_some (get-passing p t q) ∙ by (finite.get t q)
  where
    by : (o : Option Row) → is_some (option_and_then (if_passes p q) o) ≡ passes_now p q o
    by None = refl
    by (Some r) = some_cond (p q r) r

pub matches-untouched : (p : Uuid → Row → Bool) (o : Touched) (t : Table) (q : Uuid) → finite.contains_key (passing p (untouched o t)) q ≡ (passes_now p q (finite.get t q) && not (finite.contains_key o q))
matches-untouched p o t q = matches p (untouched o t) q ∙ ap (passes_now p q) (get-untouched o t q) ∙ by (finite.get t q) (finite.contains_key o q)
  where
    and_false : (b : Bool) → false ≡ (b && false)
    and_false true = refl
    and_false false = refl

    and_true : (b : Bool) → b ≡ (b && true)
    and_true true = refl
    and_true false = refl

    by : (r : Option Row) (b : Bool) → passes_now p q (option_and_then (λ x. cond b None (Some x)) r) ≡ (passes_now p q r && not b)
    by None b = refl
    by (Some r) true = and_false (p q r)
    by (Some r) false = and_true (p q r)

pub matches-standing : (p : Uuid → Row → Bool) (o : Touched) (q : Uuid) → finite.contains_key (passing p (standing o)) q ≡ passes_now p q (option_and_then (λ now. now) (finite.get o q))
matches-standing p o q = matches p (standing o) q ∙ ap (passes_now p q) (get-standing o q)

-- a row matches in one of the two parts, and not in both
parted : (p : Uuid → Row → Bool) (o : Touched) (t : Table) (q : Uuid) → (finite.contains_key (passing p (overlaid t o)) q ≡ (finite.contains_key (passing p (untouched o t)) q || finite.contains_key (passing p (standing o)) q)) × (finite.contains_key (passing p (untouched o t)) q ≡ true → finite.contains_key (passing p (standing o)) q ≡ false)
parted p o t q =
    let h : Goal (finite.get o q) = by (passes_now p q (finite.get t q)) (finite.get o q) refl in
    (matches p (overlaid t o) q ∙ ap (passes_now p q) (get-overlaid t o q) ∙ h.0 ∙ (λ i. sym (matches-untouched p o t q) i || sym (matches-standing p o q) i), λ e. matches-standing p o q ∙ h.1 (sym (matches-untouched p o t q) ∙ e))
  where
    Goal : Option (Option Row) → Type 0
    Goal w = (passes_now p q (laid (finite.get t q) w) ≡ ((passes_now p q (finite.get t q) && not (is_some w)) || passes_now p q (option_and_then (λ now. now) w))) × ((passes_now p q (finite.get t q) && not (is_some w)) ≡ true → passes_now p q (option_and_then (λ now. now) w) ≡ false)

    alone : (b : Bool) → b ≡ ((b && true) || false)
    alone true = refl
    alone false = refl

    never : (b x : Bool) → x ≡ ((b && false) || x)
    never true x = refl
    never false x = refl

    not_both : (b x : Bool) → (b && false) ≡ true → x ≡ false
    not_both true x e = absurd (true≢false (sym e))
    not_both false x e = absurd (true≢false (sym e))

    by : (b : Bool) (w : Option (Option Row)) → passes_now p q (finite.get t q) ≡ b → Goal w
    by b None e = (alone (passes_now p q (finite.get t q)), λ _. refl)
    by b (Some w) e = (never (passes_now p q (finite.get t q)) (passes_now p q w), not_both (passes_now p q (finite.get t q)) (passes_now p q w))

-- of an entry of a table: it matches, and isn't touched
abbrev pub is_untouched : {Z : Type 0} → (Uuid → Row → Bool) → Touched → Uuid × Arc Row Z → Bool
is_untouched p o e = p e.0 (arc_value e.1) && not (finite.contains_key o e.0)

-- of an entry of an overlay: the row is there and matches
abbrev pub is_standing : {Z : Type 0} → (Uuid → Row → Bool) → Uuid × Option (Arc Row Z) → Bool
is_standing p e = passes_now p e.0 (row_of e.1)

pub listed-untouched : {Z S : Type 0} (p : Uuid → Row → Bool) (o : Touched) (m : IndexMap Uuid (Arc Row Z) S) → IsUnique (eq_by_cmp uuid_cmp) m → Lists (found (is_untouched p o) m.entries) (passing p (untouched o (keyed arc_value m)))
listed-untouched {Z = Z} p o m distinct =
    found-Lists (is_untouched p o) m.entries _ distinct
    (λ q. matches-untouched p o (keyed arc_value m) q ∙ ap (λ r. passes_now p q r && not (finite.contains_key o q)) (get-keyed arc_value m q) ∙ by q (lookup (eq_by_cmp uuid_cmp q) m.entries))
  where
    by : (q : Uuid) (v : Option (Arc Row Z)) → (passes_now p q (option_map arc_value v) && not (finite.contains_key o q)) ≡ passes (is_untouched p o) q v
    by q None = refl
    by q (Some v) = refl

pub listed-standing : {Z S : Type 0} (p : Uuid → Row → Bool) (m : IndexMap Uuid (Option (Arc Row Z)) S) → IsUnique (eq_by_cmp uuid_cmp) m → Lists (found (is_standing p) m.entries) (passing p (standing (keyed row_of m)))
listed-standing {Z = Z} p m distinct =
    found-Lists (is_standing p) m.entries _ distinct
    (λ q. matches-standing p (keyed row_of m) q ∙ ap (λ r. passes_now p q (option_and_then (λ now. now) r)) (get-keyed row_of m q) ∙ by q (lookup (eq_by_cmp uuid_cmp q) m.entries))
  where
    by : (q : Uuid) (v : Option (Option (Arc Row Z))) → passes_now p q (option_and_then (λ (now : Option Row). now) (option_map row_of v)) ≡ passes (is_standing p) q v
    by q None = refl
    by q (Some v) = refl

-- of an entry of an overlay: the row is there
abbrev pub is_there : {Z : Type 0} → Uuid × Option (Arc Row Z) → Bool
is_there e = is_some e.1

pub listed-there : {Z S : Type 0} (m : IndexMap Uuid (Option (Arc Row Z)) S) → IsUnique (eq_by_cmp uuid_cmp) m → Lists (found is_there m.entries) (standing (keyed row_of m))
listed-there {Z = Z} m distinct =
    found-Lists is_there m.entries _ distinct
    (λ q. ap is_some (get-standing (keyed row_of m) q ∙ ap (option_and_then (λ now. now)) (get-keyed row_of m q)) ∙ by q (lookup (eq_by_cmp uuid_cmp q) m.entries))
  where
    by : (q : Uuid) (v : Option (Option (Arc Row Z))) → is_some (option_and_then (λ (now : Option Row). now) (option_map row_of v)) ≡ passes is_there q v
    by q None = refl
    by q (Some None) = refl
    by q (Some (Some r)) = refl

-- ---- the two parts after each other

none_of : (p : Uuid → Bool) (us : List Uuid) → list_any p us ≡ false → AllByRecursion (λ y. p y ≡ false) us
none_of p [] e = tt
none_of p (u ∷ us) e = by (p u) refl e (none_of p us)
  where
    by : (b : Bool) → p u ≡ b → (b || list_any p us) ≡ false → (list_any p us ≡ false → AllByRecursion (λ y. p y ≡ false) us) → AllByRecursion (λ y. p y ≡ false) (u ∷ us)
    by true is h rest = absurd (true≢false h)
    by false is h rest = (is, rest h)

all-++ : (P : Uuid → Type 0) (us ws : List Uuid) → AllByRecursion P us → AllByRecursion P ws → AllByRecursion P (us ++ ws)
all-++ P [] ws h k = k
all-++ P (u ∷ us) ws h k = (h.0, all-++ P us ws h.1 k)

pub any-++ : (p : Uuid → Bool) (us ws : List Uuid) → list_any p (us ++ ws) ≡ (list_any p us || list_any p ws)
any-++ p [] ws = refl
any-++ p (u ∷ us) ws = by (p u) (any-++ p us ws)
  where
    by : (b : Bool) → list_any p (us ++ ws) ≡ (list_any p us || list_any p ws) → (b || list_any p (us ++ ws)) ≡ ((b || list_any p us) || list_any p ws)
    by true rest = refl
    by false rest = rest

or_later : (a b : Bool) → b ≡ true → (a || b) ≡ true
or_later true b e = refl
or_later false b e = e

pub distinct-++ : (us ws : List Uuid) → IsDistinct (eq_by_cmp uuid_cmp) us → IsDistinct (eq_by_cmp uuid_cmp) ws → ((q : Uuid) → list_any (eq_by_cmp uuid_cmp q) us ≡ true → list_any (eq_by_cmp uuid_cmp q) ws ≡ false) → IsDistinct (eq_by_cmp uuid_cmp) (us ++ ws)
distinct-++ [] ws h k apart = k
distinct-++ (u ∷ us) ws h k apart =
    IsDistinct-cons (eq_by_cmp uuid_cmp) u (us ++ ws)
    (all-++ _ us ws (IsDistinct-head (eq_by_cmp uuid_cmp) u us h) (none_of (eq_by_cmp uuid_cmp u) ws (apart u (ap (λ b. b || list_any (eq_by_cmp uuid_cmp u) us) (keys_equivalent.refl u)))))
    (distinct-++ us ws (IsDistinct-tail (eq_by_cmp uuid_cmp) u us h) k (λ q e. apart q (or_later (eq_by_cmp uuid_cmp q u) (list_any (eq_by_cmp uuid_cmp q) us) e)))

pub both-Lists : (p : Uuid → Row → Bool) (o : Touched) (t : Table) (us ws : List Uuid) → Lists us (passing p (untouched o t)) → Lists ws (passing p (standing o)) → Lists (us ++ ws) (passing p (overlaid t o))
both-Lists p o t us ws h k =
    (distinct-++ us ws h.0 k.0 (λ q e. k.1 q ∙ (parted p o t q).1 (sym (h.1 q) ∙ e)), λ q. any-++ (eq_by_cmp uuid_cmp q) us ws ∙ (λ i. h.1 q i || k.1 q i) ∙ sym (parted p o t q).0)

-- ---- in order

abbrev marked : List Uuid → List (Uuid × Unit {0})
marked us = map (λ u. (u, tt)) us

unmarked : (us : List Uuid) → map (λ (e : Uuid × Unit {0}). e.0) (marked us) ≡ us
unmarked [] = refl
unmarked (u ∷ us) = ap (λ ws. u ∷ ws) (unmarked us)

below-marked : {X : Type 0} (u : Uuid) (es : List (Uuid × X)) → below_all uuid_cmp u (marked (map (λ e. e.0) es)) ≡ below_all uuid_cmp u es
below-marked u [] = refl
below-marked u (e ∷ es) = ap (λ b. is_lt (uuid_cmp u e.0) && b) (below-marked u es)

sorted-marked : {X : Type 0} (es : List (Uuid × X)) → is_sorted uuid_cmp (marked (map (λ e. e.0) es)) ≡ is_sorted uuid_cmp es
sorted-marked [] = refl
sorted-marked (e ∷ es) = λ i. below-marked e.0 es i && sorted-marked es i

find-marked : (q : Uuid) (us : List Uuid) → find uuid_cmp q (marked us) ≡ cond (list_any (eq_by_cmp uuid_cmp q) us) (Some tt) None
find-marked q [] = refl
find-marked q (u ∷ us) = by (eq_by_cmp uuid_cmp q u) (find-marked q us)
  where
    by : (b : Bool) → find uuid_cmp q (marked us) ≡ cond (list_any (eq_by_cmp uuid_cmp q) us) (Some tt) None → cond b (Some tt) (find uuid_cmp q (marked us)) ≡ cond (b || list_any (eq_by_cmp uuid_cmp q) us) (Some tt) None
    by true rest = refl
    by false rest = rest

both : (a b : Bool) → T a → T b → T (a && b)
both true b p q = q
both false b p q = p

below-rising : (u : Uuid) (us : List Uuid) → AllByRecursion (λ y. uuid_cmp u y ≡ Less) us → T (below_all uuid_cmp u (marked us))
below-rising u [] h = tt
below-rising u (w ∷ us) h = both _ _ (is_less h.0) (below-rising u us h.1)

rising-marked : (us : List Uuid) → IsStrictlySortedBy uuid_cmp us → T (is_sorted uuid_cmp (marked us))
rising-marked [] h = tt
rising-marked (u ∷ us) h = both _ _ (below-rising u us (sorted_head uuid_cmp u us h)) (rising-marked us (sorted_tail uuid_cmp u us h))

-- a rising list of the keys of a table is that of its keys
pub rising-keys : (us : List Uuid) (t : Table) → IsStrictlySortedBy uuid_cmp us → ((q : Uuid) → list_any (eq_by_cmp uuid_cmp q) us ≡ finite.contains_key t q) → us ≡ finite.keys t
unfolding finite.keys finite.get
rising-keys us t up is =
    let ks = finite.keys t in
    let same : marked us ≡ marked ks = same_entries uuid_cmp uuid_cmp_total uuid_cmp-IsAntisymmetric (marked us) (marked ks) (rising-marked us up) (subst T (sym (sorted-marked t.entries)) t.sorted)
    (λ q. find-marked q us ∙ ap (λ b. cond b (Some tt) None) (is q ∙ contains_key-keys t q) ∙ sym (find-marked q ks)) in
    sym (unmarked us) ∙ ap (map (λ (e : Uuid × Unit {0}). e.0)) same ∙ unmarked ks

rising-one : (u : Uuid) → IsStrictlySortedBy uuid_cmp (u ∷ [])
unfolding IsStrictlySortedBy
rising-one u = (tt, tt)

pub sorted-keys : (us ws : List Uuid) (t : Table) → Lists us t → IsPermutation us ws → IsSortedByKey (λ u. u) uuid_cmp ws → ws ≡ finite.keys t
sorted-keys us ws t h moved up =
    rising-keys ws t (rises ws up (IsDistinct-IsPermutation (eq_by_cmp uuid_cmp) keys_equivalent.symm us ws moved h.0))
    (λ q. sym (list_any-IsPermutation (eq_by_cmp uuid_cmp q) us ws moved) ∙ h.1 q)

-- the identifiers that were found in the two parts, the second after the first
pub parts-Lists : (p : Uuid → Row → Bool) (o : Touched) (t : Table) (first second : List Uuid) → Appends [] first (passing p (untouched o t)) → Appends first second (passing p (standing o)) → Lists second (passing p (overlaid t o))
parts-Lists p o t first second some rest =
    let both : second ≡ some.0 ++ rest.0 = rest.1 ∙ ap (λ us. us ++ rest.0) some.1 in
    subst (λ us. Lists us (passing p (overlaid t o))) (sym both) (both-Lists p o t some.0 rest.0 some.2 rest.2)

-- and once they are sorted
pub in-order : {X : Type 0} (f : X → Uuid) (t : Table) (listed sorted : List X) → Lists (map f listed) t → IsPermutation listed sorted → IsSortedByKey f uuid_cmp sorted → map f sorted ≡ finite.keys t
in-order f t listed sorted all moved up = sorted-keys (map f listed) (map f sorted) t all (IsPermutation-map f listed sorted moved) (ranked f sorted up)

-- ---- where no row under another identifier can match

module _ (p : Uuid → Row → Bool) (t : Table) (u : Uuid) (alone : (v : Uuid) (r : Row) → IsTrue (p v r) → v ≡ u) where
  who : (q : Uuid) → passes_now p q (finite.get t q) ≡ true → q ≡ u
  who q h = by (finite.get t q) h
    where
      by : (o : Option Row) → passes_now p q o ≡ true → q ≡ u
      by None e = absurd (true≢false (sym e))
      by (Some r) e = alone q r e

  pub none-matches : passes_now p u (finite.get t u) ≡ false → [] ≡ finite.keys (passing p t)
  none-matches absent = rising-keys [] (passing p t) rising-none (λ q. sym (matches p t q ∙ by q (passes_now p q (finite.get t q)) refl))
    where
      by : (q : Uuid) (b : Bool) → passes_now p q (finite.get t q) ≡ b → b ≡ false
      by q false e = refl
      by q true e = sym e ∙ (λ i. passes_now p (who q e i) (finite.get t (who q e i))) ∙ absent

  pub one-matches : passes_now p u (finite.get t u) ≡ true → u ∷ [] ≡ finite.keys (passing p t)
  one-matches here = rising-keys (u ∷ []) (passing p t) (rising-one u) (λ q. by q (eq_by_cmp uuid_cmp q u) refl (passes_now p q (finite.get t q)) refl ∙ sym (matches p t q))
    where
      by : (q : Uuid) (a : Bool) → eq_by_cmp uuid_cmp q u ≡ a → (b : Bool) → passes_now p q (finite.get t q) ≡ b → (a || false) ≡ b
      by q true is b e = sym here ∙ (let same = same_key uuid_cmp-IsAntisymmetric q u is in λ i. passes_now p (sym same i) (finite.get t (sym same i))) ∙ e
      by q false is false e = refl
      by q false is true e = absurd (true≢false (sym (keys_equivalent.refl u) ∙ (λ i. eq_by_cmp uuid_cmp (sym (who q e) i) u) ∙ is))

-- no conditions at all
pub all-match : (t : Table) → passing (λ u r. true) t ≡ t
all-match t = same_map uuid_cmp_total uuid_cmp-IsAntisymmetric (passing (λ u r. true) t) t (λ q. get-passing (λ u r. true) t q ∙ by (finite.get t q))
  where
    by : (o : Option Row) → option_and_then (λ (r : Row). Some r) o ≡ o
    by None = refl
    by (Some r) = refl

-- no rows at all
pub none-passes : (p : Uuid → Row → Bool) → Lists [] (passing p finite.empty)
unfolding IsDistinct
none-passes p = (tt, λ q. sym (matches p finite.empty q ∙ ap (passes_now p q) (get-empty uuid_cmp q)))
