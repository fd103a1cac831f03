-- How many contents of a table are kept, and how many segments lead from them to now.
use Rattle.std.proofs.Common.{◌≡◌, ℕ, zero, suc, ◌<◌, ◌≤◌, ◌==◌, arith, Bool, true, false, cond, ◌&&◌, true≢false, filter, nat_lt, T, List, [], ◌∷◌, ◌++◌, length, map, refl, sym, ap, ◌∙◌}
use Rattle.std.proofs.lemmas.Bool.Decides.{nat_tests}
use Rattle.std.proofs.lemmas.List.{length-map}
use Rattle.std.specs.declared.cmp.Ordering.TheVariants.{Equal, Greater, Less}
use Rattle.std.specs.FinMap.Entries.{below_all, find, is_sorted}
use Rattle.std.specs.Ordering.{is_lt, nat_cmp}
use Rattle.odb_atoms.specs.FinMap as finite
use Rattle.odb_atoms.proofs.FinMaps.{entries-from_sorted, get-entries, len-from_sorted}
use Rattle.odb_tables.specs.Change.{Changes}
use Rattle.odb_tables.specs.Database.{Db, Table, table_at}
use Rattle.odb_chain.specs.Chains.{Live, Standing}
use Rattle.odb_chain.specs.OldRows.{Rows}
use Rattle.odb_chain.specs.Represented.Chain.{AllAfter, AreApart, AreChainsOf, AreRising, Chain, chain_at, here, marked_versions, shown, stands}
use Rattle.odb_chain.specs.Segments.{contents_held, segments_held, segments_of}
use Rattle.odb_chain.proofs.Numbers.{get-from_entries, same}
use Rattle.odb_chain.proofs.MarkedVersions.{MarkedVersion}
use Rattle.odb_chain.proofs.Shown.{live_shown, version_shown}
use Rattle.odb_chain.proofs.Views.{versions_apart}

-- ---- versions in order are the entries of a map

before : (b c : Bool) → b ≡ true → T (is_lt (cond b Less (cond c Equal Greater)))
before true c e = tt
before false c e = absurd (true≢false (sym e))

joined : (a b : Bool) → T a → T b → T (a && b)
joined true b x y = y
joined false b x y = absurd x

module _ (t : Table) (rows : Rows) where
  below_stands : (p : ℕ) (ls : List MarkedVersion) → AllAfter p ls → T (below_all nat_cmp p (map (stands t rows) ls))
  below_stands p [] h = tt
  below_stands p (l ∷ ls) h =
      let low : p < l.0 = h.0 in
      joined (is_lt (nat_cmp p l.0)) (below_all nat_cmp p (map (stands t rows) ls)) (before (nat_lt p l.0) (p == l.0) (grind (arith, nat_tests))) (below_stands p ls h.1)

  sorted_stands : (ls : List MarkedVersion) → AreApart ls → T (is_sorted nat_cmp (map (stands t rows) ls))
  sorted_stands [] h = tt
  sorted_stands (l ∷ ls) h = joined (below_all nat_cmp l.0 (map (stands t rows) ls)) (is_sorted nat_cmp (map (stands t rows) ls)) (below_stands l.0 ls h.0) (sorted_stands ls h.1)

-- entries in order are those of their map
module _ (es : List (ℕ × Standing)) (h : T (is_sorted nat_cmp es)) where
  in_order : finite.from_entries {R = nat_cmp} es ≡ finite.from_sorted es
  in_order =
      same _ _
      (λ q. get-from_entries es q ∙ ap (λ xs. find nat_cmp q xs) (sym (entries-from_sorted nat_cmp es h)) ∙ sym (get-entries (finite.from_sorted {R = nat_cmp} es) q))

  entries_are : finite.entries_of (finite.from_entries {R = nat_cmp} es) ≡ es
  entries_are = ap (λ (m : Live). m.entries) in_order ∙ entries-from_sorted nat_cmp es h

  len_is : finite.len (finite.from_entries {R = nat_cmp} es) ≡ length es
  len_is = ap (λ (m : Live). finite.len m) in_order ∙ len-from_sorted nat_cmp es h

-- ---- segments that begin before a number

abbrev begins : ℕ → ℕ × Changes → Bool
begins v s = nat_lt s.0 v

abbrev is_earlier : ℕ → MarkedVersion → Bool
is_earlier v l = nat_lt l.0 v

one_more : (b : Bool) (s : ℕ × Changes) (ss : List (ℕ × Changes)) (l : MarkedVersion) (ls : List MarkedVersion) → length ss ≡ length ls → length (cond b (s ∷ ss) ss) ≡ length (cond b (l ∷ ls) ls)
one_more true s ss l ls e = ap suc e
one_more false s ss l ls e = e

begun : (t x : Table) (rows : Rows) (v : ℕ) (ls : List MarkedVersion) → length (filter (begins v) (segments_of (map (stands t rows) ls) x)) ≡ length (filter (is_earlier v) ls)
begun t x rows v [] = refl
begun t x rows v (l ∷ []) = one_more (nat_lt l.0 v) _ [] l [] refl
begun t x rows v (l ∷ m ∷ ls) = one_more (nat_lt l.0 v) _ (filter (begins v) (segments_of (map (stands t rows) (m ∷ ls)) x)) l (filter (is_earlier v) (m ∷ ls)) (begun t x rows v (m ∷ ls))

-- the marked versions before that of now are those that are kept apart from it
all_earlier : (v n : ℕ) (ls : List MarkedVersion) → AreRising v ls → filter (is_earlier v) (ls ++ here v n) ≡ ls
all_earlier v zero [] h = refl
all_earlier v (suc n) [] h = let own : nat_lt v v ≡ false = grind (arith, nat_tests) in ap (λ b. cond {A = List MarkedVersion} b ((v, suc n) ∷ []) []) own
all_earlier v n (l ∷ ls) h =
    let low : l.0 < v = h.0 in
    let early : nat_lt l.0 v ≡ true = grind (arith, nat_tests) in
    ap (λ b. cond b (l ∷ filter (is_earlier v) (ls ++ here v n)) (filter (is_earlier v) (ls ++ here v n))) early ∙ ap (λ xs. l ∷ xs) (all_earlier v n ls h.3)

not_more : (xs ys : List MarkedVersion) → length xs ≤ length (xs ++ ys)
not_more [] ys = omega arith
not_more (x ∷ xs) ys = let rest : length xs ≤ length (xs ++ ys) = not_more xs ys in omega (arith, rest)

-- ---- of all tables

module _ (db : Db) (cs : List Chain) (t : ℕ) (h : AreChainsOf db cs) where
  abbrev pub c : Chain
  c = chain_at cs t

  abbrev pub table : Table
  table = table_at db t

  sorted_here : T (is_sorted nat_cmp (map (stands table c.rows) (marked_versions c)))
  sorted_here = sorted_stands table c.rows (marked_versions c) (versions_apart c (h.1 t).0)

  pub contents_are : contents_held (shown db cs) t ≡ length (marked_versions c)
  contents_are = ap (λ (l : Live). finite.len l) (live_shown db cs t h.0) ∙ len_is (map (stands table c.rows) (marked_versions c)) sorted_here ∙ length-map (marked_versions c) (stands table c.rows)

  pub segments_are : segments_held (shown db cs) t ≡ length c.live
  segments_are =
      (λ i. length (filter (begins (version_shown db cs t i)) (segments_of (finite.entries_of (live_shown db cs t h.0 i)) table)))
      ∙ ap (λ es. length (filter (begins c.version) (segments_of es table))) (entries_are (map (stands table c.rows) (marked_versions c)) sorted_here)
      ∙ begun table table c.rows c.version (marked_versions c)
      ∙ ap length (all_earlier c.version c.fresh c.live (h.1 t).0)

  pub few_segments : length c.live ≤ length (marked_versions c)
  few_segments = not_more c.live (here c.version c.fresh)
