-- Tables under the rows that a draft touched.
use Rattle.std.proofs.Common.{◌≡◌, ℕ, zero, suc, ◌<◌, ◌≤◌, slice_index_or, Bool, true, false, cond, List, [], ◌∷◌, length, map, replicate, slice_get, slice_set, unwrap_or, Option, Some, None, option_and_then, option_copied, is_some, IfSome, Bor, refl, sym, ap, ◌∙◌, arith}
use Rattle.std.proofs.lemmas.Option.{none-some, slice_get-get_or, slice_get_past}
use mathlib.Core.Bool.{true≢false}
use Rattle.std.specs.List.{IsDistinct}
use Rattle.std.specs.Ordering.{eq_by_cmp}
use Rattle.odb_atoms.specs.FinMap as finite
use Rattle.odb_atoms.specs.FinSet as set
use Rattle.odb_atoms.specs.Row.{Row}
use Rattle.odb_atoms.specs.Uuid.{Uuid, uuid_cmp}
use Rattle.odb_atoms.proofs.Atoms.{uuid_cmp-IsAntisymmetric}
use Rattle.odb_atoms.proofs.FinMaps.{get-combine, get-empty, get-insert, get-map_entries, same_map}
use Rattle.odb_tables.specs.Database.{Db, Table, table_at}
use Rattle.odb_tables.specs.Represented.Draft.{all_overlaid, if_none, laid, overlaid, taken_out, touched_at}
use Rattle.odb_tables.specs.Represented.Key.{uuid_cmp_total}
use Rattle.odb_tables.specs.Represented.Overlay.{Touched}
use Rattle.odb_tables.proofs.KeyedMaps.{get-remove}

same : {X : Type 0} (m n : finite.FinMap uuid_cmp X) → ((q : Uuid) → finite.get m q ≡ finite.get n q) → m ≡ n
same m n h = same_map uuid_cmp_total uuid_cmp-IsAntisymmetric m n h

-- ---- one table

pub get-overlaid : (t : Table) (o : Touched) (q : Uuid) → finite.get (overlaid t o) q ≡ laid (finite.get t q) (finite.get o q)
get-overlaid t o q = get-combine uuid_cmp_total uuid_cmp-IsAntisymmetric laid refl t o q

pub overlaid-empty : (t : Table) → overlaid t finite.empty ≡ t
overlaid-empty t = same (overlaid t finite.empty) t (λ q. get-overlaid t finite.empty q ∙ ap (laid (finite.get t q)) (get-empty uuid_cmp q))

laid-cond : (b : Bool) (r w : Option Row) (x : Option (Option Row)) → laid r (cond b (Some w) x) ≡ cond b w (laid r x)
laid-cond true r w x = refl
laid-cond false r w x = refl

after : (t : Table) (o : Touched) (u : Uuid) (w : Option Row) (q : Uuid) → finite.get (overlaid t (finite.insert o u w)) q ≡ cond (eq_by_cmp uuid_cmp q u) w (finite.get (overlaid t o) q)
after t o u w q =
    get-overlaid t (finite.insert o u w) q ∙ ap (laid (finite.get t q)) (get-insert uuid_cmp_total o u w q)
    ∙ laid-cond (eq_by_cmp uuid_cmp q u) (finite.get t q) w (finite.get o q) ∙ ap (cond (eq_by_cmp uuid_cmp q u) w) (sym (get-overlaid t o q))

pub overlaid-put : (t : Table) (o : Touched) (u : Uuid) (r : Row) → overlaid t (finite.insert o u (Some r)) ≡ finite.insert (overlaid t o) u r
overlaid-put t o u r = same _ _ (λ q. after t o u (Some r) q ∙ sym (get-insert uuid_cmp_total (overlaid t o) u r q))

pub overlaid-removed : (t : Table) (o : Touched) (u : Uuid) → overlaid t (finite.insert o u None) ≡ finite.remove (overlaid t o) u
overlaid-removed t o u = same _ _ (λ q. after t o u None q ∙ sym (get-remove (overlaid t o) u q))

-- ---- what was taken out

pub get-taken_out : (o : Touched) (q : Uuid) → finite.get (taken_out o) q ≡ option_and_then if_none (finite.get o q)
get-taken_out o q = get-map_entries uuid_cmp_total uuid_cmp-IsAntisymmetric (λ u now. if_none now) o q

pub taken_out-empty : taken_out finite.empty ≡ set.empty
taken_out-empty = same (taken_out finite.empty) set.empty (λ q. get-taken_out finite.empty q ∙ ap (option_and_then if_none) (get-empty uuid_cmp q) ∙ sym (get-empty uuid_cmp q))

taken-cond : (b : Bool) (w : Option Row) (x : Option (Option Row)) → option_and_then if_none (cond b (Some w) x) ≡ cond b (if_none w) (option_and_then if_none x)
taken-cond true w x = refl
taken-cond false w x = refl

taken_after : (o : Touched) (u : Uuid) (w : Option Row) (q : Uuid) → finite.get (taken_out (finite.insert o u w)) q ≡ cond (eq_by_cmp uuid_cmp q u) (if_none w) (finite.get (taken_out o) q)
taken_after o u w q =
    get-taken_out (finite.insert o u w) q ∙ ap (option_and_then if_none) (get-insert uuid_cmp_total o u w q)
    ∙ taken-cond (eq_by_cmp uuid_cmp q u) w (finite.get o q) ∙ ap (cond (eq_by_cmp uuid_cmp q u) (if_none w)) (sym (get-taken_out o q))

pub taken_out-put : (o : Touched) (u : Uuid) (r : Row) → taken_out (finite.insert o u (Some r)) ≡ set.remove (taken_out o) u
taken_out-put o u r = same _ _ (λ q. taken_after o u (Some r) q ∙ sym (get-remove (taken_out o) u q))

pub taken_out-removed : (o : Touched) (u : Uuid) → taken_out (finite.insert o u None) ≡ set.insert (taken_out o) u
taken_out-removed o u = same _ _ (λ q. taken_after o u None q ∙ sym (get-insert uuid_cmp_total (taken_out o) u tt q))

-- ---- all tables

pub at-all_overlaid : (db : Db) (os : List Touched) (k : ℕ) → length os ≡ length db → table_at (all_overlaid db os) k ≡ overlaid (table_at db k) (touched_at os k)
at-all_overlaid [] [] k e = sym (overlaid-empty finite.empty)
at-all_overlaid [] (o ∷ os) k e = absurd (omega (arith, e))
at-all_overlaid (t ∷ db) [] k e = absurd (omega (arith, e))
at-all_overlaid (t ∷ db) (o ∷ os) zero e = refl
at-all_overlaid (t ∷ db) (o ∷ os) (suc k) e = at-all_overlaid db os k (omega (arith, e))

pub set-all_overlaid : (db : Db) (os : List Touched) (k : ℕ) (o : Touched) → length os ≡ length db → all_overlaid db (slice_set os k o) ≡ slice_set (all_overlaid db os) k (overlaid (table_at db k) o)
set-all_overlaid [] [] k o e = refl
set-all_overlaid [] (x ∷ os) k o e = absurd (omega (arith, e))
set-all_overlaid (t ∷ db) [] k o e = absurd (omega (arith, e))
set-all_overlaid (t ∷ db) (x ∷ os) zero o e = refl
set-all_overlaid (t ∷ db) (x ∷ os) (suc k) o e = ap (λ ts. overlaid t x ∷ ts) (set-all_overlaid db os k o (omega (arith, e)))

pub removed-all : (os : List Touched) (k : ℕ) → unwrap_or (slice_get (map taken_out os) k) set.empty ≡ taken_out (touched_at os k)
removed-all [] k = sym taken_out-empty
removed-all (o ∷ os) zero = refl
removed-all (o ∷ os) (suc k) = removed-all os k

pub set-removed : (os : List Touched) (k : ℕ) (o : Touched) → map taken_out (slice_set os k o) ≡ slice_set (map taken_out os) k (taken_out o)
set-removed [] k o = refl
set-removed (x ∷ os) zero o = refl
set-removed (x ∷ os) (suc k) o = ap (λ ts. taken_out x ∷ ts) (set-removed os k o)

pub length-all_overlaid : (db : Db) (os : List Touched) → length os ≡ length db → length (all_overlaid db os) ≡ length db
length-all_overlaid [] [] e = refl
length-all_overlaid [] (o ∷ os) e = refl
length-all_overlaid (t ∷ db) [] e = absurd (omega (arith, e))
length-all_overlaid (t ∷ db) (o ∷ os) e = ap suc (length-all_overlaid db os (omega (arith, e)))

-- nothing is touched
pub all_untouched : (db : Db) → all_overlaid db (replicate (length db) finite.empty) ≡ db
all_untouched [] = refl
all_untouched (t ∷ db) = λ i. overlaid-empty t i ∷ all_untouched db i

pub none_removed : (n : ℕ) → map taken_out (replicate n finite.empty) ≡ replicate n set.empty
none_removed zero = refl
none_removed (suc n) = λ i. taken_out-empty i ∷ none_removed n i

-- who stands at a place
pub touched-is : (os : List Touched) (k : ℕ) (x : Touched) → k < length os → x ≡ slice_index_or os k x → x ≡ touched_at os k
touched-is os k x inside at = at ∙ sym (ap (λ o. unwrap_or o finite.empty) (slice_get-get_or os k x inside))

pub untouched-past : (os : List Touched) (k : ℕ) → length os ≤ k → touched_at os k ≡ finite.empty
untouched-past os k past = ap (λ o. unwrap_or o finite.empty) (slice_get_past os k past)

pub table-is : (db : Db) (k : ℕ) (t : Table) → k < length db → t ≡ slice_index_or db k t → t ≡ table_at db k
table-is db k t inside at = at ∙ sym (ap (λ o. unwrap_or o finite.empty) (slice_get-get_or db k t inside))

-- past the last table
pub nothing-past : (db : Db) (os : List Touched) (k : ℕ) → length os ≡ length db → length db ≤ k → table_at (all_overlaid db os) k ≡ finite.empty
nothing-past db os k e past =
    at-all_overlaid db os k e ∙ (λ i. overlaid (unwrap_or (slice_get_past db k past i) finite.empty) (untouched-past os k (omega (arith, e, past)) i)) ∙ overlaid-empty finite.empty

-- a row that is there was not taken out
not_taken : (r : Option Row) (o : Option (Option Row)) (x : Row) → laid r o ≡ Some x → is_some (option_and_then if_none o) ≡ false
not_taken r None x e = refl
not_taken r (Some None) x e = absurd (none-some x e)
not_taken r (Some (Some y)) x e = refl

pub there_not_removed : (db : Db) (os : List Touched) (k : ℕ) (u : Uuid) (x : Row) → length os ≡ length db → finite.get (table_at (all_overlaid db os) k) u ≡ Some x → set.contains (unwrap_or (slice_get (map taken_out os) k) set.empty) u ≡ false
there_not_removed db os k u x e got =
    let o = touched_at os k in
    let laid_there : laid (finite.get (table_at db k) u) (finite.get o u) ≡ Some x = sym (get-overlaid (table_at db k) o u) ∙ ap (λ t. finite.get t u) (sym (at-all_overlaid db os k e)) ∙ got in
    ap (λ s. set.contains s u) (removed-all os k) ∙ ap is_some (get-taken_out o u) ∙ not_taken (finite.get (table_at db k) u) (finite.get o u) x laid_there

pub there_if : (P : Type 0) (row : Option (Bor Row)) (there : Option Row) → option_copied row ≡ there → ((x : Row) → there ≡ Some x → P) → IfSome row (λ _. P)
there_if P None there e h = tt
there_if P (Some r) there e h = h r.now (sym e)

-- a row that isn't touched is as it was
none_there : {X : Type 0} (o : Option X) → is_some o ≡ false → o ≡ None
none_there None e = refl
none_there (Some x) e = absurd (true≢false e)

pub as_it_was : (db : Db) (os : List Touched) (k : ℕ) (o : Touched) (u : Uuid) → length os ≡ length db → o ≡ touched_at os k → finite.contains_key o u ≡ false → finite.get (table_at (all_overlaid db os) k) u ≡ finite.get (table_at db k) u
as_it_was db os k o u e at untouched =
    ap (λ t. finite.get t u) (at-all_overlaid db os k e ∙ ap (overlaid (table_at db k)) (sym at)) ∙ get-overlaid (table_at db k) o u ∙ ap (laid (finite.get (table_at db k) u)) (none_there (finite.get o u) untouched)

pub none_twice : IsDistinct (eq_by_cmp uuid_cmp) []
unfolding IsDistinct
none_twice = tt

-- a table of which no row is touched is as it was
pub same_untouched : (db : Db) (os : List Touched) (k : ℕ) → length os ≡ length db → touched_at os k ≡ finite.empty → table_at (all_overlaid db os) k ≡ table_at db k
same_untouched db os k e none = at-all_overlaid db os k e ∙ ap (overlaid (table_at db k)) none ∙ overlaid-empty (table_at db k)

pub len-empty : (t : Table) → t ≡ finite.empty → finite.len t ≡ 0
unfolding finite.len finite.empty
len-empty t e = ap finite.len e
