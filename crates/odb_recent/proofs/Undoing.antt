-- What a change replaced leads back, and the contents that the last commits made are findable.
use Rattle.std.proofs.Common.{◌≡◌, ℕ, zero, suc, ◌+◌, ◌-◌, ◌<◌, ◌≤◌, ◌==◌, arith, Bool, true, false, cond, nat_lt, List, [], ◌∷◌, ◌++◌, length, slice_get, take, unwrap_or, Option, Some, None, option_and_then, refl, sym, ap, subst, ◌∙◌}
use Rattle.std.proofs.lemmas.Bool.Decides.{nat_tests}
use Rattle.std.proofs.lemmas.List.{nil_from_length}
use Rattle.std.specs.Cmp.{unsigned_tied}
use Rattle.std.specs.FinMap.Entries.{find}
use Rattle.std.specs.Ordering.{eq_by_cmp, nat_cmp}
use Rattle.odb_atoms.specs.FinMap as map
use Rattle.odb_atoms.specs.Row.{Row}
use Rattle.odb_atoms.specs.Uuid.{Uuid, uuid_cmp}
use Rattle.odb_atoms.proofs.Atoms.{uuid_cmp_total, uuid_cmp-IsAntisymmetric}
use Rattle.odb_atoms.proofs.FinMaps.{get-combine, get-empty, get-entries, get-map_entries, same_map}
use Rattle.odb_tables.specs.Change.{Changes, after, all_changed_by, before, changed_by}
use Rattle.odb_tables.specs.Database.{Db, Table, table_at}
use Rattle.odb_recent.specs.Findable.{ContentsAreFindable, ContentsAreThere, TablesAreThoseOfContents, UndoLeadsBack, findable}
use Rattle.odb_recent.specs.Undo.{Undo, all_undone_by, old_or, olds, olds_at, table_ago, undo_from, undo_of, undone_by, undone_from}

-- ---- of one table

abbrev Sides : Type 0
Sides = Option Row × Option Row

back : (r : Option Row) (o : Option Sides) → old_or (after r o) (option_and_then (λ (c : Sides). Some c.0) o) ≡ before r o
back r None = refl
back r (Some c) = refl

undone-olds : (t : Table) (c : Changes) → ((q : Uuid) → before (map.get t q) (map.get c q) ≡ map.get t q) → undone_by (changed_by t c) (olds c) ≡ t
undone-olds t c own =
    same_map uuid_cmp_total uuid_cmp-IsAntisymmetric _ _
    (λ q. get-combine uuid_cmp_total uuid_cmp-IsAntisymmetric old_or refl (changed_by t c) (olds c) q
    ∙ (λ i. old_or (get-combine uuid_cmp_total uuid_cmp-IsAntisymmetric after refl t c q i) (get-map_entries uuid_cmp_total uuid_cmp-IsAntisymmetric (λ u (x : Sides). Some x.0) c q i))
    ∙ back (map.get t q) (map.get c q) ∙ own q)

-- a change of no row replaces nothing
olds-none : (c : Changes) → ((q : Uuid) → map.get c q ≡ None) → olds c ≡ map.empty
olds-none c none =
    same_map uuid_cmp_total uuid_cmp-IsAntisymmetric _ _
    (λ q. get-map_entries uuid_cmp_total uuid_cmp-IsAntisymmetric (λ u (x : Sides). Some x.0) c q
    ∙ ap (option_and_then (λ (x : Sides). Some x.0)) (none q) ∙ sym (get-empty uuid_cmp q))

no_row : (c : Changes) → nat_lt 0 (map.len c) ≡ false → (q : Uuid) → map.get c q ≡ None
unfolding map.len
no_row c short q =
    let none : length c.entries ≡ 0 = grind (arith, nat_tests, short) in
    get-entries c q ∙ ap (find uuid_cmp q) (nil_from_length c.entries none)

-- ---- the tables that a change names

abbrev changes_at : List Changes → ℕ → Changes
changes_at cs j = unwrap_or (slice_get cs j) map.empty

apart : (m k : ℕ) → (m == k) ≡ false → eq_by_cmp nat_cmp m k ≡ false
apart m k e = unsigned_tied m k ∙ e

-- a place before all of them isn't found
none_before : (m k : ℕ) (cs : List Changes) → nat_lt m k ≡ true → find nat_cmp m (undo_from k cs) ≡ None
none_before m k [] less = refl
none_before m k (c ∷ cs) less =
    let other : (m == k) ≡ false = grind (arith, nat_tests, less) in
    let later : nat_lt m (suc k) ≡ true = grind (arith, nat_tests, less) in
    by (nat_lt 0 (map.len c)) other (none_before m (suc k) cs later)
  where
    by : (b : Bool) → (m == k) ≡ false → find nat_cmp m (undo_from (suc k) cs) ≡ None → find nat_cmp m (cond b ((k, olds c) ∷ []) [] ++ undo_from (suc k) cs) ≡ None
    by true other rest = ap (λ b. cond b (Some (olds c)) (find nat_cmp m (undo_from (suc k) cs))) (apart m k other) ∙ rest
    by false other rest = rest

found : (j k m : ℕ) (cs : List Changes) → m ≡ k + j → olds_at (undo_from k cs) m ≡ olds (changes_at cs j)
found j k m [] is = sym (olds-none map.empty (λ q. get-empty uuid_cmp q))
found zero k m (c ∷ cs) is =
    let here : (m == k) ≡ true = grind (arith, nat_tests, is) in
    let less : nat_lt m (suc k) ≡ true = grind (arith, nat_tests, is) in
    by (nat_lt 0 (map.len c)) refl here (none_before m (suc k) cs less)
  where
    by : (b : Bool) → nat_lt 0 (map.len c) ≡ b → (m == k) ≡ true → find nat_cmp m (undo_from (suc k) cs) ≡ None → olds_at (cond b ((k, olds c) ∷ []) [] ++ undo_from (suc k) cs) m ≡ olds c
    by true some here rest = ap (λ b. unwrap_or (cond b (Some (olds c)) (find nat_cmp m (undo_from (suc k) cs))) map.empty) (unsigned_tied m k ∙ here)
    by false none here rest = ap (λ o. unwrap_or o map.empty) rest ∙ sym (olds-none c (no_row c none))
found (suc j) k m (c ∷ cs) is =
    let other : (m == k) ≡ false = grind (arith, nat_tests, is) in
    let behind : m ≡ suc k + j = omega (arith, is) in
    by (nat_lt 0 (map.len c)) other (found j (suc k) m cs behind)
  where
    by : (b : Bool) → (m == k) ≡ false → olds_at (undo_from (suc k) cs) m ≡ olds (changes_at cs j) → olds_at (cond b ((k, olds c) ∷ []) [] ++ undo_from (suc k) cs) m ≡ olds (changes_at cs j)
    by true other rest = ap (λ b. unwrap_or (cond b (Some (olds c)) (find nat_cmp m (undo_from (suc k) cs))) map.empty) (apart m k other) ∙ rest
    by false other rest = rest

-- ---- of all tables

back_from : (k : ℕ) (ts : Db) (cs : List Changes) (u : Undo) → length cs ≡ length ts
    → ((j m : ℕ) → m ≡ k + j → olds_at u m ≡ olds (changes_at cs j))
    → ((j : ℕ) (c : Changes) → slice_get cs j ≡ Some c → (q : Uuid) → before (map.get (table_at ts j) q) (map.get c q) ≡ map.get (table_at ts j) q)
    → undone_from k (all_changed_by ts cs) u ≡ ts
back_from k [] cs u long at own = refl
back_from k (t ∷ ts) [] u long at own = absurd (omega (arith, long))
back_from k (t ∷ ts) (c ∷ cs) u long at own =
    let here : k ≡ k + 0 = omega arith in
    let first : undone_by (changed_by t c) (olds_at u k) ≡ t = ap (undone_by (changed_by t c)) (at 0 k here) ∙ undone-olds t c (own 0 c refl) in
    let rest : undone_from (suc k) (all_changed_by ts cs) u ≡ ts =
    back_from (suc k) ts cs u (omega (arith, long)) (λ j m is. let next : m ≡ k + suc j = omega (arith, is) in at (suc j) m next) (λ j d there. own (suc j) d there) in
    λ i. first i ∷ rest i

pub undo_leads_back : UndoLeadsBack
undo_leads_back db cs is = back_from 0 db cs (undo_of cs) is.0 (λ j m e. found j 0 m cs e) is.1

-- ---- contents

findable-take : (db : Db) (us : List Undo) (n : ℕ) → findable db (take n us) ≡ take (suc n) (findable db us)
findable-take db [] zero = refl
findable-take db (u ∷ us) zero = refl
findable-take db [] (suc n) = refl
findable-take db (u ∷ us) (suc n) = ap (λ rest. db ∷ rest) (findable-take (all_undone_by db u) us n)

findable-more : (db new : Db) (u : Undo) (us : List Undo) (n : ℕ) → all_undone_by new u ≡ db → findable new (take n (u ∷ us)) ≡ take (suc n) (new ∷ findable db us)
findable-more db new u us zero is = refl
findable-more db new u us (suc n) is = ap (λ rest. new ∷ rest) (ap (λ (x : Db). findable x (take n us)) is ∙ findable-take db us n)

pub contents_are_findable : ContentsAreFindable
contents_are_findable db cs r is = by (nat_lt r.most 2) refl
  where
    new : Db
    new = all_changed_by db cs

    Goal : Undo → ℕ → Type 0
    Goal u n = findable new (take n (u ∷ r.undos)) ≡ take (suc n) (new ∷ findable db r.undos)

    by : (b : Bool) → nat_lt r.most 2 ≡ b → Goal (cond b [] (undo_of cs)) (r.most - 1)
    by true few = let none : 0 ≡ r.most - 1 = grind (arith, nat_tests, few) in subst (λ n. Goal [] n) none refl
    by false few = findable-more db new (undo_of cs) r.undos (r.most - 1) (undo_leads_back db cs is)

there : (d db : Db) (us : List Undo) (n : ℕ) → n ≤ length us → slice_get (findable db us) n ≡ Some (unwrap_or (slice_get (findable db us) n) d)
there d db [] zero few = refl
there d db (u ∷ us) zero few = refl
there d db [] (suc n) few = absurd (omega (arith, few))
there d db (u ∷ us) (suc n) few = there d (all_undone_by db u) us n (omega (arith, few))

pub contents_are_there : ContentsAreThere
contents_are_there db us n few = there db db us n few

-- ---- tables of contents

length-undone : (k : ℕ) (ts : Db) (u : Undo) → length (undone_from k ts u) ≡ length ts
length-undone k [] u = refl
length-undone k (t ∷ ts) u = ap suc (length-undone (suc k) ts u)

table-undone : (j k m : ℕ) (ts : Db) (u : Undo) → m ≡ k + j → j < length ts → table_at (undone_from k ts u) j ≡ undone_by (table_at ts j) (olds_at u m)
table-undone j k m [] u is low = absurd (omega (arith, low))
table-undone zero k m (t ∷ ts) u is low = let here : k ≡ m = omega (arith, is) in ap (λ p. undone_by t (olds_at u p)) here
table-undone (suc j) k m (t ∷ ts) u is low = table-undone j (suc k) m ts u (omega (arith, is)) (omega (arith, low))

table_of : (d db : Db) (us : List Undo) (n k : ℕ) → n ≤ length us → k < length db → table_at (unwrap_or (slice_get (findable db us) n) d) k ≡ table_ago k (take n us) (table_at db k)
table_of d db [] zero k few low = refl
table_of d db (u ∷ us) zero k few low = refl
table_of d db [] (suc n) k few low = absurd (omega (arith, few))
table_of d db (u ∷ us) (suc n) k few low =
    let long : k < length (all_undone_by db u) = subst (λ l. k < l) (sym (length-undone 0 db u)) low in
    table_of d (all_undone_by db u) us n k (omega (arith, few)) long
    ∙ ap (table_ago k (take n us)) (table-undone k 0 k db u (omega arith) low)

pub tables_are_those_of_contents : TablesAreThoseOfContents
tables_are_those_of_contents db us n k few low = table_of db db us n k few low
