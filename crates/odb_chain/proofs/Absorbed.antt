-- A change of the database, table by table: what marks stand for stays.
use Rattle.std.proofs.Common.{◌≡◌, ℕ, zero, suc, ◌+◌, ◌<◌, ◌≤◌, arith, Bool, true, false, cond, nat_lt, List, [], ◌∷◌, ◌++◌, length, map, slice_set, slice_index_or, unwrap_or, zip, None, refl, sym, ap, subst, ◌∙◌}
use Rattle.std.proofs.lemmas.Bool.Decides.{nat_tests}
use Rattle.std.proofs.lemmas.List.{nil_from_length}
use Rattle.std.proofs.lemmas.Option.{slice_get-get_or, slice_get_past}
use Rattle.std.specs.FinMap.Entries.{find}
use Rattle.odb_atoms.specs.FinMap as finite
use Rattle.odb_atoms.specs.Uuid.{Uuid, uuid_cmp}
use Rattle.odb_atoms.proofs.Atoms.{uuid_cmp_total, uuid_cmp-IsAntisymmetric}
use Rattle.odb_atoms.proofs.FinMaps.{get-combine, get-empty, get-entries, same_map}
use Rattle.odb_tables.specs.Change.{Changes, after, all_changed_by, changed_by}
use Rattle.odb_tables.specs.Database.{Db, Table, table_at}
use Rattle.odb_chain.specs.Chains.{absorbed, next}
use Rattle.odb_chain.specs.OldRows.{Rows, content_at}
use Rattle.odb_chain.specs.Represented.Chain.{AreChainsOf, AreRising, Chain, IsKeptOf, IsReadyFor, IsStepped, StandsAsBefore, chain_at, change_at, here, is_moved, live_of, marked_versions, moved_at, shown}
use Rattle.odb_chain.specs.Represented.MarkedVersions.{IsPast, is_marked}
use Rattle.odb_chain.proofs.Contents.{changed_content, len-empty, moved_past, nothing_named}
use Rattle.odb_chain.proofs.Shown.{all_live}
use Rattle.odb_chain.proofs.Views.{same_marks}

-- ---- one chain of a list

pub at_set : (P : Chain → Type 0) (cs : List Chain) (k q : ℕ) (new : Chain) → k < length cs → (q ≡ k → P new) → ((q ≡ k → ⊥) → P (chain_at cs q)) → P (chain_at (slice_set cs k new) q)
at_set P [] k q new low f g = absurd (omega (arith, low))
at_set P (x ∷ cs) zero zero new low f g = f refl
at_set P (x ∷ cs) zero (suc q) new low f g = g (λ e. omega (arith, e))
at_set P (x ∷ cs) (suc k) zero new low f g = g (λ e. omega (arith, e))
at_set P (x ∷ cs) (suc k) (suc q) new low f g = at_set P cs k q new (omega (arith, low)) (λ e. f (ap suc e)) (λ ne. g (λ e. ne (omega (arith, e))))

pub change_is : (ds : List Changes) (k : ℕ) (x : Changes) → k < length ds → x ≡ slice_index_or ds k x → x ≡ change_at ds k
change_is ds k x inside at = at ∙ sym (ap (λ o. unwrap_or o finite.empty) (slice_get-get_or ds k x inside))

-- ---- standing as before

pub stands_itself : (t : Table) (c : Chain) → StandsAsBefore t c c
stands_itself t c = (refl, refl, refl, λ p there. refl, λ h. h)

same_marked_versions : (t : Table) (a b : Chain) → StandsAsBefore t a b → marked_versions b ≡ marked_versions a
same_marked_versions t a b f = λ i. f.1 i ++ here (f.0 i) (f.2 i)

pub stands_on : (t : Table) (a b c : Chain) → StandsAsBefore t a b → StandsAsBefore t b c → StandsAsBefore t a c
stands_on t a b c f g = (g.0 ∙ f.0, g.1 ∙ f.1, g.2 ∙ f.2, λ p there. g.3 p (ap (is_marked p) (same_marked_versions t a b f) ∙ there) ∙ f.3 p there, λ h. g.4 (f.4 h))

-- one table more is ready
pub ready_more : (ds : List Changes) (cs : List Chain) (k : ℕ) (new : Chain) → k < length cs → IsReadyFor (change_at ds k) new → ((t : ℕ) → t < k → IsReadyFor (change_at ds t) (chain_at cs t))
    → (t : ℕ) → t < k + 1 → IsReadyFor (change_at ds t) (chain_at (slice_set cs k new) t)
ready_more ds cs k new low here before t below =
    at_set (IsReadyFor (change_at ds t)) cs k t new low (λ e. subst (λ q. IsReadyFor (change_at ds q) new) (sym e) here)
    (λ ne. by (nat_lt t k) refl ne)
  where
    by : (b : Bool) → nat_lt t k ≡ b → (t ≡ k → ⊥) → IsReadyFor (change_at ds t) (chain_at cs t)
    by true is ne = before t (grind (arith, nat_tests))
    by false is ne = absurd (ne (grind (arith, nat_tests)))

pub ready_past : (ds : List Changes) (cs : List Chain) (k : ℕ) → length ds ≤ k → ((t : ℕ) → t < k → IsReadyFor (change_at ds t) (chain_at cs t)) → (t : ℕ) → IsReadyFor (change_at ds t) (chain_at cs t)
ready_past ds cs k past before t = by (nat_lt t k) refl
  where
    by : (b : Bool) → nat_lt t k ≡ b → IsReadyFor (change_at ds t) (chain_at cs t)
    by true is = before t (grind (arith, nat_tests))
    by false is = nothing_named (change_at ds t) (chain_at cs t) (ap (λ o. unwrap_or o finite.empty) (slice_get_past ds t (let late : k ≤ t = grind (arith, nat_tests) in omega (arith, late, past))))

-- ---- stepping

pub step_itself : (c : Chain) → IsStepped false c c
step_itself c = (refl, refl, refl, λ h. h)

pub stepped_more : (ms : List Bool) (old cs : List Chain) (k : ℕ) (new : Chain) → k < length cs → IsStepped (moved_at ms k) (chain_at cs k) new → chain_at cs k ≡ chain_at old k
    → ((t : ℕ) → t < k → IsStepped (moved_at ms t) (chain_at old t) (chain_at cs t)) → (t : ℕ) → t < k + 1 → IsStepped (moved_at ms t) (chain_at old t) (chain_at (slice_set cs k new) t)
stepped_more ms old cs k new low here same before t below =
    at_set (IsStepped (moved_at ms t) (chain_at old t)) cs k t new low (λ e. subst (λ q. IsStepped (moved_at ms q) (chain_at old q) new) (sym e) (subst (λ (c : Chain). IsStepped (moved_at ms k) c new) same here))
    (λ ne. by (nat_lt t k) refl ne)
  where
    by : (b : Bool) → nat_lt t k ≡ b → (t ≡ k → ⊥) → IsStepped (moved_at ms t) (chain_at old t) (chain_at cs t)
    by true is ne = before t (grind (arith, nat_tests))
    by false is ne = absurd (ne (grind (arith, nat_tests)))

pub rest_more : (old cs : List Chain) (k : ℕ) (new : Chain) → k < length cs → ((t : ℕ) → k ≤ t → chain_at cs t ≡ chain_at old t) → (t : ℕ) → k + 1 ≤ t → chain_at (slice_set cs k new) t ≡ chain_at old t
rest_more old cs k new low rest t late = at_set (λ c. c ≡ chain_at old t) cs k t new low (λ e. absurd (omega (arith, e, late))) (λ ne. rest t (omega (arith, late)))

pub stepped_past : (ms : List Bool) (old cs : List Chain) (k : ℕ) → length ms ≤ k → ((t : ℕ) → t < k → IsStepped (moved_at ms t) (chain_at old t) (chain_at cs t))
    → ((t : ℕ) → k ≤ t → chain_at cs t ≡ chain_at old t) → (t : ℕ) → IsStepped (moved_at ms t) (chain_at old t) (chain_at cs t)
stepped_past ms old cs k past before rest t = by (nat_lt t k) refl
  where
    by : (b : Bool) → nat_lt t k ≡ b → IsStepped (moved_at ms t) (chain_at old t) (chain_at cs t)
    by true is = before t (grind (arith, nat_tests))
    by false is =
        let late : k ≤ t = grind (arith, nat_tests) in
        let none : moved_at ms t ≡ false = ap (λ o. unwrap_or o false) (slice_get_past ms t (omega (arith, late, past))) in
        subst (λ b. IsStepped b (chain_at old t) (chain_at cs t)) (sym none) (subst (IsStepped false (chain_at old t)) (sym (rest t late)) (step_itself (chain_at old t)))

-- ---- which tables are changed

pub moved_shown : (ds : List Changes) (t : ℕ) → moved_at (map is_moved ds) t ≡ is_moved (change_at ds t)
moved_shown [] t = sym (ap (nat_lt 0) len-empty)
moved_shown (d ∷ ds) zero = refl
moved_shown (d ∷ ds) (suc t) = moved_shown ds t

-- where no row is named, none is changed
none_named : (d : Changes) (u : Uuid) → is_moved d ≡ false → finite.get d u ≡ None
unfolding finite.len
none_named d u e = get-entries d u ∙ ap (find uuid_cmp u) (nil_from_length d.entries (grind (arith, nat_tests)))

get-changed : (t : Table) (d : Changes) (u : Uuid) → finite.get (changed_by t d) u ≡ after (finite.get t u) (finite.get d u)
get-changed t d u = get-combine uuid_cmp_total uuid_cmp-IsAntisymmetric after refl t d u

unchanged_row : (t : Table) (d : Changes) (u : Uuid) → is_moved d ≡ false → finite.get (changed_by t d) u ≡ finite.get t u
unchanged_row t d u e = get-changed t d u ∙ ap (after (finite.get t u)) (none_named d u e)

table_changed : (db : Db) (ds : List Changes) (t : ℕ) → length ds ≡ length db → table_at (all_changed_by db ds) t ≡ changed_by (table_at db t) (change_at ds t)
table_changed [] [] t e =
    sym (same_map uuid_cmp_total uuid_cmp-IsAntisymmetric (changed_by finite.empty finite.empty) finite.empty
    (λ u. get-changed finite.empty finite.empty u ∙ (λ i. after (get-empty uuid_cmp u i) (get-empty uuid_cmp u i)) ∙ sym (get-empty uuid_cmp u)))
table_changed [] (d ∷ ds) t e = absurd (omega (arith, e))
table_changed (x ∷ db) [] t e = absurd (omega (arith, e))
table_changed (x ∷ db) (d ∷ ds) zero e = refl
table_changed (x ∷ db) (d ∷ ds) (suc t) e = table_changed db ds t (omega (arith, e))

length_changed : (db : Db) (ds : List Changes) → length ds ≡ length db → length (all_changed_by db ds) ≡ length db
length_changed [] [] e = refl
length_changed [] (d ∷ ds) e = absurd (omega (arith, e))
length_changed (x ∷ db) [] e = absurd (omega (arith, e))
length_changed (x ∷ db) (d ∷ ds) e = ap suc (length_changed db ds (omega (arith, e)))

-- ---- one table

module _ (t : Table) (d : Changes) (old mid new : Chain) (kept : IsKeptOf t old) (stands : StandsAsBefore t old mid) (ready : IsReadyFor d mid) (stepped : IsStepped (is_moved d) mid new) where
  marked_versions_are : marked_versions new ≡ marked_versions old
  marked_versions_are = stepped.1 ∙ same_marked_versions t old mid stands

  pub same_live : live_of (changed_by t d) new ≡ live_of t old
  same_live =
      same_marks t (changed_by t d) old new marked_versions_are
      (λ p there. ap (content_at p (changed_by t d)) stepped.2 ∙ changed_content p t d mid.rows (ready.1 p (ap (is_marked p) (same_marked_versions t old mid stands) ∙ there)) ∙ stands.3 p there)

  pub next_version : new.version ≡ next old.version d
  next_version = stepped.0 ∙ ap (λ v. cond (is_moved d) (v + 1) v) stands.0

  rising : AreRising mid.version mid.live
  rising = subst (λ v. AreRising v mid.live) (sym stands.0) (subst (AreRising old.version) (sym stands.1) kept.0)

  past : (b : Bool) → is_moved d ≡ b → (u : Uuid) → IsPast (cond b (mid.version + 1) mid.version) (finite.get (changed_by t d) u) (finite.get mid.rows u)
  past true is u = moved_past mid.version (finite.get t u) (finite.get (changed_by t d) u) (finite.get mid.rows u) (stands.4 kept.1 u)
  past false is u = subst (λ r. IsPast mid.version r (finite.get mid.rows u)) (sym (unchanged_row t d u is)) (stands.4 kept.1 u)

  pub still_kept : IsKeptOf (changed_by t d) new
  still_kept = (stepped.3 rising, λ u. subst (λ (rows : Rows). IsPast new.version (finite.get (changed_by t d) u) (finite.get rows u)) (sym stepped.2) (subst (λ v. IsPast v (finite.get (changed_by t d) u) (finite.get mid.rows u)) (sym stepped.0) (past (is_moved d) refl u)))

-- ---- all tables

same_lives : (db new_db : Db) (cs new : List Chain) → length cs ≡ length db → length new_db ≡ length db → length new ≡ length db
    → ((t : ℕ) → live_of (table_at new_db t) (chain_at new t) ≡ live_of (table_at db t) (chain_at cs t)) → all_live new_db new ≡ all_live db cs
same_lives [] [] [] [] a b c f = refl
same_lives [] (y ∷ ys) cs new a b c f = absurd (omega (arith, b))
same_lives [] [] (x ∷ cs) new a b c f = absurd (omega (arith, a))
same_lives [] [] [] (n ∷ new) a b c f = absurd (omega (arith, c))
same_lives (x ∷ db) [] cs new a b c f = absurd (omega (arith, b))
same_lives (x ∷ db) (y ∷ ys) [] new a b c f = absurd (omega (arith, a))
same_lives (x ∷ db) (y ∷ ys) (k ∷ cs) [] a b c f = absurd (omega (arith, c))
same_lives (x ∷ db) (y ∷ ys) (k ∷ cs) (n ∷ new) a b c f = λ i. f 0 i ∷ same_lives db ys cs new (omega (arith, a)) (omega (arith, b)) (omega (arith, c)) (λ t. f (suc t)) i

next_versions : (cs new : List Chain) (ds : List Changes) → length new ≡ length cs → length ds ≡ length cs → ((t : ℕ) → (chain_at new t).version ≡ next (chain_at cs t).version (change_at ds t))
    → map (λ (c : Chain). c.version) new ≡ map (λ e. next e.0 e.1) (zip (map (λ (c : Chain). c.version) cs) ds)
next_versions [] [] [] a b f = refl
next_versions [] (n ∷ new) ds a b f = absurd (omega (arith, a))
next_versions [] [] (d ∷ ds) a b f = absurd (omega (arith, b))
next_versions (k ∷ cs) [] ds a b f = absurd (omega (arith, a))
next_versions (k ∷ cs) (n ∷ new) [] a b f = absurd (omega (arith, b))
next_versions (k ∷ cs) (n ∷ new) (d ∷ ds) a b f = λ i. f 0 i ∷ next_versions cs new ds (omega (arith, a)) (omega (arith, b)) (λ t. f (suc t)) i

-- while the change is made ready, all stands as before
module _ (db : Db) (old mid : List Chain) (h : AreChainsOf db old) (long : length mid ≡ length old) (stands : (t : ℕ) → StandsAsBefore (table_at db t) (chain_at old t) (chain_at mid t)) where
  still_rising : (t : ℕ) → AreRising (chain_at mid t).version (chain_at mid t).live
  still_rising t = subst (λ v. AreRising v (chain_at mid t).live) (sym (stands t).0) (subst (AreRising (chain_at old t).version) (sym (stands t).1) (h.1 t).0)

  pub ready_chains : AreChainsOf db mid
  ready_chains = (long ∙ h.0, λ t. (still_rising t, (stands t).4 (h.1 t).1))

  same_numbers : (cs new : List Chain) → length new ≡ length cs → ((t : ℕ) → (chain_at new t).version ≡ (chain_at cs t).version) → map (λ (c : Chain). c.version) new ≡ map (λ (c : Chain). c.version) cs
  same_numbers [] [] a f = refl
  same_numbers [] (n ∷ new) a f = absurd (omega (arith, a))
  same_numbers (k ∷ cs) [] a f = absurd (omega (arith, a))
  same_numbers (k ∷ cs) (n ∷ new) a f = λ i. f 0 i ∷ same_numbers cs new (omega (arith, a)) (λ t. f (suc t)) i

  pub ready_shown : shown db mid ≡ shown db old
  ready_shown =
      let lives : all_live db mid ≡ all_live db old =
      same_lives db db old mid h.0 refl (long ∙ h.0)
      (λ t. same_marks (table_at db t) (table_at db t) (chain_at old t) (chain_at mid t) (same_marked_versions (table_at db t) (chain_at old t) (chain_at mid t) (stands t)) (stands t).3) in
      λ i. record { db = db; versions = same_numbers old mid long (λ t. (stands t).0) i; live = lives i }

  -- once the change is made, all marks stand for what they did
  module _ (ds : List Changes) (new : List Chain) (as_many : length ds ≡ length db) (as_long : length new ≡ length mid) (ready : (t : ℕ) → IsReadyFor (change_at ds t) (chain_at mid t))
      (stepped : (t : ℕ) → IsStepped (moved_at (map is_moved ds) t) (chain_at mid t) (chain_at new t)) where
    step_at : (t : ℕ) → IsStepped (is_moved (change_at ds t)) (chain_at mid t) (chain_at new t)
    step_at t = subst (λ b. IsStepped b (chain_at mid t) (chain_at new t)) (moved_shown ds t) (stepped t)

    as_long_as_db : length new ≡ length db
    as_long_as_db = as_long ∙ long ∙ h.0

    pub absorbed_chains : AreChainsOf (all_changed_by db ds) new
    absorbed_chains = (
      as_long_as_db ∙ sym (length_changed db ds as_many),
      λ t. subst (λ (x : Table). IsKeptOf x (chain_at new t)) (sym (table_changed db ds t as_many)) (still_kept (table_at db t) (change_at ds t) (chain_at old t) (chain_at mid t) (chain_at new t) (h.1 t) (stands t) (ready t) (step_at t)),
    )

    pub absorbed_shown : shown (all_changed_by db ds) new ≡ absorbed ds (shown db old)
    absorbed_shown =
        let lives : all_live (all_changed_by db ds) new ≡ all_live db old =
        same_lives db (all_changed_by db ds) old new h.0 (length_changed db ds as_many) as_long_as_db
        (λ t. ap (λ (x : Table). live_of x (chain_at new t)) (table_changed db ds t as_many) ∙ same_live (table_at db t) (change_at ds t) (chain_at old t) (chain_at mid t) (chain_at new t) (h.1 t) (stands t) (ready t) (step_at t)) in
        let numbers = next_versions old new ds (as_long ∙ long) (as_many ∙ sym h.0) (λ t. next_version (table_at db t) (change_at ds t) (chain_at old t) (chain_at mid t) (chain_at new t) (h.1 t) (stands t) (ready t) (step_at t)) in
        λ i. record { db = all_changed_by db ds; versions = numbers i; live = lives i }
