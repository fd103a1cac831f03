-- A change that is made row by row and table by table: the rows that are new first, and then the others.
use Rattle.std.proofs.Common.{◌≡◌, ℕ, zero, suc, ◌+◌, ◌<◌, arith, add-one, Bool, true, false, cond, List, [], ◌∷◌, length, get_or, drop, drop-cons, slice_set, Option, Some, None, is_some, option_map, refl, sym, ap, ◌∙◌}
use mathlib.Core.Bool.{true≢false}
use Rattle.std.proofs.lemmas.Map.Keys.{IsDistinct-head, IsDistinct-tail}
use Rattle.std.specs.FinMap.Entries.{find}
use Rattle.std.specs.List.{AllByRecursion, IsDistinct}
use Rattle.std.specs.Map.{keys_of}
use Rattle.std.specs.Ordering.{eq_by_cmp}
use Rattle.odb_atoms.specs.FinMap as finite
use Rattle.odb_atoms.specs.Row.{Row}
use Rattle.odb_atoms.specs.Uuid.{Uuid, uuid_cmp}
use Rattle.odb_atoms.proofs.Atoms.{uuid_cmp-IsAntisymmetric}
use Rattle.odb_atoms.proofs.FinMaps.{get-combine, get-insert, same_key, same_map}
use Rattle.odb_tables.specs.Change.{Changes, after, all_changed_by, before, changed_by}
use Rattle.odb_tables.specs.Database.{Db, Table}
use Rattle.odb_tables.specs.Installing.{IsChangeOf}
use Rattle.odb_tables.specs.Represented.Installed.{each_row, each_table, new_row, one_row, put_in, replaced, taken_back, where_changed, with_row_at}
use Rattle.std.specs.declared.sync.Arc.{Arc}
use Rattle.odb_tables.specs.Represented.Overlay.{row_of}
use Rattle.odb_tables.specs.Represented.Key.{keys_equivalent, uuid_cmp_total}
use Rattle.odb_tables.proofs.KeyedMaps.{get-from_entries, get-remove, none_behind}

abbrev pub Sides : Type 0
Sides = Option Row × Option Row

abbrev pub Entry : Type 0
Entry = Uuid × Sides

same : (m n : Table) → ((q : Uuid) → finite.get m q ≡ finite.get n q) → m ≡ n
same m n h = same_map uuid_cmp_total uuid_cmp-IsAntisymmetric m n h

-- ---- one row

get-with_row_at : (t : Table) (u : Uuid) (o : Option Row) (q : Uuid) → finite.get (with_row_at t u o) q ≡ cond (eq_by_cmp uuid_cmp q u) o (finite.get t q)
get-with_row_at t u None q = get-remove t u q
get-with_row_at t u (Some r) q = get-insert uuid_cmp_total t u r q

pub as_it_is : (t : Table) (u : Uuid) → t ≡ with_row_at t u (finite.get t u)
as_it_is t u = sym (same (with_row_at t u (finite.get t u)) t (λ q. get-with_row_at t u (finite.get t u) q ∙ by q (eq_by_cmp uuid_cmp q u) refl))
  where
    by : (q : Uuid) (b : Bool) → eq_by_cmp uuid_cmp q u ≡ b → cond b (finite.get t u) (finite.get t q) ≡ finite.get t q
    by q true is = ap (finite.get t) (sym (same_key uuid_cmp-IsAntisymmetric q u is))
    by q false is = refl

put-old : (r : Option Row) (d : Sides) → is_some (new_row d) ≡ false → r ≡ put_in r d
put-old r (None, None) e = refl
put-old r (None, Some q) e = absurd (true≢false e)
put-old r (Some p, q) e = refl

taken-old : (r : Option Row) (d : Sides) → is_some (new_row d) ≡ false → r ≡ taken_back r d
taken-old r (None, None) e = refl
taken-old r (None, Some q) e = absurd (true≢false e)
taken-old r (Some p, q) e = refl

pub not-put : (t : Table) (e : Entry) → is_some (new_row e.1) ≡ false → t ≡ one_row put_in t e
not-put t e old = as_it_is t e.0 ∙ ap (with_row_at t e.0) (put-old (finite.get t e.0) e.1 old)

pub not-taken : (t : Table) (e : Entry) → is_some (new_row e.1) ≡ false → t ≡ one_row taken_back t e
not-taken t e old = as_it_is t e.0 ∙ ap (with_row_at t e.0) (taken-old (finite.get t e.0) e.1 old)

pub not-settled : {Z : Type 0} (t : Table) (u : Uuid) (old : Option (Arc Row Z)) (new : Option Row) → is_some old ≡ false → t ≡ one_row replaced t (u, (row_of old, new))
not-settled t u None new e = as_it_is t u
not-settled t u (Some p) new e = absurd (true≢false e)

pub settled-removed : {Z : Type 0} (t : Table) (u : Uuid) (old : Option (Arc Row Z)) → is_some old ≡ true → finite.remove t u ≡ one_row replaced t (u, (row_of old, None))
settled-removed t u None e = absurd (true≢false (sym e))
settled-removed t u (Some p) e = refl

pub settled-replaced : {Z : Type 0} (t : Table) (u : Uuid) (old : Option (Arc Row Z)) (q : Row) → is_some old ≡ true → with_row_at t u (option_map (λ _. q) (finite.get t u)) ≡ one_row replaced t (u, (row_of old, Some q))
settled-replaced t u None q e = absurd (true≢false (sym e))
settled-replaced t u (Some p) q e = refl

-- ---- the rows one after the other

module _ (f : Option Row → Sides → Option Row) where
  abbrev pub walk : Table → List Entry → Table
  walk t [] = t
  walk t (e ∷ es) = walk (one_row f t e) es

  pub walk-step : (t : Table) (es : List Entry) (i : ℕ) (e : Entry) → i < length es → e ≡ get_or es i e → walk (one_row f t e) (drop (i + 1) es) ≡ walk t (drop i es)
  walk-step t es i e low at =
      let front : drop i es ≡ e ∷ drop (i + 1) es = drop-cons es i e low ∙ (λ j. sym at j ∷ drop (sym (add-one i) j) es) in
      ap (walk t) (sym front)

  get-one_row : (t : Table) (e : Entry) (q : Uuid) → finite.get (one_row f t e) q ≡ cond (eq_by_cmp uuid_cmp q e.0) (f (finite.get t e.0) e.1) (finite.get t q)
  get-one_row t e q = get-with_row_at t e.0 (f (finite.get t e.0) e.1) q

  get-walk : (t : Table) (es : List Entry) (q : Uuid) → IsDistinct (eq_by_cmp uuid_cmp) (keys_of es) → finite.get (walk t es) q ≡ where_changed f (finite.get t q) (find uuid_cmp q es)
  get-walk t [] q h = refl
  get-walk t (e ∷ es) q h =
      get-walk (one_row f t e) es q (IsDistinct-tail (eq_by_cmp uuid_cmp) e.0 (keys_of es) h)
      ∙ ap (λ r. where_changed f r (find uuid_cmp q es)) (get-one_row t e q) ∙ by (eq_by_cmp uuid_cmp q e.0) refl
    where
      by : (b : Bool) → eq_by_cmp uuid_cmp q e.0 ≡ b → where_changed f (cond b (f (finite.get t e.0) e.1) (finite.get t q)) (find uuid_cmp q es) ≡ where_changed f (finite.get t q) (cond b (Some e.1) (find uuid_cmp q es))
      by true is =
          let here : q ≡ e.0 = same_key uuid_cmp-IsAntisymmetric q e.0 is in
          let absent : find uuid_cmp q es ≡ None = ap (λ u. find uuid_cmp u es) here ∙ none_behind e.0 es (IsDistinct-head (eq_by_cmp uuid_cmp) e.0 (keys_of es) h) in
          ap (where_changed f (f (finite.get t e.0) e.1)) absent ∙ ap (λ u. f (finite.get t u) e.1) (sym here)
      by false is = refl

  pub get-each_row : (t : Table) (c : Changes) (q : Uuid) → finite.get (each_row f t c) q ≡ where_changed f (finite.get t q) (finite.get c q)
  get-each_row t c q = get-combine uuid_cmp_total uuid_cmp-IsAntisymmetric (where_changed f) refl t c q

  pub walk-is : (t : Table) (es : List Entry) → IsDistinct (eq_by_cmp uuid_cmp) (keys_of es) → walk t es ≡ each_row f t (finite.from_entries es)
  walk-is t es h = same (walk t es) (each_row f t (finite.from_entries es)) (λ q. get-walk t es q h ∙ ap (where_changed f (finite.get t q)) (sym (get-from_entries es q)) ∙ sym (get-each_row t (finite.from_entries es) q))

-- what stands at a place is found under its identifier
apart : (q : Uuid) (es : List Entry) (i : ℕ) (e : Entry) → AllByRecursion (λ y. eq_by_cmp uuid_cmp q y ≡ false) (keys_of es) → i < length es → e ≡ get_or es i e → eq_by_cmp uuid_cmp e.0 q ≡ false
apart q [] i e h low at = absurd (omega (arith, low))
apart q (x ∷ es) zero e h low at = ap (λ (y : Entry). eq_by_cmp uuid_cmp y.0 q) at ∙ keys_equivalent.symm x.0 q ∙ h.0
apart q (x ∷ es) (suc i) e h low at = apart q es i e h.1 (omega (arith, low)) at

find-here : (es : List Entry) (i : ℕ) (e : Entry) → IsDistinct (eq_by_cmp uuid_cmp) (keys_of es) → i < length es → e ≡ get_or es i e → find uuid_cmp e.0 es ≡ Some e.1
find-here [] i e h low at = absurd (omega (arith, low))
find-here (x ∷ es) zero e h low at = (λ j. cond (eq_by_cmp uuid_cmp e.0 (sym at j).0) (Some (sym at j).1) (find uuid_cmp e.0 es)) ∙ ap (λ b. cond b (Some e.1) (find uuid_cmp e.0 es)) (keys_equivalent.refl e.0)
find-here (x ∷ es) (suc i) e h low at =
    ap (λ b. cond b (Some x.1) (find uuid_cmp e.0 es)) (apart x.0 es i e (IsDistinct-head (eq_by_cmp uuid_cmp) x.0 (keys_of es) h) (omega (arith, low)) at)
    ∙ find-here es i e (IsDistinct-tail (eq_by_cmp uuid_cmp) x.0 (keys_of es) h) (omega (arith, low)) at

pub get-here : (es : List Entry) (c : Changes) (i : ℕ) (e : Entry) → IsDistinct (eq_by_cmp uuid_cmp) (keys_of es) → finite.from_entries es ≡ c → i < length es → e ≡ get_or es i e → finite.get c e.0 ≡ Some e.1
get-here es c i e h is low at = ap (λ m. finite.get m e.0) (sym is) ∙ get-from_entries es e.0 ∙ find-here es i e h low at

-- a row that is put in is taken back
undone : (r : Option Row) (d : Sides) → taken_back (put_in r d) d ≡ taken_back r d
undone r (None, None) = refl
undone r (None, Some q) = refl
undone r (Some p, q) = refl

pub only-new : (t : Table) (c : Changes) (e : Entry) → finite.get c e.0 ≡ Some e.1 → each_row taken_back (one_row put_in t e) c ≡ each_row taken_back t c
only-new t c e there =
    same (each_row taken_back (one_row put_in t e) c) (each_row taken_back t c)
    (λ q. get-each_row taken_back (one_row put_in t e) c q ∙ ap (λ r. where_changed taken_back r (finite.get c q)) (get-one_row put_in t e q) ∙ by q (eq_by_cmp uuid_cmp q e.0) refl ∙ sym (get-each_row taken_back t c q))
  where
    by : (q : Uuid) (b : Bool) → eq_by_cmp uuid_cmp q e.0 ≡ b → where_changed taken_back (cond b (put_in (finite.get t e.0) e.1) (finite.get t q)) (finite.get c q) ≡ where_changed taken_back (finite.get t q) (finite.get c q)
    by q true is =
        let here : q ≡ e.0 = same_key uuid_cmp-IsAntisymmetric q e.0 is in
        let change : finite.get c q ≡ Some e.1 = ap (finite.get c) here ∙ there in
        ap (where_changed taken_back (put_in (finite.get t e.0) e.1)) change ∙ undone (finite.get t e.0) e.1 ∙ (λ i. where_changed taken_back (finite.get t (sym here i)) (sym change i))
    by q false is = refl

-- ---- the tables one after the other

module _ (f : Option Row → Sides → Option Row) where
  -- the changes are of the tables from a place on
  abbrev pub each_at : ℕ → Db → List Changes → Db
  each_at zero ts cs = each_table f ts cs
  each_at (suc k) [] cs = []
  each_at (suc k) (t ∷ ts) cs = t ∷ each_at k ts cs

  pub at-step : (k : ℕ) (ts : Db) (t : Table) (c : Changes) (cs : List Changes) → k < length ts → t ≡ get_or ts k t → each_at (suc k) (slice_set ts k (each_row f t c)) cs ≡ each_at k ts (c ∷ cs)
  at-step k [] t c cs low at = absurd (omega (arith, low))
  at-step zero (x ∷ ts) t c cs low at = ap (λ y. each_row f y c ∷ each_table f ts cs) at
  at-step (suc k) (x ∷ ts) t c cs low at = ap (λ ys. x ∷ ys) (at-step k ts t c cs (omega (arith, low)) at)

  pub at-end : (k : ℕ) (ts : Db) → each_at k ts [] ≡ ts
  at-end zero [] = refl
  at-end zero (t ∷ ts) = refl
  at-end (suc k) [] = refl
  at-end (suc k) (t ∷ ts) = ap (λ ys. t ∷ ys) (at-end k ts)

  -- the next place, with the changes that are left
  pub at-next : (k : ℕ) (ts : Db) (t : Table) (c : Changes) (cs : List Changes) → k < length ts → k < length cs → t ≡ get_or ts k t → c ≡ get_or cs k c → each_at (k + 1) (slice_set ts k (each_row f t c)) (drop (k + 1) cs) ≡ each_at k ts (drop k cs)
  at-next k ts t c cs low below table change =
      (λ j. each_at (add-one k j) (slice_set ts k (each_row f t c)) (drop (add-one k j) cs)) ∙ at-step k ts t c (drop (suc k) cs) low table
      ∙ ap (each_at k ts) (sym (drop-cons cs k c below ∙ ap (λ x. x ∷ drop (suc k) cs) (sym change)))

  pub unmoved : (k : ℕ) (ts : Db) (cs : List Changes) (t new : Table) (c : Changes) → k < length ts → k < length cs → t ≡ get_or ts k t → c ≡ get_or cs k c → each_row f new c ≡ each_row f t c → each_table f (slice_set ts k new) cs ≡ each_table f ts cs
  unmoved k [] cs t new c low below table change is = absurd (omega (arith, low))
  unmoved k (x ∷ ts) [] t new c low below table change is = absurd (omega (arith, below))
  unmoved zero (x ∷ ts) (y ∷ cs) t new c low below table change is = ap (λ z. z ∷ each_table f ts cs) (ap (each_row f new) (sym change) ∙ is ∙ (λ j. each_row f (table j) (change j)))
  unmoved (suc k) (x ∷ ts) (y ∷ cs) t new c low below table change is = ap (λ zs. each_row f x y ∷ zs) (unmoved k ts cs t new c (omega (arith, low)) (omega (arith, below)) table change is)

-- ---- both parts are the change

made : (r : Option Row) (d : Option Sides) → before r d ≡ r → where_changed replaced (where_changed put_in r d) d ≡ after r d
made r None h = refl
made r (Some (None, None)) h = sym h
made r (Some (None, Some q)) h = refl
made r (Some (Some p, None)) h = refl
made r (Some (Some p, Some q)) h = ap (option_map (λ _. q)) (sym h)

unmade : (r : Option Row) (d : Option Sides) → before r d ≡ r → where_changed taken_back r d ≡ r
unmade r None h = refl
unmade r (Some (None, None)) h = refl
unmade r (Some (None, Some q)) h = h
unmade r (Some (Some p, q)) h = refl

module _ (t : Table) (c : Changes) (of : (u : Uuid) → before (finite.get t u) (finite.get c u) ≡ finite.get t u) where
  table-made : each_row replaced (each_row put_in t c) c ≡ changed_by t c
  table-made =
      same (each_row replaced (each_row put_in t c) c) (changed_by t c)
      (λ q. get-each_row replaced (each_row put_in t c) c q ∙ ap (λ r. where_changed replaced r (finite.get c q)) (get-each_row put_in t c q) ∙ made (finite.get t q) (finite.get c q) (of q)
      ∙ sym (get-combine uuid_cmp_total uuid_cmp-IsAntisymmetric after refl t c q))

  table-unmade : each_row taken_back t c ≡ t
  table-unmade = same (each_row taken_back t c) t (λ q. get-each_row taken_back t c q ∙ unmade (finite.get t q) (finite.get c q) (of q))

tail_of : (t : Table) (ts : Db) (c : Changes) (cs : List Changes) → IsChangeOf (t ∷ ts) (c ∷ cs) → IsChangeOf ts cs
tail_of t ts c cs h = (omega (arith, h.0), λ k. h.1 (suc k))

pub all-made : (db : Db) (cs : List Changes) → IsChangeOf db cs → each_table replaced (each_table put_in db cs) cs ≡ all_changed_by db cs
all-made [] cs h = refl
all-made (t ∷ ts) [] h = absurd (omega (arith, h.0))
all-made (t ∷ ts) (c ∷ cs) h = λ i. table-made t c (h.1 0 c refl) i ∷ all-made ts cs (tail_of t ts c cs h) i

pub all-unmade : (db : Db) (cs : List Changes) → IsChangeOf db cs → each_table taken_back db cs ≡ db
all-unmade [] cs h = refl
all-unmade (t ∷ ts) [] h = absurd (omega (arith, h.0))
all-unmade (t ∷ ts) (c ∷ cs) h = λ i. table-unmade t c (h.1 0 c refl) i ∷ all-unmade ts cs (tail_of t ts c cs h) i

pub length-each_table : (f : Option Row → Sides → Option Row) (db : Db) (cs : List Changes) → length (each_table f db cs) ≡ length db
length-each_table f [] cs = refl
length-each_table f (t ∷ ts) [] = refl
length-each_table f (t ∷ ts) (c ∷ cs) = ap suc (length-each_table f ts cs)

pub length-changed : (db : Db) (cs : List Changes) → IsChangeOf db cs → length (all_changed_by db cs) ≡ length db
length-changed [] cs h = refl
length-changed (t ∷ ts) [] h = absurd (omega (arith, h.0))
length-changed (t ∷ ts) (c ∷ cs) h = ap suc (length-changed ts cs (tail_of t ts c cs h))
