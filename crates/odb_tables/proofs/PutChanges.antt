-- A change that is put over tables row by row and table by table.
use Rattle.std.proofs.Common.{◌≡◌, ℕ, zero, suc, ◌+◌, ◌<◌, ◌≤◌, add-one, arith, Bool, true, false, cond, List, [], ◌∷◌, drop, drop-cons, get_or, length, slice_set, Option, Some, None, refl, sym, ap, ◌∙◌}
use Rattle.std.proofs.lemmas.List.{drop_all}
use Rattle.std.proofs.lemmas.Map.Keys.{IsDistinct-head, IsDistinct-tail}
use Rattle.std.specs.FinMap.Entries.{find}
use Rattle.std.specs.List.{IsDistinct}
use Rattle.std.specs.Map.{keys_of}
use Rattle.std.specs.Ordering.{eq_by_cmp}
use Rattle.odb_atoms.specs.FinMap as finite
use Rattle.odb_atoms.specs.Row.{Row}
use Rattle.odb_atoms.specs.Uuid.{Uuid, uuid_cmp}
use Rattle.odb_atoms.proofs.Atoms.{uuid_cmp-IsAntisymmetric}
use Rattle.odb_atoms.proofs.FinMaps.{get-combine, get-insert, same_key, same_map}
use Rattle.odb_tables.specs.Change.{Changes, after, all_changed_by, changed_by}
use Rattle.odb_tables.specs.Database.{Db, Table}
use Rattle.odb_tables.specs.Represented.Draft.{all_overlaid, laid, overlaid}
use Rattle.odb_tables.specs.Represented.Key.{uuid_cmp_total}
use Rattle.odb_tables.specs.Represented.Overlay.{Touched}
use Rattle.odb_tables.proofs.Installs.{Entry, Sides}
use Rattle.odb_tables.proofs.KeyedMaps.{get-from_entries, none_behind}
use Rattle.odb_tables.proofs.Overlays.{get-overlaid}

-- ---- the rows of a table

-- each row is touched after the other, and is then as the change leaves it
abbrev pub touched_by : Touched → List Entry → Touched
touched_by o [] = o
touched_by o (e ∷ es) = touched_by (finite.insert o e.0 e.1.1) es

-- one row more
pub touched-step : (o : Touched) (es : List Entry) (i : ℕ) (e : Entry) → i < length es → e ≡ get_or es i e → touched_by (finite.insert o e.0 e.1.1) (drop (i + 1) es) ≡ touched_by o (drop i es)
touched-step o es i e low at =
    let front : drop i es ≡ e ∷ drop (i + 1) es = drop-cons es i e low ∙ (λ j. sym at j ∷ drop (sym (add-one i) j) es) in
    ap (touched_by o) (sym front)

-- what stands over a row after its change
abbrev now_over : Option (Option Row) → Option Sides → Option (Option Row)
now_over w None = w
now_over w (Some d) = Some d.1

-- what stands over each row once all are touched
get-touched_by : (o : Touched) (es : List Entry) (q : Uuid) → IsDistinct (eq_by_cmp uuid_cmp) (keys_of es) → finite.get (touched_by o es) q ≡ now_over (finite.get o q) (find uuid_cmp q es)
get-touched_by o [] q h = refl
get-touched_by o (e ∷ es) q h =
    get-touched_by (finite.insert o e.0 e.1.1) es q (IsDistinct-tail (eq_by_cmp uuid_cmp) e.0 (keys_of es) h)
    ∙ ap (λ w. now_over w (find uuid_cmp q es)) (get-insert uuid_cmp_total o e.0 e.1.1 q) ∙ by (eq_by_cmp uuid_cmp q e.0) refl
  where
    by : (b : Bool) → eq_by_cmp uuid_cmp q e.0 ≡ b → now_over (cond b (Some e.1.1) (finite.get o q)) (find uuid_cmp q es) ≡ now_over (finite.get o q) (cond b (Some e.1) (find uuid_cmp q es))
    by true is =
        let here : q ≡ e.0 = same_key uuid_cmp-IsAntisymmetric q e.0 is in
        let absent : find uuid_cmp q es ≡ None = ap (λ u. find uuid_cmp u es) here ∙ none_behind e.0 es (IsDistinct-head (eq_by_cmp uuid_cmp) e.0 (keys_of es) h) in
        ap (now_over (Some e.1.1)) absent
    by false is = refl

-- the row under it is then as the change leaves it
laid-after : (r : Option Row) (w : Option (Option Row)) (d : Option Sides) → laid r (now_over w d) ≡ after (laid r w) d
laid-after r w None = refl
laid-after r w (Some d) = refl

-- the table under them is then changed
pub touched-is : (t : Table) (o : Touched) (es : List Entry) → IsDistinct (eq_by_cmp uuid_cmp) (keys_of es) → overlaid t (touched_by o es) ≡ changed_by (overlaid t o) (finite.from_entries es)
touched-is t o es h =
    same_map uuid_cmp_total uuid_cmp-IsAntisymmetric (overlaid t (touched_by o es)) (changed_by (overlaid t o) (finite.from_entries es))
    (λ q. get-overlaid t (touched_by o es) q ∙ ap (laid (finite.get t q)) (get-touched_by o es q h) ∙ laid-after (finite.get t q) (finite.get o q) (find uuid_cmp q es)
    ∙ (λ i. after (sym (get-overlaid t o q) i) (sym (get-from_entries es q) i))
    ∙ sym (get-combine uuid_cmp_total uuid_cmp-IsAntisymmetric after refl (overlaid t o) (finite.from_entries es) q))

-- ---- the tables

-- the changes are of the tables from a place on
abbrev pub changed_from : ℕ → Db → List Changes → Db
changed_from zero ts cs = all_changed_by ts cs
changed_from (suc k) [] cs = []
changed_from (suc k) (t ∷ ts) cs = t ∷ changed_from k ts cs

-- the table at the place has its change
step : (db : Db) (os : List Touched) (k : ℕ) (o new : Touched) (c : Changes) (cs : List Changes) → length os ≡ length db → k < length os → o ≡ get_or os k o → ((t : Table) → overlaid t new ≡ changed_by (overlaid t o) c)
    → changed_from (suc k) (all_overlaid db (slice_set os k new)) cs ≡ changed_from k (all_overlaid db os) (c ∷ cs)
step db [] k o new c cs e low at made = absurd (omega (arith, low))
step [] (x ∷ os) k o new c cs e low at made = absurd (omega (arith, e))
step (t ∷ db) (x ∷ os) zero o new c cs e low at made = ap (λ y. y ∷ all_changed_by (all_overlaid db os) cs) (made t ∙ ap (λ y. changed_by (overlaid t y) c) at)
step (t ∷ db) (x ∷ os) (suc k) o new c cs e low at made = ap (λ ys. overlaid t x ∷ ys) (step db os k o new c cs (omega (arith, e)) (omega (arith, low)) at made)

-- the next place, with the changes that are left
pub from-next : (db : Db) (os : List Touched) (k : ℕ) (o new : Touched) (c : Changes) (cs : List Changes) → length os ≡ length db → k < length os → k < length cs → o ≡ get_or os k o → c ≡ get_or cs k c → ((t : Table) → overlaid t new ≡ changed_by (overlaid t o) c)
    → changed_from (k + 1) (all_overlaid db (slice_set os k new)) (drop (k + 1) cs) ≡ changed_from k (all_overlaid db os) (drop k cs)
from-next db os k o new c cs e low below at change made =
    (λ j. changed_from (add-one k j) (all_overlaid db (slice_set os k new)) (drop (add-one k j) cs)) ∙ step db os k o new c (drop (suc k) cs) e low at made
    ∙ ap (changed_from k (all_overlaid db os)) (sym (drop-cons cs k c below ∙ ap (λ x. x ∷ drop (suc k) cs) (sym change)))

-- no change is left
end : (k : ℕ) (ts : Db) → length ts ≤ k → changed_from k ts [] ≡ ts
end zero [] past = refl
end zero (t ∷ ts) past = absurd (omega (arith, past))
end (suc k) [] past = refl
end (suc k) (t ∷ ts) past = ap (λ us. t ∷ us) (end k ts (omega (arith, past)))

pub from-end : (k : ℕ) (ts : Db) (cs : List Changes) → length ts ≤ k → length cs ≤ k → changed_from k ts (drop k cs) ≡ ts
from-end k ts cs past none = ap (changed_from k ts) (drop_all k cs none) ∙ end k ts past
