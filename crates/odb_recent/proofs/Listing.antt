-- What is listed of a change.
use Rattle.std.proofs.Common.{◌≡◌, ℕ, zero, suc, ◌<◌, arith, Bool, true, false, cond, List, [], ◌∷◌, ◌++◌, drop, get_or, length, map, Option, Some, option_and_then, refl, sym, ap, ◌∙◌}
use Rattle.std.specs.FinMap.Entries.{find}
use Rattle.std.specs.Ordering.{eq_by_cmp}
use Rattle.odb_atoms.specs.FinMap as finite
use Rattle.odb_atoms.specs.Row.{Row}
use Rattle.odb_atoms.specs.Uuid.{Uuid, uuid_cmp}
use Rattle.odb_atoms.proofs.Atoms.{uuid_cmp_total, uuid_cmp-IsAntisymmetric}
use Rattle.odb_atoms.proofs.FinMaps.{get-map_entries, same_map}
use Rattle.odb_tables.proofs.KeyedMaps.{get-from_entries}
use Rattle.odb_tables.specs.Change.{Changes}
use Rattle.odb_recent.specs.Undo.{Undo, olds, undo_at, undo_from}

abbrev Sides : Type 0
Sides = Option Row × Option Row

abbrev pub old_of : Uuid × Sides → Uuid × Option Row
old_of e = (e.0, e.1.0)

find-old : (es : List (Uuid × Sides)) (q : Uuid) → find uuid_cmp q (map old_of es) ≡ option_and_then (λ (c : Sides). Some c.0) (find uuid_cmp q es)
find-old [] q = refl
find-old (e ∷ es) q = ap (cond (eq_by_cmp uuid_cmp q e.0) (Some e.1.0)) (find-old es q) ∙ by (eq_by_cmp uuid_cmp q e.0)
  where
    by : (b : Bool) → cond b (Some e.1.0) (option_and_then (λ (c : Sides). Some c.0) (find uuid_cmp q es)) ≡ option_and_then (λ (c : Sides). Some c.0) (cond b (Some e.1) (find uuid_cmp q es))
    by true = refl
    by false = refl

pub olds-listed : (es : List (Uuid × Sides)) (c : Changes) → finite.from_entries es ≡ c → finite.from_entries (map old_of es) ≡ olds c
olds-listed es c is =
    same_map uuid_cmp_total uuid_cmp-IsAntisymmetric _ _
    (λ q. get-from_entries (map old_of es) q ∙ find-old es q
    ∙ ap (option_and_then (λ (x : Sides). Some x.0)) (sym (get-from_entries es q) ∙ ap (λ (d : Changes). finite.get d q) is)
    ∙ sym (get-map_entries uuid_cmp_total uuid_cmp-IsAntisymmetric (λ u (x : Sides). Some x.0) c q))

-- ---- table by table

pub undo-more : (ts : Undo) (k : ℕ) (c : Changes) (cs : List Changes) → (ts ++ undo_at k c) ++ undo_from (suc k) cs ≡ ts ++ undo_from k (c ∷ cs)
undo-more [] k c cs = refl
undo-more (t ∷ ts) k c cs = ap (λ us. t ∷ us) (undo-more ts k c cs)

pub undo-next : (ts : Undo) (k j : ℕ) (c : Changes) (all : List Changes) → j ≡ suc k → k < length all → c ≡ get_or all k c → (ts ++ undo_at k c) ++ undo_from j (drop j all) ≡ ts ++ undo_from k (drop k all)
undo-next ts k j c all is low at =
    (λ i. (ts ++ undo_at k c) ++ undo_from (is i) (drop (is i) all)) ∙ undo-more ts k c (drop (suc k) all)
    ∙ ap (λ (ds : List Changes). ts ++ undo_from k ds) (front all k low at)
  where
    front : (xs : List Changes) (n : ℕ) → n < length xs → c ≡ get_or xs n c → c ∷ drop (suc n) xs ≡ drop n xs
    front [] n low at = absurd (omega (arith, low))
    front (x ∷ xs) zero low at = ap (λ (d : Changes). d ∷ xs) at
    front (x ∷ xs) (suc n) low at = front xs n (omega (arith, low)) at
