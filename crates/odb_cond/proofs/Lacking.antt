-- Members that a filter has, and what two filters tell apart by those that one alone has.
use Rattle.std.specs.Prelude.{◌≡◌, ℕ, suc, zero, ◌+◌, ◌<◌, Bool, true, false, ◌||◌, ◌==◌, List, [], ◌∷◌, ◌++◌, length, get_or, map, take}
use Rattle.std.specs.List.{list_any}
use Rattle.std.proofs.Common.{arith}
use Rattle.std.proofs.lemmas.List.{take_more}
use mathlib.Core.Bool.{true≢false}
use mathlib.Core.Path.{refl, sym, ap, ◌∙◌}
use Rattle.std.specs.Cmp.{both_ways}
use Rattle.odb_atoms.specs.Atom.{Atom, same_atom}
use Rattle.odb_atoms.specs.Represented.Atom.{atom_of}
use Rattle.odb_atoms.specs.declared.atom.Atom as code
use Rattle.odb_atoms.specs.Row.{Row}
use Rattle.odb_atoms.specs.Uuid.{Uuid}
use Rattle.odb_atoms.specs.Value.{Value}
use Rattle.odb_atoms.proofs.Atoms.{atom_cmp-IsAntisymmetric}
use Rattle.odb_atoms.proofs.FinMaps.{same_key}
use Rattle.odb_atoms.proofs.Lists.{any-map, or_right}
use Rattle.odb_cond.specs.Filter.{Filter, TellsApart, member_holds, selects}
use Rattle.odb_cond.specs.Represented.Filter.{member_of}
use Rattle.odb_cond.specs.Represented.Keyed.{asks, asks_some, is_among}
use Rattle.odb_cond.specs.Represented.Prepared.{GainsLacking, IsFound, holds_at, some_holds}
use Rattle.odb_cond.specs.declared.filter.Member.{Member}

-- where the condition with an atom holds that is among them, one of theirs does
pub asked_among : (is_equality : Bool) (v : Value) (atoms : List (code.Atom)) (a : Atom) → is_among atoms a ≡ true → asks is_equality v a ≡ true → asks_some is_equality atoms v ≡ true
asked_among is_equality v [] a among h = absurd (true≢false (sym among))
asked_among is_equality v (b ∷ bs) a among h = by (same_atom a (atom_of b)) refl among (asked_among is_equality v bs a)
  where
    by : (t : Bool) → same_atom a (atom_of b) ≡ t → (t || is_among bs a) ≡ true → (is_among bs a ≡ true → asks is_equality v a ≡ true → asks_some is_equality bs v ≡ true) → asks_some is_equality (b ∷ bs) v ≡ true
    by true is inside rest = ap (λ t. t || asks_some is_equality bs v) (ap (asks is_equality v) (sym (same_key atom_cmp-IsAntisymmetric a (atom_of b) is)) ∙ h)
    by false is inside rest = or_right (asks is_equality v (atom_of b)) (asks_some is_equality bs v) (rest inside h)

pub any_at : {X : Type 0} (p : X → Bool) (xs : List X) (k : ℕ) (x : X) → k < length xs → x ≡ get_or xs k x → p x ≡ true → list_any p xs ≡ true
any_at p [] k x low at h = absurd (omega arith)
any_at p (y ∷ ys) zero x low at h = ap (λ b. b || list_any p ys) (ap p (sym at) ∙ h)
any_at p (y ∷ ys) (suc k) x low at h = or_right (p y) (list_any p ys) (any_at p ys k x (omega arith) at h)

-- where the member at a place holds, some member does
pub held_at : (ms : List Member) (k : ℕ) (u : Uuid) (r : Row) → holds_at u r ms k ≡ true → some_holds u r ms ≡ true
held_at [] k u r h = absurd (true≢false (sym h))
held_at (m ∷ ms) zero u r h = ap (λ b. b || some_holds u r ms) h
held_at (m ∷ ms) (suc k) u r h = or_right (member_holds u r (member_of m)) (some_holds u r ms) (held_at ms k u r h)

-- ---- members that one filter lacks

false_each : (a b : Bool) → (a || b) ≡ false → (a ≡ false) × (b ≡ false)
false_each true b e = absurd (true≢false e)
false_each false b e = (refl, e)

any-++ : {X : Type 0} (p : X → Bool) (xs ys : List X) → list_any p (xs ++ ys) ≡ (list_any p xs || list_any p ys)
any-++ p [] ys = refl
any-++ p (x ∷ xs) ys = by (p x) (any-++ p xs ys)
  where
    by : (b : Bool) → list_any p (xs ++ ys) ≡ (list_any p xs || list_any p ys) → (b || list_any p (xs ++ ys)) ≡ ((b || list_any p xs) || list_any p ys)
    by true rest = refl
    by false rest = rest

or_false : (b : Bool) → (b || false) ≡ b
or_false true = refl
or_false false = refl

either : (a b : Bool) {P : Type 0} → (a || b) ≡ true → (a ≡ true → P) → (b ≡ true → P) → P
either true b e f g = f refl
either false b e f g = g e

-- as far as a loop went: the list of what was lacking, and what the first members have
abbrev pub GainsFront : List Member → Filter → List Member → List Member → Type 0
GainsFront front second old new = (u : Uuid) (r : Row) → some_holds u r new ≡ false → (some_holds u r old ≡ false) × (some_holds u r front ≡ true → list_any (member_holds u r) second ≡ true)

front_more : (ms : List Member) (k : ℕ) (m : Member) (u : Uuid) (r : Row) → k < length ms → m ≡ get_or ms k m → some_holds u r (take (k + 1) ms) ≡ (some_holds u r (take k ms) || member_holds u r (member_of m))
front_more ms k m u r low at =
    ap (some_holds u r) (take_more ms k m low ∙ ap (λ x. take k ms ++ x ∷ []) (sym at)) ∙ any-++ (λ x. member_holds u r (member_of x)) (take k ms) (m ∷ []) ∙ ap (λ b. some_holds u r (take k ms) || b) (or_false (member_holds u r (member_of m)))

-- one that the second has
pub front_had : (ms : List Member) (second : Filter) (old new : List Member) (k : ℕ) (m : Member) → k < length ms → m ≡ get_or ms k m → IsFound m (λ u r. list_any (member_holds u r) second) → GainsFront (take k ms) second old new → GainsFront (take (k + 1) ms) second old new
front_had ms second old new k m low at found h = λ u r none.
    ((h u r none).0, λ some. either (some_holds u r (take k ms)) (member_holds u r (member_of m)) (sym (front_more ms k m u r low at) ∙ some) (h u r none).1 (found u r))

-- one that is appended
pub front_lacked : (ms : List Member) (second : Filter) (old new : List Member) (k : ℕ) (m copy : Member) (more : List Member) → k < length ms → m ≡ get_or ms k m → member_of copy ≡ member_of m → more ≡ new ++ copy ∷ [] → GainsFront (take k ms) second old new → GainsFront (take (k + 1) ms) second old more
front_lacked ms second old new k m copy more low at same grown h = λ u r none.
    let each = false_each (some_holds u r new) (member_holds u r (member_of m)) (sym (ap (some_holds u r) grown ∙ any-++ (λ x. member_holds u r (member_of x)) new (copy ∷ []) ∙ ap (λ b. some_holds u r new || b) (or_false (member_holds u r (member_of copy)) ∙ ap (member_holds u r) same)) ∙ none) in
    let past = h u r each.0 in
    (past.0, λ some. either (some_holds u r (take k ms)) (member_holds u r (member_of m)) (sym (front_more ms k m u r low at) ∙ some) past.1 (λ holds. absurd (true≢false (sym holds ∙ each.1))))

-- ---- what two filters tell apart

selected_by_some : (u : Uuid) (r : Row) (f : Filter) → (length f == 0) ≡ false → selects f u r ≡ list_any (member_holds u r) f
selected_by_some u r [] e = absurd (true≢false e)
selected_by_some u r (m ∷ ms) e = refl

none_selected : (u : Uuid) (r : Row) (ms : List Member) → selects (map member_of ms) u r ≡ false → some_holds u r ms ≡ false
none_selected u r [] e = absurd (true≢false e)
none_selected u r (m ∷ ms) e = sym (any-map (member_holds u r) member_of (m ∷ ms)) ∙ e

-- a filter without members selects each row
pub all_apart : (f g d : Filter) → d ≡ [] → TellsApart d f g
all_apart f g d is = λ u r none. absurd (true≢false (sym (ap (λ x. selects x u r) is) ∙ none))

-- the members that one of two filters lacks
pub lacking_apart : (f g d : Filter) (ms once twice : List Member) → ((length f == 0) || (length g == 0)) ≡ false → GainsLacking f g ms once → GainsLacking g f once twice → d ≡ map member_of twice → TellsApart d f g
lacking_apart f g d ms once twice some first second is = λ u r none.
    let each = false_each (length f == 0) (length g == 0) some in
    let two = second u r (none_selected u r twice (ap (λ x. selects x u r) (sym is) ∙ none)) in
    let one = first u r two.0 in
    selected_by_some u r f each.0
    ∙ both_ways (list_any (member_holds u r) f) (list_any (member_holds u r) g) one.1 two.1
    ∙ sym (selected_by_some u r g each.1)
