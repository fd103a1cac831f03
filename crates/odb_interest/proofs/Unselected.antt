-- A filter that a change doesn't concern selects none of the rows that change, as they were or as they are.
use Rattle.std.specs.Prelude.{◌≡◌, ◌⊎◌, Bool, true, false, cond, ◌||◌, nat_lt, List, [], ◌∷◌, length, is_some, Option, Some, None, option_and_then}
use mathlib.Core.Bool.{true≢false}
use mathlib.Core.Logic.{inl, inr}
use mathlib.Core.Path.{refl, sym, ap, subst, ◌∙◌}
use Rattle.std.proofs.Common.{arith}
use Rattle.std.proofs.lemmas.Bool.Decides.{nat_tests}
use Rattle.std.proofs.lemmas.Option.{none-some, same_Some}
use Rattle.std.specs.FinMap.Entries.{find}
use Rattle.std.specs.List.{cons_option, filter_map, list_any}
use Rattle.std.specs.Ordering.{eq_by_cmp}
use Rattle.odb_atoms.proofs.Atoms.{uuid_cmp-IsAntisymmetric, uuid_cmp_total}
use Rattle.odb_atoms.proofs.FinMaps.{get-combine, get-entries, get-map_entries, same_key, same_map}
use Rattle.odb_atoms.proofs.Lists.{Member, all_gives, any_gives, both, gives_any, member-map, or_right}
use Rattle.odb_atoms.specs.Atom.{Atom}
use Rattle.odb_atoms.specs.FinMap as map
use Rattle.odb_atoms.specs.FinSet as set
use Rattle.odb_atoms.specs.Members.{has}
use Rattle.odb_atoms.specs.Row.{Row, Selector, cell}
use Rattle.odb_atoms.specs.Uuid.{Uuid, uuid_cmp}
use Rattle.odb_atoms.specs.Value.{Value, has_pair, includes_all, is_atom, map_of, set_of}
use Rattle.odb_cond.specs.Condition.{Function, equal, includes, relates}
use Rattle.odb_cond.specs.Filter as filter
use Rattle.odb_cond.specs.Filter.{Filter, always, member_holds, selects, when}
use Rattle.odb_interest.specs.Keys.{Key, any_row, atoms_in, first_in, is_hit, is_met, key_at, key_of, keys_of, named, needed, row_has}
use Rattle.odb_interest.specs.Unhit.{UnhitStays, selected_by}
use Rattle.odb_tables.specs.Change.{Changes, after, before, changed_by}

first_member : (xs : List Atom) (a : Atom) → first_in xs ≡ Some a → Member a xs
first_member [] a e = absurd (none-some a e)
first_member (x ∷ xs) a e = inl (sym (same_Some x a e))

some_atom : (o : Option Atom) (x : Atom) → is_atom o x ≡ true → is_some o ≡ true
some_atom None x e = e
some_atom (Some v) x e = refl

-- a value that has all of another has its first atom
includes_first : (v w : Value) (a : Atom) → includes_all v w ≡ true → first_in (atoms_in w) ≡ Some a → has v a ≡ true
unfolding map.keys
includes_first (set_of s) (set_of t) a all is = all_gives (set.contains s) (set.items t) all a (first_member (set.items t) a is)
includes_first (set_of s) (map_of n) a all is = absurd (true≢false (sym all))
includes_first (map_of m) (set_of t) a all is = absurd (true≢false (sym all))
includes_first (map_of m) (map_of n) a all is =
    let e = member-map (λ (p : Atom × Atom). p.0) n.entries a (first_member (map.keys n) a is) in
    ap (map.contains_key m) e.2 ∙ some_atom (map.get m e.0.0) e.0.1 (all_gives (has_pair m) n.entries all e.0 e.1)

-- where a condition holds, the column has the atom that it needs
needed_there : (f : Function) (v w : Value) (a : Atom) → relates f v w ≡ true → needed f w ≡ Some a → has v a ≡ true
needed_there equal v w a h is = includes_first v w a (both (includes_all v w) (includes_all w v) h).0 is
needed_there includes v w a h is = includes_first v w a h is
needed_there f v w a h is = absurd (none-some a is)

-- the row has what the key is for
meets : Key → Uuid → Row → Bool
meets any_row u r = true
meets (named c a) u r = has (cell u r c) a

key_meets : (m : filter.Member) (u : Uuid) (r : Row) → member_holds u r m ≡ true → (k : Key) × (key_of m ≡ Some k) × (meets k u r ≡ true)
unfolding meets
key_meets (always true) u r h = (any_row, refl, refl)
key_meets (always false) u r h = absurd (true≢false (sym h))
key_meets (when c) u r h = by (needed c.function c.value) refl
  where
    by : (o : Option Atom) → needed c.function c.value ≡ o → (k : Key) × (key_of (when c) ≡ Some k) × (meets k u r ≡ true)
    by None e = (any_row, ap (λ o. Some (key_at c.column o)) e, refl)
    by (Some a) e = (named c.column a, ap (λ o. Some (key_at c.column o)) e, needed_there c.function (cell u r c.column) c.value a h e)

in_filter_map : {X Y : Type 0} (f : X → Option Y) (xs : List X) (x : X) (y : Y) → Member x xs → f x ≡ Some y → Member y (filter_map f xs)
in_filter_map f [] x y m e = absurd m
in_filter_map f (z ∷ zs) x y (inl h) e = subst (λ o. Member y (cons_option o (filter_map f zs))) (sym (sym (ap f h) ∙ e)) (inl refl)
in_filter_map {Y = Y} f (z ∷ zs) x y (inr m) e = later (f z) (in_filter_map f zs x y m e)
  where
    later : (o : Option Y) → Member y (filter_map f zs) → Member y (cons_option o (filter_map f zs))
    later None n = n
    later (Some w) n = inr n

-- a row that a filter selects has what one of its keys is for
selected_meets : (f : Filter) (u : Uuid) (r : Row) → selects f u r ≡ true → (k : Key) × Member k (keys_of f) × (meets k u r ≡ true)
unfolding meets
selected_meets [] u r h = (any_row, inl refl, refl)
selected_meets (m ∷ ms) u r h =
    let found = any_gives (member_holds u r) (m ∷ ms) h in
    let key = key_meets found.0 u r found.2 in
    (key.0, in_filter_map key_of (m ∷ ms) found.0 key.0 found.1 key.1, key.2)

-- ---- a row of the change

abbrev Entry : Type 0
Entry = Uuid × (Option Row × Option Row)

found_any : (p : Entry → Bool) (es : List Entry) (u : Uuid) (c : Option Row × Option Row) → find uuid_cmp u es ≡ Some c → p (u, c) ≡ true → list_any p es ≡ true
found_any p [] u c is h = absurd (none-some c is)
found_any p (e ∷ es) u c is h = by (eq_by_cmp uuid_cmp u e.0) refl is (found_any p es u c)
  where
    by : (b : Bool) → eq_by_cmp uuid_cmp u e.0 ≡ b → cond b (Some e.1) (find uuid_cmp u es) ≡ Some c → (find uuid_cmp u es ≡ Some c → p (u, c) ≡ true → list_any p es ≡ true) → (p e || list_any p es) ≡ true
    by true t is rest = ap (λ b. b || list_any p es) ((λ i. p (sym (same_key uuid_cmp-IsAntisymmetric u e.0 t) i, same_Some e.1 c is i)) ∙ h)
    by false t is rest = or_right (p e) (list_any p es) (rest is h)

some_rows : (es : List Entry) (u : Uuid) (c : Option Row × Option Row) → find uuid_cmp u es ≡ Some c → nat_lt 0 (length es) ≡ true
some_rows [] u c is = absurd (none-some c is)
some_rows (e ∷ es) u c is = grind (arith, nat_tests)

-- the row is what the change has before it or after it
abbrev IsOneOf : Row → Option Row × Option Row → Type 0
IsOneOf r c = (c.0 ≡ Some r) ⊎ (c.1 ≡ Some r)

row_of_key : (c : Option Row × Option Row) (k : Selector) (a : Atom) (u : Uuid) (r : Row) → IsOneOf r c → has (cell u r k) a ≡ true → (row_has k a u c.0 || row_has k a u c.1) ≡ true
row_of_key c k a u r (inl is) h = ap (λ b. b || row_has k a u c.1) (ap (row_has k a u) is ∙ h)
row_of_key c k a u r (inr is) h = or_right (row_has k a u c.0) (row_has k a u c.1) (ap (row_has k a u) is ∙ h)

meets_met : (d : Changes) (u : Uuid) (c : Option Row × Option Row) (r : Row) (k : Key) → map.get d u ≡ Some c → IsOneOf r c → meets k u r ≡ true → is_met d k ≡ true
unfolding meets map.len
meets_met d u c r any_row is one h = some_rows d.entries u c (sym (get-entries d u) ∙ is)
meets_met d u c r (named k a) is one h =
    found_any (λ e. row_has k a e.0 e.1.0 || row_has k a e.0 e.1.1) d.entries u c (sym (get-entries d u) ∙ is) (row_of_key c k a u r one h)

unselected : (d : Changes) (f : Filter) → is_hit d f ≡ false → (u : Uuid) (c : Option Row × Option Row) (r : Row) → map.get d u ≡ Some c → IsOneOf r c → selects f u r ≡ false
unselected d f miss u c r is one = by (selects f u r) refl
  where
    by : (b : Bool) → selects f u r ≡ b → b ≡ false
    by false e = refl
    by true e =
        let key = selected_meets f u r e in
        absurd (true≢false (sym (gives_any (is_met d) (keys_of f) key.0 key.1 (meets_met d u c r key.0 is one key.2)) ∙ miss))

-- ---- what is selected stays

module _ (f : Filter) (make : Uuid → Row → List Value) where
  abbrev taken : Uuid → Row → Option (List Value)
  taken u r = cond (selects f u r) (Some (make u r)) None

  none_taken : (u : Uuid) (o : Option Row) → ((r : Row) → o ≡ Some r → selects f u r ≡ false) → option_and_then (taken u) o ≡ None
  none_taken u None h = refl
  none_taken u (Some r) h = ap (λ b. cond b (Some (make u r)) None) (h r refl)

  taken_alike : (u : Uuid) (now : Option Row) (o : Option (Option Row × Option Row)) → ((c : Option Row × Option Row) → o ≡ Some c → c.0 ≡ now) → ((c : Option Row × Option Row) (r : Row) → o ≡ Some c → IsOneOf r c → selects f u r ≡ false) → option_and_then (taken u) (after now o) ≡ option_and_then (taken u) now
  taken_alike u now None was none = refl
  taken_alike u now (Some c) was none =
      none_taken u c.1 (λ r e. none c r refl (inr e)) ∙ sym (ap (option_and_then (taken u)) (sym (was c refl)) ∙ none_taken u c.0 (λ r e. none c r refl (inl e)))

pub unhit_stays : UnhitStays
unhit_stays f t d is miss make =
    same_map uuid_cmp_total uuid_cmp-IsAntisymmetric (selected_by f make (changed_by t d)) (selected_by f make t)
    (λ u.
    get-map_entries uuid_cmp_total uuid_cmp-IsAntisymmetric (taken f make) (changed_by t d) u
    ∙ ap (option_and_then (taken f make u)) (get-combine uuid_cmp_total uuid_cmp-IsAntisymmetric after refl t d u)
    ∙ taken_alike f make u (map.get t u) (map.get d u)
    (λ c e. subst (λ o. before (map.get t u) o ≡ map.get t u) e (is u))
    (λ c r e one. unselected d f miss u c r e one)
    ∙ sym (get-map_entries uuid_cmp_total uuid_cmp-IsAntisymmetric (taken f make) t u))
