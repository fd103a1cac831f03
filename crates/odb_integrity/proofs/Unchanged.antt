-- Tables of which some rows were changed: two rows agree in the columns of an index, where no two did before, only if one that was changed agrees with another.
use Rattle.std.specs.Prelude.{◌≡◌, ◌⊎◌, ℕ, Bool, true, false, cond, not, ◌&&◌, ◌||◌, ◌==◌, T, List, [], ◌∷◌, map as map_list, is_some, unwrap_or, Option, Some, None, option_map}
use Rattle.std.specs.List.{list_any}
use Rattle.std.specs.Ordering.{eq_by_cmp, is_eq}
use Rattle.std.specs.Cmp.{tied_itself, unsigned_tied}
use Rattle.std.specs.FinMap.Entries.{find, is_sorted}
use mathlib.Core.Path.{refl, sym, ap, ◌∙◌}
use mathlib.Core.Logic.{inl, inr}
use mathlib.Core.Bool.{true≢false}
use Rattle.std.proofs.Common.{arith, Result, Ok, Err, IfOk}
use Rattle.std.proofs.lemmas.Bool.Decides.{nat_tests}
use Rattle.std.proofs.lemmas.Option.{same_Some}
use Rattle.odb_atoms.proofs.Atoms.{uuid_cmp-IsAntisymmetric}
use Rattle.odb_atoms.proofs.Equal.{same_value-itself, same_values-equal}
use Rattle.odb_atoms.proofs.FinMaps.{get-entries, same_key}
use Rattle.odb_atoms.proofs.Lists.{Member, any-map, any_gives, both, either, gives_any, or_right}
use Rattle.odb_atoms.proofs.Rising.{first, second}
use Rattle.odb_atoms.specs.FinMap as map
use Rattle.odb_atoms.specs.Row.{Row}
use Rattle.odb_atoms.specs.Uuid.{Uuid, same_uuid, uuid_cmp}
use Rattle.odb_atoms.specs.Value.{Value, same_values}
use Rattle.odb_tables.specs.Database.{Table}
use Rattle.odb_tables.specs.Indexed.{AlikeAt, HasTwins, StaysApart, cells_at, has_twin, is_twin}
use Rattle.odb_tables.specs.Represented.Key.{uuid_cmp_total}
use Rattle.odb_integrity.specs.Settlement.{has_twins}
use Rattle.odb_integrity.proofs.Listings.{before_later, entry_found}

-- ---- two rows that agree

same_values-itself : (vs : List Value) → same_values vs vs ≡ true
same_values-itself [] = refl
same_values-itself (v ∷ vs) = λ i. same_value-itself v i && same_values-itself vs i

same_values-turned : (vs ws : List Value) → same_values vs ws ≡ same_values ws vs
same_values-turned vs ws = by (same_values vs ws) (same_values ws vs) refl refl
  where
    by : (b c : Bool) → same_values vs ws ≡ b → same_values ws vs ≡ c → b ≡ c
    by true true e f = refl
    by false false e f = refl
    by true false e f = sym (same_values-itself ws) ∙ ap (same_values ws) (sym (same_values-equal vs ws e)) ∙ f
    by false true e f = sym e ∙ ap (same_values vs) (same_values-equal ws vs f) ∙ same_values-itself vs

module _ (f : Row → List Value) where
  abbrev seen_in : List (Uuid × Row) → List (List Value)
  seen_in es = map_list f (map_list (λ e. e.1) es)

  agree_with : (vs : List Value) (es : List (Uuid × Row)) → list_any (same_values vs) (seen_in es) ≡ list_any (λ e. same_values vs (f e.1)) es
  agree_with vs es = any-map (same_values vs) f (map_list (λ e. e.1) es) ∙ any-map (λ r. same_values vs (f r)) (λ e. e.1) es

  abbrev TwoOf : List (Uuid × Row) → Type 0
  TwoOf es = (d : Uuid × Row) × (e : Uuid × Row) × Member d es × Member e es × (eq_by_cmp uuid_cmp e.0 d.0 ≡ false) × (same_values (f d.1) (f e.1) ≡ true)

  two_found : (es : List (Uuid × Row)) → T (is_sorted uuid_cmp es) → has_twins same_values (seen_in es) ≡ true → TwoOf es
  two_found [] up h = absurd (true≢false (sym h))
  two_found (d ∷ es) up h = by (either (list_any (same_values (f d.1)) (seen_in es)) (has_twins same_values (seen_in es)) h) (two_found es (second _ _ up))
    where
      by : (list_any (same_values (f d.1)) (seen_in es) ≡ true) ⊎ (has_twins same_values (seen_in es) ≡ true) → (has_twins same_values (seen_in es) ≡ true → TwoOf es) → TwoOf (d ∷ es)
      by (inl one) rest =
          let w = any_gives (λ e. same_values (f d.1) (f e.1)) es (sym (agree_with (f d.1) es) ∙ one) in
          (d, w.0, inl refl, inr w.1, before_later uuid_cmp_total d.0 es w.0 (first _ _ up) w.1, w.2)
      by (inr later) rest = let w = rest later in (w.0, w.1, inr w.2, inr w.3, w.4, w.5)

  two_make : (es : List (Uuid × Row)) (d e : Uuid × Row) → Member d es → Member e es → eq_by_cmp uuid_cmp e.0 d.0 ≡ false → same_values (f d.1) (f e.1) ≡ true → has_twins same_values (seen_in es) ≡ true
  two_make [] d e m n apart same = absurd m
  two_make (x ∷ es) d e (inl h) (inl k) apart same = absurd (true≢false (sym (ap is_eq (tied_itself uuid_cmp_total e.0)) ∙ ap (λ (y : Uuid × Row). eq_by_cmp uuid_cmp e.0 y.0) (k ∙ sym h) ∙ apart))
  two_make (x ∷ es) d e (inl h) (inr n) apart same = ap (λ b. b || has_twins same_values (seen_in es)) (agree_with (f x.1) es ∙ gives_any (λ y. same_values (f x.1) (f y.1)) es e n (ap (λ (y : Uuid × Row). same_values (f y.1) (f e.1)) (sym h) ∙ same))
  two_make (x ∷ es) d e (inr m) (inl k) apart same = ap (λ b. b || has_twins same_values (seen_in es)) (agree_with (f x.1) es ∙ gives_any (λ y. same_values (f x.1) (f y.1)) es d m (ap (λ (y : Uuid × Row). same_values (f y.1) (f d.1)) (sym k) ∙ same_values-turned (f e.1) (f d.1) ∙ same))
  two_make (x ∷ es) d e (inr m) (inr n) apart same = or_right (list_any (same_values (f x.1)) (seen_in es)) _ (two_make es d e m n apart same)

  found_in : (u : Uuid) (es : List (Uuid × Row)) (r : Row) → find uuid_cmp u es ≡ Some r → Member (u, r) es
  found_in u [] r e = absurd (true≢false (sym (ap is_some e)))
  found_in u (d ∷ es) r e = by (eq_by_cmp uuid_cmp u d.0) refl e (found_in u es r)
    where
      by : (b : Bool) → eq_by_cmp uuid_cmp u d.0 ≡ b → cond b (Some d.1) (find uuid_cmp u es) ≡ Some r → (find uuid_cmp u es ≡ Some r → Member (u, r) es) → Member (u, r) (d ∷ es)
      by true t e rest = inl (λ i. (same_key uuid_cmp-IsAntisymmetric u d.0 t i, same_Some r d.1 (sym e) i))
      by false t e rest = inr (rest e)

-- ---- tables in which rows were changed

number_either_way : (m n : ℕ) → (m == n) ≡ (n == m)
number_either_way m n = grind (arith, nat_tests)

differs : (u v : Uuid) → eq_by_cmp uuid_cmp v u ≡ false → same_uuid u v ≡ false
differs u v e = number_either_way u.number v.number ∙ sym (unsigned_tied v.number u.number) ∙ e

differs_so : (u v : Uuid) → same_uuid u v ≡ false → eq_by_cmp uuid_cmp v u ≡ false
differs_so u v e = unsigned_tied v.number u.number ∙ number_either_way v.number u.number ∙ e

module _ (places : List ℕ) where
  abbrev agrees : Row → Row → Bool
  agrees q r = same_values (cells_at places q) (cells_at places r)

  -- of two rows that agree the first has a twin
  twin_of : (t : Table) (d e : Uuid × Row) → Member d t.entries → Member e t.entries → eq_by_cmp uuid_cmp e.0 d.0 ≡ false → agrees d.1 e.1 ≡ true → has_twin places t d.0 ≡ true
  twin_of t d e m n apart same =
      ap (λ o. unwrap_or (option_map (λ r. list_any (is_twin places d.0 r) (map.entries_of t)) o) false) (get-entries t d.0 ∙ entry_found uuid_cmp_total t.entries d t.sorted m)
      ∙ gives_any (is_twin places d.0 d.1) t.entries e n (λ i. not (differs d.0 e.0 apart i) && same i)

  -- a row with a twin
  pub twin_makes : (t : Table) (u : Uuid) → has_twin places t u ≡ true → has_twins same_values (map_list (cells_at places) (map.values t)) ≡ true
  twin_makes t u e = by (map.get t u) refl e
    where
      not_true : (b : Bool) → not b ≡ true → b ≡ false
      not_true true e = sym e
      not_true false e = refl

      by : (o : Option Row) → map.get t u ≡ o → unwrap_or (option_map (λ r. list_any (is_twin places u r) (map.entries_of t)) o) false ≡ true → has_twins same_values (map_list (cells_at places) (map.values t)) ≡ true
      by None there h = absurd (true≢false (sym h))
      by (Some r) there h =
          let w = any_gives (is_twin places u r) t.entries h in
          let parts = both (not (same_uuid u w.0.0)) (agrees r w.0.1) w.2 in
          two_make (cells_at places) t.entries (u, r) w.0 (found_in (cells_at places) u t.entries r (sym (get-entries t u) ∙ there)) w.1 (differs_so u w.0.0 (not_true (same_uuid u w.0.0) parts.0)) parts.1

  -- where no two rows agreed, and each stays apart, no two do now
  pub none_now : (old now : Table) → ((u : Uuid) → StaysApart places old now u) → has_twins same_values (map_list (cells_at places) (map.values old)) ≡ false → has_twins same_values (map_list (cells_at places) (map.values now)) ≡ false
  none_now old now apart none = by (has_twins same_values (map_list (cells_at places) (map.values now))) refl
    where
      two_before : (w : TwoOf (cells_at places) now.entries) → AlikeAt (cells_at places) old now w.0.0 → AlikeAt (cells_at places) old now w.1.0 → has_twins same_values (map_list (cells_at places) (map.values old)) ≡ true
      two_before w one two =
          let p = one w.0.1 (get-entries now w.0.0 ∙ entry_found uuid_cmp_total now.entries w.0 now.sorted w.2) in
          let q = two w.1.1 (get-entries now w.1.0 ∙ entry_found uuid_cmp_total now.entries w.1 now.sorted w.3) in
          two_make (cells_at places) old.entries (w.0.0, p.0) (w.1.0, q.0) (found_in (cells_at places) w.0.0 old.entries p.0 (sym (get-entries old w.0.0) ∙ p.1)) (found_in (cells_at places) w.1.0 old.entries q.0 (sym (get-entries old w.1.0) ∙ q.1)) w.4 ((λ i. same_values (sym p.2 i) (sym q.2 i)) ∙ w.5)

      cases : (w : TwoOf (cells_at places) now.entries) → StaysApart places old now w.0.0 → StaysApart places old now w.1.0 → true ≡ false
      cases w (inl one) (inl two) = sym (two_before w one two) ∙ none
      cases w (inr one) two = sym (twin_of now w.0 w.1 w.2 w.3 w.4 w.5) ∙ one
      cases w (inl one) (inr two) = sym (twin_of now w.1 w.0 w.3 w.2 (unsigned_tied w.0.0.number w.1.0.number ∙ differs w.0.0 w.1.0 w.4) (same_values-turned (cells_at places w.1.1) (cells_at places w.0.1) ∙ w.5)) ∙ two

      by : (b : Bool) → has_twins same_values (map_list (cells_at places) (map.values now)) ≡ b → b ≡ false
      by true e = let w = two_found (cells_at places) now.entries now.sorted e in cases w (apart w.0.0) (apart w.1.0)
      by false e = refl

-- what was found among the rows that are new or have another value tells of all
pub found_among : {E : Type 0} (r : Result Bool E) (places : List ℕ) (old now : Table) → IfOk r (λ twins. twins ≡ true → HasTwins places now) → IfOk r (λ twins. twins ≡ false → (u : Uuid) → StaysApart places old now u)
    → has_twins same_values (map_list (cells_at places) (map.values old)) ≡ false → IfOk r (λ twins. twins ≡ has_twins same_values (map_list (cells_at places) (map.values now)))
found_among (Ok true) places old now two apart none = let w = two refl in sym (twin_makes places now w.0 w.1)
found_among (Ok false) places old now two apart none = sym (none_now places old now (apart refl) none)
found_among (Err e) places old now two apart none = tt
