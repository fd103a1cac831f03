-- Whether a row was found at all; and what two rows have in the same columns.
use Rattle.std.proofs.Common.{◌≡◌, ℕ, suc, ◌==◌, arith, Bool, true, false, cond, not, ◌&&◌, ◌||◌, List, [], ◌∷◌, length, map, unwrap_or, option_map, Option, Some, None, is_some, Bor, refl, sym, ap, ◌∙◌}
use mathlib.Core.Bool.{true≢false}
use mathlib.Core.Logic.{inl, inr}
use Rattle.std.proofs.lemmas.Bool.Decides.{nat_tests}
use Rattle.std.proofs.lemmas.Option.{none-some, same_Some}
use Rattle.std.specs.FinMap.Entries.{find}
use Rattle.std.specs.List.{list_all, list_any}
use Rattle.std.specs.Ordering.{eq_by_cmp}
use Rattle.odb_atoms.specs.Atom.{Atom, atom_cmp, uuid}
use Rattle.odb_atoms.specs.FinMap as finite
use Rattle.odb_atoms.specs.FinSet as set
use Rattle.odb_atoms.specs.Represented.Value as shown
use Rattle.odb_atoms.specs.Represented.Value.{pair_of}
use Rattle.odb_atoms.specs.declared.atom.Atom as code
use Rattle.odb_atoms.specs.declared.value.Entries.TheVariants as entries
use Rattle.odb_atoms.specs.Row.{Row}
use Rattle.odb_atoms.specs.Uuid.{Uuid, uuid_cmp}
use Rattle.odb_atoms.specs.Value.{Value, is_map, map_of, same_value, same_values, set_of, size}
use Rattle.odb_atoms.proofs.Atoms.{uuid_cmp-IsAntisymmetric}
use Rattle.odb_atoms.proofs.EachEntry.{get-entry}
use Rattle.odb_atoms.proofs.FinMaps.{get-empty, get-entries, same_key}
use Rattle.odb_atoms.proofs.Lists.{Member, any-map, gives_any}
use Rattle.odb_tables.specs.Database.{Table}
use Rattle.odb_tables.specs.Indexed.{cells_at, mentions}
use Rattle.odb_tables.specs.Represented.Found.{Lists, passing}
use Rattle.odb_tables.specs.Represented.RowTest.{have_same_at, is_in}
use Rattle.odb_tables.specs.Represented.Key.{keys_equivalent, uuid_cmp_total}
use Rattle.odb_tables.specs.Represented.Overlay.{passes_now}
use Rattle.odb_tables.proofs.Found.{matches}

-- what is found under an identifier is an entry
found_in : {X : Type 0} (q : Uuid) (es : List (Uuid × X)) (x : X) → find uuid_cmp q es ≡ Some x → Member (q, x) es
found_in q [] x e = absurd (none-some x e)
found_in q (d ∷ es) x e = by (eq_by_cmp uuid_cmp q d.0) refl (found_in q es x) e
  where
    by : (b : Bool) → eq_by_cmp uuid_cmp q d.0 ≡ b → (find uuid_cmp q es ≡ Some x → Member (q, x) es) → cond b (Some d.1) (find uuid_cmp q es) ≡ Some x → Member (q, x) (d ∷ es)
    by true is rest f = inl (λ i. (same_key uuid_cmp-IsAntisymmetric q d.0 is i, sym (same_Some d.1 x f) i))
    by false is rest f = inr (rest f)

none_any : {A : Type 0} (p : A → Bool) (xs : List A) → ((x : A) → Member x xs → p x ≡ false) → list_any p xs ≡ false
none_any p [] h = refl
none_any p (x ∷ xs) h = λ i. h x (inl refl) i || none_any p xs (λ y m. h y (inr m)) i

-- ---- whether a row was found

module _ (p : Uuid → Row → Bool) (t : Table) where
  abbrev pub of_entry : Uuid × Row → Bool
  of_entry e = p e.0 e.1

  pub there : (q : Uuid) (o : Option Row) → finite.get t q ≡ o → passes_now p q o ≡ true → list_any of_entry (finite.entries_of t) ≡ true
  there q None at e = absurd (true≢false (sym e))
  there q (Some r) at e = gives_any of_entry (finite.entries_of t) (q, r) (found_in q (finite.entries_of t) r (sym (get-entries t q) ∙ at)) e

  nothing : (e : Uuid × Row) → Lists [] (passing p t) → Member e (finite.entries_of t) → of_entry e ≡ false
  nothing e all m = sym (all.1 e.0 ∙ matches p t e.0 ∙ ap (passes_now p e.0) (get-entry uuid_cmp_total t e m))

  pub any-found : (us : List Uuid) → Lists us (passing p t) → not (length us == 0) ≡ list_any of_entry (finite.entries_of t)
  any-found [] all = sym (none_any of_entry (finite.entries_of t) (λ e m. nothing e all m))
  any-found (u ∷ us) all =
      let first : list_any (eq_by_cmp uuid_cmp u) (u ∷ us) ≡ true = ap (λ b. b || list_any (eq_by_cmp uuid_cmp u) us) (keys_equivalent.refl u) in
      some_any (length us) ∙ sym (there u (finite.get t u) refl (sym (all.1 u ∙ matches p t u) ∙ first))
    where
      some_any : (n : ℕ) → not (suc n == 0) ≡ true
      some_any n = grind (arith, nat_tests)

-- ---- what two rows have in the same columns

pub same_cells : (r s : Row) (places : List ℕ) → list_all (have_same_at r s) places ≡ same_values (cells_at places r) (cells_at places s)
same_cells r s [] = refl
same_cells r s (i ∷ places) = ap (λ b. have_same_at r s i && b) (same_cells r s places)

abbrev pub nothing_in : Value
nothing_in = set_of set.empty

not_none : (n : ℕ) → (suc n == 0) ≡ false
not_none n = grind (arith, nat_tests)

-- a value that is the same as no elements has none, and is no map
pub same_nothing : (v : Value) → ((size v == 0) && not (is_map v)) ≡ same_value v nothing_in
unfolding finite.len finite.keys finite.empty finite.get
same_nothing (set_of s) = by s.entries
  where
    by : (es : List (Atom × Unit {0})) → ((length es == 0) && true) ≡ (true && list_all (λ a. false) (map (λ (e : Atom × Unit {0}). e.0) es))
    by [] = refl
    by (e ∷ es) = ap (λ b. b && true) (not_none (length es))
same_nothing (map_of m) = by m.entries
  where
    by : (es : List (Atom × Atom)) → ((length es == 0) && false) ≡ false
    by [] = refl
    by (e ∷ es) = ap (λ b. b && false) (not_none (length es))

-- ---- what mentions an identifier

pub mentions_now : (f : Row → Bool) (v : Uuid) (o : Option Row) → passes_now (λ _ s. f s) v o ≡ unwrap_or (option_map f o) false
mentions_now f v None = refl
mentions_now f v (Some r) = refl

pub mentions-nothing : (u : Uuid) → mentions u nothing_in ≡ false
mentions-nothing u = ap is_some (get-empty atom_cmp (uuid u))

pub mentioned_in_pairs : (u : Uuid) (pairs : List (code.Atom × code.Atom)) (v : Value) → shown.Lists (entries.Map pairs) v → list_any (λ pair. is_in (uuid u) (pair_of pair)) pairs ≡ mentions u v
mentioned_in_pairs u pairs (set_of s) listed = absurd listed
mentioned_in_pairs u pairs (map_of m) listed = sym (any-map (is_in (uuid u)) pair_of pairs) ∙ ap (list_any (is_in (uuid u))) listed
