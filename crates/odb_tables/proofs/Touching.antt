-- Rows that a draft touched: which tests the rows of an index decide, and which rows stay apart.
use Rattle.std.proofs.Common.{◌≡◌, ◌⊎◌, ℕ, ◌+◌, ◌<◌, Bool, true, false, cond, List, length, map, take, get_or, Option, Some, None, option_and_then, is_some, refl, sym, ap, subst, ◌∙◌}
use mathlib.Core.Bool.{true≢false}
use mathlib.Core.Logic.{inl, inr}
use Rattle.std.proofs.lemmas.List.Folds.{list_any_more}
use Rattle.std.proofs.lemmas.Option.{same_Some}
use Rattle.std.specs.List.{list_all, list_any}
use Rattle.std.specs.Ordering.{eq_by_cmp}
use Rattle.odb_atoms.specs.FinMap as finite
use Rattle.odb_atoms.specs.Represented.Atom.{uuid_of}
use Rattle.odb_atoms.specs.Row.{Row}
use Rattle.odb_atoms.specs.Uuid.{Uuid, uuid_cmp}
use Rattle.odb_atoms.specs.Value.{Value}
use Rattle.odb_atoms.proofs.Atoms.{uuid_cmp-IsAntisymmetric}
use Rattle.odb_atoms.proofs.EachEntry.{get-entry}
use Rattle.odb_atoms.proofs.FinMaps.{same_key}
use Rattle.odb_atoms.proofs.Lists.{any-map, any_gives, either, gives_any}
use Rattle.odb_tables.specs.Database.{Table}
use Rattle.odb_tables.specs.Indexed.{AlikeAt, cells_at}
use Rattle.odb_tables.specs.Represented.Facet.{HasTagsNow, is_tag_now}
use Rattle.odb_tables.specs.Represented.Found.{passing}
use Rattle.odb_tables.specs.Represented.RowIndex.{HasChanged, HasListed, IsOfSame, Suffices}
use Rattle.odb_tables.specs.Represented.RowTest.{have_same_at}
use Rattle.odb_tables.specs.Represented.Key.{uuid_cmp_total}
use Rattle.odb_tables.specs.Represented.Overlay.{passes_now}
use Rattle.odb_tables.specs.Represented.Pairs.{Grows}
use Rattle.odb_tables.specs.declared.row_index.RowIndex.{RowIndex}
use Rattle.odb_tables.proofs.Facets.{cells-same}
use Rattle.odb_tables.proofs.Found.{get-passing}
use Rattle.odb_tables.proofs.Twins.{of_entry, there}

-- ---- which rows pass

-- what holds of an identifier that is listed holds of one of the list
listed-any : (q : Uuid → Bool) (u : Uuid) (us : List Uuid) → list_any (eq_by_cmp uuid_cmp u) us ≡ true → q u ≡ true → list_any q us ≡ true
listed-any q u us listed e =
    let w = any_gives (eq_by_cmp uuid_cmp u) us listed in
    gives_any q us w.0 w.1 (ap q (sym (same_key uuid_cmp-IsAntisymmetric u w.0 w.2)) ∙ e)

module _ (p : Uuid → Row → Bool) (now : Table) where
  abbrev pub passes_here : Uuid → Bool
  passes_here u = passes_now p u (finite.get now u)

  abbrev any_entry : Bool
  any_entry = list_any (of_entry p now) (finite.entries_of now)

  pub one-passes : (us : List Uuid) → list_any passes_here us ≡ true → any_entry ≡ true
  one-passes us e =
      let w = any_gives passes_here us e in
      there p now w.0 (finite.get now w.0) refl w.2

  pub none-else : (old t : Table) (before touched : List Uuid) → Suffices before p old → Suffices touched p t
      → ((u : Uuid) → (finite.get now u ≡ finite.get t u) ⊎ (finite.get now u ≡ finite.get old u))
      → list_any passes_here before ≡ false → list_any passes_here touched ≡ any_entry
  none-else old t before touched enough more parts none = by (list_any passes_here touched) any_entry refl refl
    where
      found : (u : Uuid) → passes_here u ≡ true → list_any passes_here touched ≡ true
      found u e = elim (parts u) as (λ _. list_any passes_here touched ≡ true) [
        | inl is ↦ listed-any passes_here u touched (more.1 u (ap (passes_now p u) (sym is) ∙ e)) e
        | inr is ↦ absurd (true≢false (sym (listed-any passes_here u before (enough.1 u (ap (passes_now p u) (sym is) ∙ e)) e) ∙ none))
      ]

      by : (b c : Bool) → list_any passes_here touched ≡ b → any_entry ≡ c → b ≡ c
      by true true e f = refl
      by false false e f = refl
      by true false e f = sym (one-passes touched e) ∙ f
      by false true e f =
          let w = any_gives (of_entry p now) (finite.entries_of now) f in
          sym e ∙ found w.0.0 (ap (passes_now p w.0.0) (get-entry uuid_cmp_total now w.0 w.1) ∙ w.2)

-- ---- an index

pub still-tagged : (k n : RowIndex) (u : Uuid) (o : Option Row) → IsOfSame k n → Grows k.pairs n.pairs → HasTagsNow k.facet k.pairs u o → HasTagsNow n.facet n.pairs u o
still-tagged k n u o same grown had tag e = grown tag u (had tag (ap (λ f. is_tag_now f tag o) (sym same.1) ∙ e))

-- of the rows that a table has now those that are listed
abbrev listed_of : List Uuid → Table → Table
listed_of us now = passing (λ u r. list_any (eq_by_cmp uuid_cmp u) us) now

pub keeps-changed : (k : RowIndex) (old now : Table) (us : List Uuid) → HasListed us k now → ((u : Uuid) → list_any (eq_by_cmp uuid_cmp u) us ≡ false → finite.get now u ≡ finite.get old u) → HasChanged k old now
keeps-changed k old now us keeps as_it_was = (listed_of us now, λ u. kept u (list_any (eq_by_cmp uuid_cmp u) us) refl, λ u. parts u (list_any (eq_by_cmp uuid_cmp u) us) refl)
  where
    all : (o : Option Row) → option_and_then (λ r. cond true (Some r) None) o ≡ o
    all None = refl
    all (Some r) = refl

    nothing : (o : Option Row) → option_and_then (λ (r : Row). cond false (Some r) None) o ≡ None
    nothing None = refl
    nothing (Some r) = refl

    here : (u : Uuid) (b : Bool) → list_any (eq_by_cmp uuid_cmp u) us ≡ b → finite.get (listed_of us now) u ≡ option_and_then (λ r. cond b (Some r) None) (finite.get now u)
    here u b e = get-passing (λ u r. list_any (eq_by_cmp uuid_cmp u) us) now u ∙ ap (λ c. option_and_then (λ r. cond c (Some r) None) (finite.get now u)) e

    kept : (u : Uuid) (b : Bool) → list_any (eq_by_cmp uuid_cmp u) us ≡ b → HasTagsNow k.facet k.pairs u (finite.get (listed_of us now) u)
    kept u true e = subst (HasTagsNow k.facet k.pairs u) (sym (here u true e ∙ all (finite.get now u))) (keeps u e)
    kept u false e = subst (HasTagsNow k.facet k.pairs u) (sym (here u false e ∙ nothing (finite.get now u))) (λ tag h. absurd (true≢false (sym h)))

    parts : (u : Uuid) (b : Bool) → list_any (eq_by_cmp uuid_cmp u) us ≡ b → (finite.get now u ≡ finite.get (listed_of us now) u) ⊎ (finite.get now u ≡ finite.get old u)
    parts u true e = inl (sym (here u true e ∙ all (finite.get now u)))
    parts u false e = inr (as_it_was u e)

-- ---- what holds of each that is listed

-- one identifier more
pub listed_more : (P : Uuid → Type 0) (us : List (List ℕ)) (i : ℕ) (x : List ℕ) → i < length us → x ≡ get_or us i x → ((u : Uuid) → list_any (eq_by_cmp uuid_cmp u) (map uuid_of (take i us)) ≡ true → P u) → P (uuid_of x) → (u : Uuid) → list_any (eq_by_cmp uuid_cmp u) (map uuid_of (take (i + 1) us)) ≡ true → P u
listed_more P us i x inside is before here u listed = by (either (list_any (λ v. eq_by_cmp uuid_cmp u (uuid_of v)) (take i us)) (eq_by_cmp uuid_cmp u (uuid_of (get_or us i x))) (sym (any-map (eq_by_cmp uuid_cmp u) uuid_of (take (i + 1) us) ∙ list_any_more (λ v. eq_by_cmp uuid_cmp u (uuid_of v)) us i x inside) ∙ listed))
  where
    by : (list_any (λ v. eq_by_cmp uuid_cmp u (uuid_of v)) (take i us) ≡ true) ⊎ (eq_by_cmp uuid_cmp u (uuid_of (get_or us i x)) ≡ true) → P u
    by (inl e) = before u (any-map (eq_by_cmp uuid_cmp u) uuid_of (take i us) ∙ e)
    by (inr e) = subst P (sym (same_key uuid_cmp-IsAntisymmetric u (uuid_of x) (ap (λ y. eq_by_cmp uuid_cmp u (uuid_of y)) is ∙ e))) here

-- what holds of each identifier that is listed, and of each that isn't
pub where_listed : (P : Uuid → Type 0) (u : Uuid) (b : Bool) → (b ≡ true → P u) → (b ≡ false → P u) → P u
where_listed P u true h k = h refl
where_listed P u false h k = k refl

-- ---- rows with the same values as before

pub alike_row : (places : List ℕ) (old now : Table) (u : Uuid) (q r : Row) → finite.get old u ≡ Some q → finite.get now u ≡ Some r → list_all (have_same_at r q) places ≡ true → AlikeAt (cells_at places) old now u
alike_row places old now u q r was is same p there = (q, was, ap (cells_at places) (same_Some p r (sym there ∙ is)) ∙ cells-same r q places same)

pub alike_gone : (f : Row → List Value) (old now : Table) (u : Uuid) → finite.get now u ≡ None → AlikeAt f old now u
alike_gone f old now u gone r there = absurd (true≢false (sym (ap is_some (sym gone ∙ there))))

-- a row that wasn't touched
pub alike_untouched : (f : Row → List Value) (old now : Table) (u : Uuid) → finite.get now u ≡ finite.get old u → AlikeAt f old now u
alike_untouched f old now u same r there = (r, sym same ∙ there, refl)
