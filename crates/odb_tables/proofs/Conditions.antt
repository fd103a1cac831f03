-- What a condition by `==` or `includes` says of each row of which it holds.
use Rattle.std.proofs.Common.{◌≡◌, true, false, [], ◌∷◌, ⊎_elim, sym, ap, subst, ◌∙◌, Bor, List}
use mathlib.Core.Bool.{true≢false}
use Rattle.std.proofs.lemmas.Option.{same_Some}
use Rattle.std.specs.Ordering.{eq_by_cmp}
use Rattle.odb_atoms.specs.Atom.{atom_cmp, uuid}
use Rattle.odb_atoms.specs.FinSet as set
use Rattle.odb_atoms.specs.Represented.AtomOrder.{atom_cmp_total}
use Rattle.odb_atoms.specs.Represented.Value as shown
use Rattle.odb_atoms.specs.Row.{Row, cell, own_uuid}
use Rattle.odb_atoms.specs.Uuid.{Uuid}
use Rattle.odb_atoms.specs.Value.{Value, includes_all, is_map, map_of, set_of}
use Rattle.odb_atoms.specs.declared.atom.Atom as code
use Rattle.odb_atoms.specs.declared.value.Entries.TheVariants as entries
use Rattle.odb_atoms.proofs.Atoms.{atom_cmp-IsAntisymmetric}
use Rattle.odb_atoms.proofs.FinMaps.{contains_key-keys, same_key}
use Rattle.odb_atoms.proofs.FinSets.{contains-from_list}
use Rattle.odb_atoms.proofs.Lists.{all_gives, any_gives, both, either}
use Rattle.odb_cond.specs.Condition.{Clause, equal, holds, includes, relates}
use Rattle.odb_tables.specs.Indexed.{mentions}
use Rattle.odb_tables.specs.Represented.Facet.{identifier_in}

-- what a set mentions is mentioned by what includes it
included : (c v : Value) (tag : Uuid) → is_map v ≡ false → includes_all c v ≡ true → mentions tag v ≡ true → mentions tag c ≡ true
included (set_of c) (set_of v) tag is all has =
    let w = any_gives (eq_by_cmp atom_cmp (uuid tag)) (set.items v) (sym (contains_key-keys v (uuid tag)) ∙ has) in
    ap (set.contains c) (same_key atom_cmp-IsAntisymmetric (uuid tag) w.0 w.2) ∙ all_gives (set.contains c) (set.items v) all w.0 w.1
included (map_of c) (set_of v) tag is all has = absurd (true≢false (sym all))
included c (map_of v) tag is all has = absurd (true≢false is)

module _ (c : Clause) (tag : Uuid) (is : is_map c.value ≡ false) (has : mentions tag c.value ≡ true) (u : Uuid) (r : Row) (h : holds c u r ≡ true) where
  pub asked_equal : c.function ≡ equal → mentions tag (cell u r c.column) ≡ true
  asked_equal e =
      let same = both (includes_all (cell u r c.column) c.value) (includes_all c.value (cell u r c.column)) (subst (λ f. relates f (cell u r c.column) c.value ≡ true) e h) in
      included (cell u r c.column) c.value tag is same.0 has

  pub asked_included : c.function ≡ includes → mentions tag (cell u r c.column) ≡ true
  asked_included e = included (cell u r c.column) c.value tag is (subst (λ f. relates f (cell u r c.column) c.value ≡ true) e h) has

-- `_uuid` mentions the row's identifier alone
pub named : (c : Clause) (tag u : Uuid) (r : Row) → c.column ≡ own_uuid → mentions tag (cell u r c.column) ≡ true → u ≡ tag
named c tag u r own h =
    let has = sym (contains-from_list atom_cmp_total (uuid u ∷ []) (uuid tag)) ∙ subst (λ s. mentions tag (cell u r s) ≡ true) own h in
    ⊎_elim (λ e. same_Some u tag (ap identifier_in (sym (same_key atom_cmp-IsAntisymmetric (uuid tag) (uuid u) e)))) (λ e. absurd (true≢false (sym e))) (either (eq_by_cmp atom_cmp (uuid tag) (uuid u)) false has)

pub set-listed : (elements : List code.Atom) (v : Value) → shown.Lists (entries.Set elements) v → is_map v ≡ false
set-listed elements (set_of s) listed = λ i. false
set-listed elements (map_of m) listed = absurd listed
