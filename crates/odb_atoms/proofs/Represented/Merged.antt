-- The value of the entries by which two lists of entries differ.
use Rattle.std.specs.Prelude.{◌≡◌, List, map, refl}
use mathlib.Core.Path.{sym, subst}
use Rattle.odb_atoms.specs.Difference.{changed}
use Rattle.odb_atoms.specs.Represented.Entry.{IsChange, IsRising, merged}
use Rattle.odb_atoms.specs.Represented.Value.{AreAscending, HaveAscendingKeys, map_in, set_in}
use Rattle.odb_atoms.specs.declared.atom.Atom.{Atom}
use Rattle.odb_atoms.proofs.Merges.{IsChange-merged, IsRising-merged}
use Rattle.odb_atoms.proofs.Represented.Entries.{as_element, as_pair, changed-map_in, changed-set_in, elements_ascend, elements_rise, pairs_ascend, pairs_rise}

module _ (xs ys zs : List Atom) (h : AreAscending xs) (k : AreAscending ys) (is : map as_element zs ≡ merged (map as_element xs) (map as_element ys)) where
  pub merged_ascend : AreAscending zs
  merged_ascend = elements_ascend zs (subst IsRising (sym is) (IsRising-merged (map as_element xs) (map as_element ys) (elements_rise xs h) (elements_rise ys k)))

  pub merged_set : set_in zs ≡ changed (set_in xs) (set_in ys)
  merged_set = changed-set_in xs ys zs _ _ h k merged_ascend refl refl (subst (IsChange (map as_element xs) (map as_element ys)) (sym is) (IsChange-merged (map as_element xs) (map as_element ys) (elements_rise xs h) (elements_rise ys k)))

module _ (xs ys zs : List (Atom × Atom)) (h : HaveAscendingKeys xs) (k : HaveAscendingKeys ys) (is : map as_pair zs ≡ merged (map as_pair xs) (map as_pair ys)) where
  pub merged_keys_ascend : HaveAscendingKeys zs
  merged_keys_ascend = pairs_ascend zs (subst IsRising (sym is) (IsRising-merged (map as_pair xs) (map as_pair ys) (pairs_rise xs h) (pairs_rise ys k)))

  pub merged_map : map_in zs ≡ changed (map_in xs) (map_in ys)
  merged_map = changed-map_in xs ys zs _ _ h k merged_keys_ascend refl refl (subst (IsChange (map as_pair xs) (map as_pair ys)) (sym is) (IsChange-merged (map as_pair xs) (map as_pair ys) (pairs_rise xs h) (pairs_rise ys k)))
