use mathlib.Core.Path.{sym, ap, subst, ◌∙◌}
use Rattle.std.proofs.lemmas.Result.{IfOk-weaker}
use Rattle.odb_atoms.specs.Difference.{changed}
use Rattle.odb_atoms.specs.Represented.Value.{AreAscending, HaveAscendingKeys, map_in, set_in}
use Rattle.odb_chunks.specs.Represented.Chunks.{items_in}
use Rattle.odb_atoms.proofs.Represented.Entries.{elements_rise, pairs_rise}
use Rattle.odb_atoms.proofs.Represented.Merged.{merged_ascend, merged_keys_ascend, merged_map, merged_set}
use Rattle.odb_atoms.proofs.update.changed.Goals as goal

pub changed_in_chunks-requires : goal.changed_in_chunks-requires
changed_in_chunks-requires c =
    let few = subst AreAscending (sym c.in-Some-few_for.ensures) c.in-Set-Set.ensures'.in_order in
    record { rising = elements_rise (items_in c.in-Some.chunks.now) c.in-Some.ensures.elements.1; few_rising = elements_rise c.in-Some-few_for.few.now few; filled = c.in-Some.ensures.filled }

pub of_element_chunks-requires : goal.of_element_chunks-requires
of_element_chunks-requires c =
    let few = subst AreAscending (sym c.in-Some-few_for.ensures) c.in-Set-Set.ensures'.in_order in
    merged_ascend (items_in c.in-Some.chunks.now) c.in-Some-few_for.few.now _ c.in-Some.ensures.elements.1 few c.in_ok-changed_in_chunks-in-Set-Set.ensures

pub returns-in_ok-changed_in_chunks-in-Set-Set : goal.returns-in_ok-changed_in_chunks-in-Set-Set
returns-in_ok-changed_in_chunks-in-Set-Set c =
    let few = subst AreAscending (sym c.in-Some-few_for.ensures) c.in-Set-Set.ensures'.in_order in
    let made = merged_set (items_in c.in-Some.chunks.now) c.in-Some-few_for.few.now _ c.in-Some.ensures.elements.1 few c.in_ok-changed_in_chunks-in-Set-Set.ensures in
    let right = ap set_in c.in-Some-few_for.ensures ∙ c.in-Set-Set.ensures'.value in
    IfOk-weaker c.of_element_chunks.result _ _ (λ v e. e ∙ made ∙ (λ i. changed (c.in-Some.ensures.elements.0 i) (right i))) c.of_element_chunks.ensures

pub changed_in_chunks-requires-in-Map-Map : goal.changed_in_chunks-requires-in-Map-Map
changed_in_chunks-requires-in-Map-Map c =
    let few = subst HaveAscendingKeys (sym c.in-Some-few_for-2.ensures) c.in-Map-Map.ensures'.in_order in
    record { rising = pairs_rise (items_in c.in-Some-pair_chunks.chunks.now) c.in-Some-pair_chunks.ensures.pairs.1; few_rising = pairs_rise c.in-Some-few_for-2.few.now few; filled = c.in-Some-pair_chunks.ensures.filled }

pub of_pair_chunks-requires : goal.of_pair_chunks-requires
of_pair_chunks-requires c =
    let few = subst HaveAscendingKeys (sym c.in-Some-few_for-2.ensures) c.in-Map-Map.ensures'.in_order in
    merged_keys_ascend (items_in c.in-Some-pair_chunks.chunks.now) c.in-Some-few_for-2.few.now _ c.in-Some-pair_chunks.ensures.pairs.1 few c.in_ok-changed_in_chunks-in-Map-Map.ensures

pub returns-in_ok-changed_in_chunks-in-Map-Map : goal.returns-in_ok-changed_in_chunks-in-Map-Map
returns-in_ok-changed_in_chunks-in-Map-Map c =
    let few = subst HaveAscendingKeys (sym c.in-Some-few_for-2.ensures) c.in-Map-Map.ensures'.in_order in
    let made = merged_map (items_in c.in-Some-pair_chunks.chunks.now) c.in-Some-few_for-2.few.now _ c.in-Some-pair_chunks.ensures.pairs.1 few c.in_ok-changed_in_chunks-in-Map-Map.ensures in
    let right = ap map_in c.in-Some-few_for-2.ensures ∙ c.in-Map-Map.ensures'.value in
    IfOk-weaker c.of_pair_chunks.result _ _ (λ v e. e ∙ made ∙ (λ i. changed (c.in-Some-pair_chunks.ensures.pairs.0 i) (right i))) c.of_pair_chunks.ensures
