use Rattle.std.proofs.Common.{rules, ◌≡◌, ◌<◌, ◌≤◌, ◌+◌, ◌⊎◌, Some, List, length, get_or, drop, sym, ap, ◌∙◌}
use mathlib.Core.Logic.{inl, inr}
use Rattle.std.proofs.lemmas.List.{drop_all}
use Rattle.std.proofs.lemmas.Option.{none-some}
use Rattle.std.specs.FinMap.Entries.{find}
use Rattle.odb_atoms.specs.FinMap as finite
use Rattle.odb_atoms.specs.Uuid.{Uuid, uuid_cmp}
use Rattle.odb_tables.specs.Represented.RowIndex.{AddsNewTagsOf}
use Rattle.odb_tables.proofs.KeyedMaps.{get-from_entries}
use Rattle.odb_tables.proofs.RowIndexes.{Sides, next_noted}
use Rattle.odb_tables.proofs.Steps.{front}
use Rattle.odb_tables.proofs.row_index.add_new_tags.Goals as goal

pub loop-row-init : goal.loop-row-init
loop-row-init c = record {
  grows = λ tag u h. h;
  rest = λ u d at. inr (sym (get-from_entries c.rows-row-items.result.now u) ∙ ap (λ m. finite.get m u) c.rows-row-items.ensures.changes ∙ at);
}

pub loop-row-preserved : goal.loop-row-preserved
loop-row-preserved c =
    let es : List (Uuid × Sides) = c.rows-row-items.result.now in
    let i = c.loop-row.row-index in
    let e : Uuid × Sides = c.row-item.result in
    let low : i < length es = search rules in
    let at : e ≡ get_or es i e = search rules in
    let f = c.args.facet.now in
    let old = c.args.pairs.now in
    let new = c.add_new_tags_of.new.pairs in
    record {
      grows = λ tag u h. c.add_new_tags_of.ensures.grows tag u (c.loop-row.invariant.grows tag u h);
      rest = λ u d there. elim (c.loop-row.invariant.rest u d there) as (λ _. AddsNewTagsOf f old new u d ⊎ (find uuid_cmp u (drop (i + 1) es) ≡ Some d)) [
        | inl noted ↦ inl (λ had tag h. c.add_new_tags_of.ensures.grows tag u (noted had tag h))
        | inr found ↦ next_noted f old c.loop-row.pairs new e (drop (i + 1) es) u d c.loop-row.invariant.grows c.in_ok-add_new_tags_of.ensures.ok (ap (find uuid_cmp u) (sym (front es i e low at)) ∙ found)
      ];
    }

pub returns-clause-ok : goal.returns-clause-ok
returns-clause-ok c u d there =
    let es : List (Uuid × Sides) = c.rows-row-items.result.now in
    let past : length es ≤ c.loop-row.row-index = search rules in
    elim (c.loop-row.invariant.rest u d there) as (λ _. AddsNewTagsOf c.args.facet.now c.args.pairs.now c.loop-row.pairs u d) [
      | inl noted ↦ noted
      | inr found ↦ absurd (none-some d (ap (find uuid_cmp u) (sym (drop_all c.loop-row.row-index es past)) ∙ found))
    ]
