use Rattle.std.proofs.Common.{rules, ◌≡◌, ◌<◌, ◌≤◌, ◌+◌, ◌⊎◌, true, List, length, get_or, drop, sym, ap, ◌∙◌}
use mathlib.Core.Bool.{true≢false}
use mathlib.Core.Logic.{inl, inr}
use Rattle.std.proofs.lemmas.List.{drop_all}
use Rattle.std.specs.List.{list_any}
use Rattle.std.specs.Ordering.{eq_by_cmp}
use Rattle.odb_atoms.specs.Uuid.{Uuid, uuid_cmp}
use Rattle.odb_tables.proofs.Covering.{next_added}
use Rattle.odb_tables.proofs.Steps.{front}
use Rattle.odb_tables.proofs.rows.add_all.Goals as goal

pub loop-key-preserved : goal.loop-key-preserved
loop-key-preserved c =
    let ks : List Uuid = c.args.found.now in
    let new : List Uuid = c.add.new.keys.keys in
    let i = c.loop-key.key-index in
    let k : Uuid = c.key-item.result in
    let low : i < length ks = search rules in
    let at : k ≡ get_or ks i k = search rules in
    record {
      keeps = λ u h. c.add.ensures.keeps u (c.loop-key.invariant.keeps u h);
      rest = λ u h. elim (c.loop-key.invariant.rest u h) as (λ _. (list_any (eq_by_cmp uuid_cmp u) new ≡ true) ⊎ (list_any (eq_by_cmp uuid_cmp u) (drop (i + 1) ks) ≡ true)) [
        | inl had ↦ inl (c.add.ensures.keeps u had)
        | inr more ↦ next_added new k (drop (i + 1) ks) u c.in_ok-add.ensures.ok (ap (list_any (eq_by_cmp uuid_cmp u)) (sym (front ks i k low at)) ∙ more)
      ];
    }

pub returns-clause-ok : goal.returns-clause-ok
returns-clause-ok c u h =
    let ks : List Uuid = c.args.found.now in
    let past : length ks ≤ c.loop-key.key-index = search rules in
    elim (c.loop-key.invariant.rest u h) as (λ _. list_any (eq_by_cmp uuid_cmp u) c.loop-key.keys.keys ≡ true) [
      | inl had ↦ had
      | inr more ↦ absurd (true≢false (sym more ∙ ap (list_any (eq_by_cmp uuid_cmp u)) (drop_all c.loop-key.key-index ks past)))
    ]
