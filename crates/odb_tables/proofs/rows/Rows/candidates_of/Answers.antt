use Rattle.std.proofs.Common.{rules, ◌≡◌, ◌<◌, ◌≤◌, ◌+◌, ◌⊎◌, true, List, length, get_or, drop, sym, ap, ◌∙◌}
use mathlib.Core.Bool.{true≢false}
use mathlib.Core.Logic.{inl, inr}
use Rattle.std.proofs.lemmas.List.{drop_all}
use Rattle.std.specs.List.{list_any}
use Rattle.std.specs.Ordering.{eq_by_cmp}
use Rattle.odb_atoms.specs.Uuid.{Uuid, uuid_cmp}
use Rattle.odb_cond.specs.Filter.{member_holds}
use Rattle.odb_cond.specs.Represented.Filter.{member_of}
use Rattle.odb_cond.specs.Represented.Prepared.{some_holds}
use Rattle.odb_cond.specs.declared.filter.Member.{Member}
use Rattle.odb_tables.specs.Database.{Table}
use Rattle.odb_tables.specs.Represented.RowIndex.{Covers}
use Rattle.odb_tables.proofs.Covering.{covers, next_covered}
use Rattle.odb_tables.proofs.Steps.{front}
use Rattle.odb_tables.proofs.rows.Rows.candidates_of.Goals as goal

pub loop-member-init : goal.loop-member-init
loop-member-init c u r at h = inr h

pub loop-member-preserved : goal.loop-member-preserved
loop-member-preserved c u r at h =
    let t : Table = c.args.self.now in
    let ms : List Member = c.args.members.now in
    let new : List Uuid = c.add_candidates.new.keys.keys in
    let i = c.loop-member.member-index in
    let m : Member = c.member-item.result in
    let low : i < length ms = search rules in
    let is : m ≡ get_or ms i m = search rules in
    let here : Covers new (λ v s. member_holds v s (member_of m)) t = search rules in
    elim (c.loop-member.invariant u r at h) as (λ _. (list_any (eq_by_cmp uuid_cmp u) new ≡ true) ⊎ (some_holds u r (drop (i + 1) ms) ≡ true)) [
      | inl had ↦ inl (c.add_candidates.ensures.keeps u had)
      | inr more ↦ next_covered new t m (drop (i + 1) ms) u r at here (ap (some_holds u r) (sym (front ms i m low is)) ∙ more)
    ]

pub returns : goal.returns
returns c =
    let t : Table = c.args.self.now in
    let ms : List Member = c.args.members.now in
    let past : length ms ≤ c.loop-member.member-index = search rules in
    covers c.loop-member.keys.keys (λ u r. some_holds u r ms) t (λ u r at h. elim (c.loop-member.invariant u r at h) as (λ _. list_any (eq_by_cmp uuid_cmp u) c.loop-member.keys.keys ≡ true) [
      | inl had ↦ had
      | inr more ↦ absurd (true≢false (sym more ∙ ap (some_holds u r) (drop_all c.loop-member.member-index ms past)))
    ])
