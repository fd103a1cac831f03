use Rattle.std.proofs.Common.{rules, ◌≡◌, ℕ, suc, ◌-◌, ◌<◌, ◌≤◌, arith, List, [], drop, length, slice_get, take, unwrap_or, ap, ◌∙◌}
use Rattle.odb_atoms.specs.FinMap as finite
use Rattle.odb_recent.specs.Represented.Merged.{first_of, merged, with_olds}
use Rattle.odb_recent.specs.Undo.{Undo, olds_at}
use Rattle.odb_recent.proofs.Merging.{merged-more, with-all}
use Rattle.odb_recent.proofs.recent.Recent.merged.Goals as goal

pub loop-left-preserved : goal.loop-left-preserved
loop-left-preserved c =
    let k : ℕ = c.args.table in
    let n : ℕ = c.args.ago in
    let us : List Undo = c.args.self.now.undos in
    let p : ℕ = c.loop-left.left - 1 in
    let some : 0 < c.loop-left.left = search rules in
    let next : c.loop-left.left ≡ suc p = omega (arith, some) in
    let start : c.min-left.result ≤ length us = search rules in
    let most : c.min-left.result ≤ n = search rules in
    let kept : c.loop-left.left ≤ c.min-left.result = c.loop-left.invariant.few in
    let added : c.add_all.new.self ≡ with_olds c.loop-left.rows c.rows_at.result.now = search rules in
    let here : finite.from_entries c.rows_at.result.now ≡ olds_at (unwrap_or (slice_get us p) []) k = search rules in
    record {
      rows = added ∙ with-all c.loop-left.rows c.rows_at.result.now
          ∙ (λ i. finite.combine first_of (c.loop-left.invariant.rows i) (here i))
          ∙ ap (λ m. finite.combine first_of (merged k (drop m (take n us))) (olds_at (unwrap_or (slice_get us p) []) k)) next
          ∙ merged-more k us n p (omega (arith, next, kept, most)) (omega (arith, next, kept, start));
      few = omega (arith, next, kept);
    }
