use Rattle.std.proofs.Common.{rules, ◌≡◌, arith, List, drop, nat_lt, subst, sym, ap, ◌∙◌}
use Rattle.std.proofs.lemmas.List.Sorted.{IsPartitionPoint-from_clause}
use Rattle.odb_chain.specs.Represented.Log.{AreInOrder, Recorded, is_named, is_recorded}
use Rattle.odb_chain.proofs.Recorded.{early_first, named_after, order_dropped}
use Rattle.odb_chain.proofs.log.Log.from.Goals as goal

pub returns : goal.returns
returns c = λ u there.
    let p = c.args.version in
    let d = c.self.inside.done in
    let ns : List Recorded = c.self.inside.recorded.items in
    let ms : List Recorded = c.after-recorded.result.now in
    let same : ms ≡ drop d ns = c.after-recorded.ensures ∙ ap (drop d) c.as_slice.ensures.value in
    let point = IsPartitionPoint-from_clause (λ (n : Recorded). nat_lt n.0 p) ms c.partition_point-first.result c.partition_point-first.ensures.partitioned (early_first p ms (subst AreInOrder (sym same) (order_dropped d ns c.self.invariant.0))) (λ a r q k. search rules) in
    ap (is_named u) c.after.ensures ∙ named_after p u ms c.partition_point-first.result (λ k e low inside. point.0 k e (omega arith) low) (ap (is_recorded p u) (same ∙ c.self.view_is) ∙ there)
