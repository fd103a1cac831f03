use Rattle.std.proofs.Common.{rules, ◌≡◌, ◌<◌, ◌≤◌, arith, List, length, nat_le, slice_get, slice_index_or, Some, None, sym, ap, ◌∙◌}
use Rattle.std.proofs.lemmas.List.Sorted.{IsPartitionPoint-from_clause}
use Rattle.std.proofs.lemmas.Option.{slice_get-get_or, slice_get_past}
use Rattle.odb_chain.specs.Represented.MarkedVersions.{is_between}
use Rattle.odb_chain.proofs.Between.{between_at, comes_up_to, early_first}
use Rattle.odb_chain.proofs.MarkedVersions.{MarkedVersion}
use Rattle.odb_chain.proofs.marked_versions.MarkedVersions.is_between.Goals as goal

pub returns : goal.returns
returns c =
    let a = c.args.after in
    let b = c.args.up_to in
    let ls : List MarkedVersion = c.self.inside.live.now in
    let i = c.partition_point-next.result in
    let x : MarkedVersion = c.index-self-next.result in
    let point = IsPartitionPoint-from_clause (λ (l : MarkedVersion). nat_le l.0 a) ls i c.partition_point-next.ensures.partitioned (early_first a ls c.self.invariant) (λ y r q k. search rules) in
    let inside : i < length ls = search rules in
    let there : slice_get ls i ≡ Some (slice_index_or ls i x) = slice_get-get_or ls i x inside in
    let up : nat_le c.first.inside.version b ≡ comes_up_to b (Some (slice_index_or ls i x)) = ap (λ (l : MarkedVersion). nat_le l.0 b) c.first.view_is in
    up ∙ ap (comes_up_to b) (sym there) ∙ between_at a b ls i c.self.invariant (λ k d low within. point.0 k d (omega arith) low) (λ k d low within. point.1 k d low within) ∙ ap (λ (xs : List MarkedVersion). is_between xs a b) c.self.view_is

pub returns-then-next-self : goal.returns-then-next-self
returns-then-next-self c =
    let a = c.args.after in
    let b = c.args.up_to in
    let ls : List MarkedVersion = c.self.inside.live.now in
    let i = c.partition_point-next.result in
    let point = IsPartitionPoint-from_clause (λ (l : MarkedVersion). nat_le l.0 a) ls i c.partition_point-next.ensures.partitioned (early_first a ls c.self.invariant) (λ y r q k. search rules) in
    let past : length ls ≤ i = search rules in
    let none : slice_get ls i ≡ None = slice_get_past ls i past in
    ap (comes_up_to b) (sym none) ∙ between_at a b ls i c.self.invariant (λ k d low within. point.0 k d (omega arith) low) (λ k d low within. point.1 k d low within) ∙ ap (λ (xs : List MarkedVersion). is_between xs a b) c.self.view_is
