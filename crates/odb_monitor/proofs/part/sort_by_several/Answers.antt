use Rattle.std.proofs.Common.{rules, ◌≡◌, ◌++◌, ◌∙◌, ap, drop, length, subst, sym, take}
use Rattle.std.proofs.Math.Seq.{take-append_seam}
use Rattle.std.proofs.lemmas.Fn.{always_returns_same}
use Rattle.std.specs.List.Sorted.{IsSortedByKey}
use Rattle.odb_atoms.specs.Uuid.{uuid_cmp}
use Rattle.odb_monitor.proofs.part.sort_by_several.Goals as goal

pub returns-clause-sorted : goal.returns-clause-sorted
returns-clause-sorted g c =
    let sorted = c.par_sort_unstable_by_key.new.s in
    let rest = drop (length sorted) c.args.sides.now.items in
    let as_long : length sorted ≡ c.args.sides.now.len = search rules in
    let whole : take c.args.sides.now.len (sorted ++ rest) ≡ sorted = ap (λ n. take n (sorted ++ rest)) (sym as_long) ∙ take-append_seam sorted rest in
    subst (λ rows. IsSortedByKey (λ row. row.key) uuid_cmp rows) (sym whole)
    (c.par_sort_unstable_by_key.ensures.sorted (λ row. row.key) (always_returns_same _ _ _ (λ a r f' k. search rules)))
