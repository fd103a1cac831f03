use Rattle.std.proofs.Common.{rules, ◌≡◌, ◌<◌, ◌≤◌, List, length, get_or, slice_set, add-one, sym, subst, ◌∙◌}
use Rattle.std.proofs.Math.ListN.{length-set}
use Rattle.odb_tables.specs.Change.{all_changed_by}
use Rattle.odb_tables.specs.Represented.RowIndex.{IsIndexOf, IsReady}
use Rattle.odb_tables.specs.declared.row_index.RowIndex.{RowIndex}
use Rattle.odb_tables.proofs.RowIndexes.{Mixed, all-at, all-set, mixed-at, mixed-end, mixed-step}
use Rattle.odb_tables.proofs.database.cut.Goals as goal

pub loop-place-preserved : goal.loop-place-preserved
loop-place-preserved c =
    let ks : List RowIndex = c.loop-place.indexes.items in
    let i = c.loop-place.place in
    let k : RowIndex = c.index_mut.result.now in
    let cs = c.args.changes.now in
    let new = c.cut_one.new.index in
    let low : i < length ks = search rules in
    let at : k ≡ get_or ks i k = search rules in
    record {
      long = length-set ks i new ∙ c.loop-place.invariant.long;
      back = λ side db is kept. let now = c.loop-place.invariant.back side db is kept in all-set (IsIndexOf db) ks i new (c.cut_one.ensures.taken_back side db is (all-at (IsIndexOf db) ks i k low at now)) now;
      made = λ side db is ready.
          let now = c.loop-place.invariant.made side db is ready in
          subst (λ n. Mixed (IsReady db cs) (IsIndexOf (all_changed_by db cs)) n (slice_set ks i new)) (sym (add-one i)) (mixed-step (IsReady db cs) (IsIndexOf (all_changed_by db cs)) i ks new low (c.cut_one.ensures.made side db is (mixed-at (IsReady db cs) (IsIndexOf (all_changed_by db cs)) i ks k low at now)) now);
    }

pub returns-clause-made : goal.returns-clause-made
returns-clause-made c side db is ready =
    let ks : List RowIndex = c.loop-place.indexes.items in
    let past : length ks ≤ c.loop-place.place = search rules in
    mixed-end (IsReady db c.args.changes.now) (IsIndexOf (all_changed_by db c.args.changes.now)) c.loop-place.place ks past (c.loop-place.invariant.made side db is ready)
