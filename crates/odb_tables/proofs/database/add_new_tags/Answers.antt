use Rattle.std.proofs.Common.{rules, ◌≡◌, ◌<◌, ◌≤◌, List, length, get_or, slice_set, add-one, sym, subst, ◌∙◌}
use Rattle.std.proofs.Math.ListN.{length-set}
use Rattle.odb_tables.specs.Represented.RowIndex.{IsIndexOf, IsReady}
use Rattle.odb_tables.specs.declared.row_index.RowIndex.{RowIndex}
use Rattle.odb_tables.proofs.RowIndexes.{Mixed, all-at, all-set, mixed-at, mixed-end, mixed-step}
use Rattle.odb_tables.proofs.database.add_new_tags.Goals as goal

pub returns-in_err-add_new_tags_to-clause-still : goal.returns-in_err-add_new_tags_to-clause-still
returns-in_err-add_new_tags_to-clause-still c db kept =
    let ks : List RowIndex = c.loop-place.indexes.items in
    let i = c.loop-place.place in
    let k : RowIndex = c.index_mut.result.now in
    let low : i < length ks = search rules in
    let at : k ≡ get_or ks i k = search rules in
    let still = c.loop-place.invariant.still db kept in
    all-set (IsIndexOf db) ks i c.add_new_tags_to.new.index (c.add_new_tags_to.ensures.still db (all-at (IsIndexOf db) ks i k low at still)) still

pub loop-place-preserved : goal.loop-place-preserved
loop-place-preserved c =
    let ks : List RowIndex = c.loop-place.indexes.items in
    let i = c.loop-place.place in
    let k : RowIndex = c.index_mut.result.now in
    let cs = c.args.changes.now in
    let new = c.add_new_tags_to.new.index in
    let low : i < length ks = search rules in
    let at : k ≡ get_or ks i k = search rules in
    record {
      long = length-set ks i new ∙ c.loop-place.invariant.long;
      still = λ db kept. let still = c.loop-place.invariant.still db kept in all-set (IsIndexOf db) ks i new (c.add_new_tags_to.ensures.still db (all-at (IsIndexOf db) ks i k low at still)) still;
      ready = λ db is kept.
          let now = c.loop-place.invariant.ready db is kept in
          subst (λ n. Mixed (IsIndexOf db) (IsReady db cs) n (slice_set ks i new)) (sym (add-one i)) (mixed-step (IsIndexOf db) (IsReady db cs) i ks new low (c.in_ok-add_new_tags_to.ensures.ready db is (mixed-at (IsIndexOf db) (IsReady db cs) i ks k low at now)) now);
    }

pub returns-clause-ready : goal.returns-clause-ready
returns-clause-ready c db is kept =
    let ks : List RowIndex = c.loop-place.indexes.items in
    let past : length ks ≤ c.loop-place.place = search rules in
    mixed-end (IsIndexOf db) (IsReady db c.args.changes.now) c.loop-place.place ks past (c.loop-place.invariant.ready db is kept)
