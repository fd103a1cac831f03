use Rattle.std.proofs.Common.{rules, ◌≡◌, ◌<◌, ◌≤◌, ◌+◌, List, length, drop, get_or, slice_set, sym, ap, ◌∙◌}
use Rattle.std.proofs.lemmas.List.{drop_all}
use Rattle.std.proofs.Math.ListN.{length-set}
use Rattle.odb_tables.specs.Change.{Changes}
use Rattle.odb_tables.specs.Database.{Db, Table}
use Rattle.odb_tables.specs.Represented.Installed.{each_row, put_in, taken_back}
use Rattle.odb_tables.proofs.Installs.{at-end, at-next, each_at, unmoved}
use Rattle.odb_tables.proofs.database.put_in.Goals as goal

pub returns-in_err-put_in-clause-only_new : goal.returns-in_err-put_in-clause-only_new
returns-in_err-put_in-clause-only_new c =
    let ts : Db = c.loop-place.tables.items in
    let cs : List Changes = c.args.changes.now in
    let k = c.loop-place.place in
    let t : Table = c.index_mut.result.now in
    let d : Changes = c.index-changes-place.result in
    let low : k < length ts = search rules in
    let below : k < length cs = search rules in
    let table : t ≡ get_or ts k t = search rules in
    let change : d ≡ get_or cs k d = search rules in
    unmoved taken_back k ts cs t c.put_in.new.self d low below table change c.put_in.ensures.only_new ∙ c.loop-place.invariant.only_new

pub loop-place-preserved : goal.loop-place-preserved
loop-place-preserved c =
    let ts : Db = c.loop-place.tables.items in
    let cs : List Changes = c.args.changes.now in
    let k = c.loop-place.place in
    let t : Table = c.index_mut.result.now in
    let d : Changes = c.index-changes-place.result in
    let low : k < length ts = search rules in
    let below : k < length cs = search rules in
    let table : t ≡ get_or ts k t = search rules in
    let change : d ≡ get_or cs k d = search rules in
    let new : c.put_in.new.self ≡ each_row put_in t d = search rules in
    record {
      long = length-set ts k c.put_in.new.self ∙ c.loop-place.invariant.long;
      done = ap (λ (u : Table). each_at put_in (k + 1) (slice_set ts k u) (drop (k + 1) cs)) new ∙ at-next put_in k ts t d cs low below table change ∙ c.loop-place.invariant.done;
      only_new = unmoved taken_back k ts cs t c.put_in.new.self d low below table change c.put_in.ensures.only_new ∙ c.loop-place.invariant.only_new;
    }

pub returns-clause-ok : goal.returns-clause-ok
returns-clause-ok c =
    let ts : Db = c.loop-place.tables.items in
    let cs : List Changes = c.args.changes.now in
    let k = c.loop-place.place in
    let past : length cs ≤ k = search rules in
    sym (at-end put_in k ts) ∙ ap (each_at put_in k ts) (sym (drop_all k cs past)) ∙ c.loop-place.invariant.done
