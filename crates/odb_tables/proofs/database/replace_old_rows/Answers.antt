use Rattle.std.proofs.Common.{rules, ◌≡◌, ◌<◌, ◌∷◌, [], List, length, get_or, slice_set, add-one, sym, ap, ◌∙◌, arith}
use Rattle.std.proofs.lemmas.List.{nil_from_length}
use Rattle.std.proofs.Math.ListN.{length-set}
use Rattle.odb_tables.specs.Change.{Changes}
use Rattle.odb_tables.specs.Database.{Db, Table}
use Rattle.odb_tables.specs.Represented.Installed.{each_row, each_table, replaced}
use Rattle.odb_tables.proofs.Installs.{at-end, at-step, each_at}
use Rattle.odb_tables.proofs.database.replace_old_rows.Goals as goal

pub loop-change-preserved : goal.loop-change-preserved
loop-change-preserved c =
    let ts : Db = c.loop-change.tables.items in
    let k = c.loop-change.place in
    let t : Table = c.index_mut.result.now in
    let d : Changes = c.in-Some.change in
    let left : List Changes = c.next.new.self.rest.items in
    let step : c.loop-change.change-iterator.rest.items ≡ d ∷ left = search rules in
    let shorter = ap length step in
    let low : k < length ts = omega (arith, shorter, c.loop-change.invariant.long) in
    let table : t ≡ get_or ts k t = search rules in
    let new : c.replace_old_rows.new.self ≡ each_row replaced t d = search rules in
    record {
      long = omega (arith, shorter, c.loop-change.invariant.long, length-set ts k c.replace_old_rows.new.self);
      done = (λ i. each_at replaced (add-one k i) (slice_set ts k (new i)) left) ∙ at-step replaced k ts t d left low table ∙ ap (each_at replaced k ts) (sym step) ∙ c.loop-change.invariant.done;
    }

pub returns : goal.returns
returns c =
    let ts : Db = c.loop-change.tables.items in
    let k = c.loop-change.place in
    let rest : List Changes = c.loop-change.change-iterator.rest.items in
    let long : length rest ≡ c.loop-change.change-iterator.rest.len = search rules in
    let none : rest ≡ [] = nil_from_length rest (long ∙ c.in-None.ensures.steps.0) in
    let start : c.into_iter-change-iterator.result.rest.items ≡ c.args.changes.items = search rules in
    sym (at-end replaced k ts) ∙ ap (each_at replaced k ts) (sym none) ∙ c.loop-change.invariant.done ∙ ap (each_table replaced c.args.tables.now.items) start
