use Rattle.std.proofs.Common.{rules, ◌≡◌, ◌<◌, ◌≤◌, ◌+◌, List, length, drop, get_or, sym, ap, ◌∙◌}
use Rattle.std.proofs.lemmas.List.{drop_all}
use Rattle.odb_tables.specs.Database.{Table}
use Rattle.odb_tables.specs.Represented.Installed.{each_row, one_row, put_in, taken_back}
use Rattle.odb_tables.proofs.Installs.{Entry, get-here, only-new, walk, walk-is, walk-step}
use Rattle.odb_tables.proofs.table.Table.put_in.Goals as goal

pub loop-row-preserved : goal.loop-row-preserved
loop-row-preserved c =
    let es : List Entry = c.rows-row-items.result.now in
    let t : Table = c.loop-row.self in
    let i = c.loop-row.row-index in
    let e : Entry = c.row-item.result in
    let low : i < length es = search rules in
    let at : e ≡ get_or es i e = search rules in
    let new : c.put_in_row.new.self ≡ one_row put_in t e = search rules in
    let there = get-here es c.args.change.now i e c.rows-row-items.ensures.distinct c.rows-row-items.ensures.changes low at in
    record {
      done = ap (λ (u : Table). walk put_in u (drop (i + 1) es)) new ∙ walk-step put_in t es i e low at ∙ c.loop-row.invariant.done;
      only_new = ap (λ (u : Table). each_row taken_back u c.args.change.now) new ∙ only-new t c.args.change.now e there ∙ c.loop-row.invariant.only_new;
    }

pub returns-clause-ok : goal.returns-clause-ok
returns-clause-ok c =
    let es : List Entry = c.rows-row-items.result.now in
    let past : length es ≤ c.loop-row.row-index = search rules in
    ap (walk put_in c.loop-row.self) (sym (drop_all c.loop-row.row-index es past)) ∙ c.loop-row.invariant.done ∙ walk-is put_in c.args.self.now es c.rows-row-items.ensures.distinct ∙ ap (each_row put_in c.args.self.now) c.rows-row-items.ensures.changes
