use Rattle.std.proofs.Common.{rules, ◌≡◌, ◌<◌, ◌≤◌, ◌+◌, length, get_or, drop, map, sym, ap, ◌∙◌}
use Rattle.std.proofs.lemmas.List.{drop_all}
use Rattle.odb_sessions.specs.Represented.Alike.{stand_in}
use Rattle.odb_sessions.specs.Represented.Digest.{after_stand, after_stands}
use Rattle.odb_sessions.proofs.Steps.{front}
use Rattle.odb_sessions.proofs.digest.with_tables.Goals as goal

pub loop-table-preserved : goal.loop-table-preserved
loop-table-preserved c =
    let ws = c.args.tables.now in
    let i = c.loop-table.table-index in
    let w = c.table-item.result in
    let low : i < length ws = search rules in
    let at : w ≡ get_or ws i w = search rules in
    let mixed : c.with_table-digest.result ≡ after_stand c.loop-table.digest (stand_in c.args.way w) = search rules in
    ap (λ n. after_stands n (map (stand_in c.args.way) (drop (i + 1) ws))) mixed ∙ ap (λ xs. after_stands c.loop-table.digest (map (stand_in c.args.way) xs)) (sym (front ws i w low at)) ∙ c.loop-table.invariant

pub returns : goal.returns
returns c =
    let ws = c.args.tables.now in
    let past : length ws ≤ c.loop-table.table-index = search rules in
    ap (λ xs. after_stands c.loop-table.digest (map (stand_in c.args.way) xs)) (sym (drop_all c.loop-table.table-index ws past)) ∙ c.loop-table.invariant
